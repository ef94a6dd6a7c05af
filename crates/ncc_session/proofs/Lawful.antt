-- The machine of a session is lawful: each move takes an input or a fact, and what comes later changes none.
use Rattle.std.proofs.Common.{◌≡◌, ◌+◌, ◌<◌, Bool, true, false, Option, Some, None, List, [], ◌∷◌, ◌++◌, length, refl, ap, subst, arith}
use Rattle.std.specs.Prelude.{if◌then◌else◌}
use Rattle.ncc_stream.specs.Stream.{IsLawful, further}
use Rattle.ncc_session.specs.declared.config.ConnConfig.{ConnConfig}
use Rattle.ncc_session.specs.declared.state.ConnState.{ConnState}
use Rattle.ncc_session.specs.declared.state.ConnState.TheVariants.{Ended}
use Rattle.ncc_session.specs.declared.ask.Fact.{Fact}
use Rattle.ncc_session.specs.Question.{Question, fits}
use Rattle.ncc_session.specs.Core.{Next, Doing, idle, opened, asks, Situation}
use Rattle.ncc_session.specs.Turns.{Turned, freed, heard}
use Rattle.ncc_session.specs.Session.{Input, Standing, on_input, reads, hears, acts, goes_by, move}

-- what a move owes, where it is made by these inputs and facts with more behind
pub record Owes (next : List Input → List Fact → Option Standing) (xs : List Input) (fs : List Fact) (t : Standing) : Type 0 where
  pub shrinks : length t.items + length t.facts < length xs + length fs
  pub extends : (ys : List Input) (gs : List Fact) → next ys gs ≡ Some (further ys gs t)

abbrev made : Turned → List Input → List Fact → Standing
made u xs fs = record { core = u.place; items = xs; facts = fs; written = u.written }

same_some : (a b : Standing) → Some a ≡ Some b → a ≡ b
same_some a b e = cc

reads_owes : (config : ConnConfig) (p : Situation) (xs : List Input) (fs : List Fact) (t : Standing) → reads config p xs fs ≡ Some t
    → Owes (λ ys gs. reads config p (xs ++ ys) (fs ++ gs)) xs fs t
reads_owes config p [] fs t e = absurd (cc)
reads_owes config p (x ∷ xs) fs t e =
    let u = made (on_input config p p.state x) xs fs in
    let is : u ≡ t = same_some u t e in
    let owed : Owes (λ ys gs. reads config p (x ∷ xs ++ ys) (fs ++ gs)) (x ∷ xs) fs u =
    record { shrinks = omega arith; extends = λ ys gs. refl } in
    subst (Owes (λ ys gs. reads config p (x ∷ xs ++ ys) (fs ++ gs)) (x ∷ xs) fs) is owed

hears_by : (b : Bool) (u t : Standing) (next : List Input → List Fact → Standing) (xs : List Input) (f : Fact) (fs : List Fact)
    → (if b then Some u else None) ≡ Some t → length u.items + length u.facts < length xs + length (f ∷ fs)
    → ((ys : List Input) (gs : List Fact) → next ys gs ≡ further ys gs u)
    → Owes (λ ys gs. if b then Some (next ys gs) else None) xs (f ∷ fs) t
hears_by false u t next xs f fs e less same = absurd (cc)
hears_by true u t next xs f fs e less same =
    let is : u ≡ t = same_some u t e in
    let owed : Owes (λ ys gs. Some (next ys gs)) xs (f ∷ fs) u =
    record { shrinks = less; extends = λ ys gs. ap Some (same ys gs) } in
    subst (Owes (λ ys gs. Some (next ys gs)) xs (f ∷ fs)) is owed

hears_owes : (config : ConnConfig) (p : Situation) (q : Question) (n : Next) (xs : List Input) (fs : List Fact) (t : Standing)
    → hears config p q n xs fs ≡ Some t → Owes (λ ys gs. hears config p q n (xs ++ ys) (fs ++ gs)) xs fs t
hears_owes config p q n xs [] t e = absurd (cc)
hears_owes config p q n xs (f ∷ fs) t e =
    let u = made (heard config (freed p) q n f) xs fs in
    hears_by (fits q f) u t (λ ys gs. made (heard config (freed p) q n f) (xs ++ ys) (fs ++ gs)) xs f fs e (omega arith)
    (λ ys gs. refl)

acts_owes : (config : ConnConfig) (p : Situation) (d : Doing) (xs : List Input) (fs : List Fact) (t : Standing)
    → acts config p d xs fs ≡ Some t → Owes (λ ys gs. acts config p d (xs ++ ys) (fs ++ gs)) xs fs t
acts_owes config p (asks q n) xs fs t e = hears_owes config p q n xs fs t e
acts_owes config p idle xs fs t e = reads_owes config p xs fs t e
acts_owes config p (opened tx) xs fs t e = reads_owes config p xs fs t e

goes_owes : (config : ConnConfig) (p : Situation) (s : ConnState) (xs : List Input) (fs : List Fact) (t : Standing)
    → goes_by config p s xs fs ≡ Some t → Owes (λ ys gs. goes_by config p s (xs ++ ys) (fs ++ gs)) xs fs t
goes_owes config p (Ended stop) xs fs t e = reads_owes config p xs fs t e
goes_owes config p _ xs fs t e = acts_owes config p p.doing xs fs t e

move_owes : (config : ConnConfig) (p : Situation) (xs : List Input) (fs : List Fact) (t : Standing) → move config p xs fs ≡ Some t
    → Owes (λ ys gs. move config p (xs ++ ys) (fs ++ gs)) xs fs t
unfolding move
move_owes config p xs fs t e = goes_owes config p p.state xs fs t e

pub lawful : (config : ConnConfig) → IsLawful (move config)
lawful config = record {
  shrinks = λ p xs fs t e. (move_owes config p xs fs t e).shrinks;
  extends = λ p xs fs t ys gs e. (move_owes config p xs fs t e).extends ys gs;
}
