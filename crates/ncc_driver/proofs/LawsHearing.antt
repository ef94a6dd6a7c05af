-- What a session makes of the items that came on its link, one item after another.
use Rattle.std.proofs.Common.{◌≡◌, ℕ, ◌+◌, ◌<◌, false, List, [], ◌∷◌, ◌++◌, length, Option, Some, None}
use Rattle.std.proofs.Common.{refl, sym, ap, ◌∙◌, subst, arith}
use Rattle.ncc_stream.specs.Stream.{IsLawful, further, behind, still, going}
use Rattle.ncc_stream.proofs.Going.{going_none, going_some}
use Rattle.ncc_driver.specs.declared.config.SessionConfig.{SessionConfig}
use Rattle.ncc_driver.specs.declared.standing.Asked.{Asked}
use Rattle.ncc_driver.specs.declared.standing.Stage.{Stage}
use Rattle.ncc_driver.specs.declared.standing.Stage.TheVariants as stage
use Rattle.ncc_driver.specs.declared.link.Item.{Item}
use Rattle.ncc_driver.specs.Work.{Job}
use Rattle.ncc_driver.specs.Session.{Listening, Standing, answered, turned, takes_by, takes}
use Rattle.ncc_driver.proofs.LawsTurns.{is_asking}

-- ---- the machine is lawful

-- what a move owes, where it is made by these items and facts with more behind
record Owes (next : List Item → List (Unit {0}) → Option Standing) (xs : List Item) (fs : List (Unit {0})) (t : Standing) : Type 0 where
  shrinks : length t.items + length t.facts < length xs + length fs
  extends : (ys : List Item) (gs : List (Unit {0})) → next ys gs ≡ Some (further ys gs t)

same_some : (a b : Standing) → Some a ≡ Some b → a ≡ b
same_some a b e = cc

owes_by : (config : SessionConfig) (job : Job) (now : ℕ) (l : Listening) (st : Stage) (item : Item) (items : List Item)
    (facts : List (Unit {0})) (t : Standing) → takes_by config job now l st item items facts ≡ Some t
    → Owes (λ ys gs. takes_by config job now l st item (items ++ ys) (facts ++ gs)) (item ∷ items) facts t
owes_by config job now l (stage.Awaits asked) item items facts t e =
    let a = answered config job now l asked item in
    let u : Standing = record {
      core = record { place = a.place; taken = l.taken + 1 };
      items = items;
      facts = facts;
      written = a.actions;
    } in
    let owed : Owes (λ ys gs. takes_by config job now l (stage.Awaits asked) item (items ++ ys) (facts ++ gs)) (item ∷ items) facts u =
    record { shrinks = omega arith; extends = λ ys gs. refl } in
    subst (Owes (λ ys gs. takes_by config job now l (stage.Awaits asked) item (items ++ ys) (facts ++ gs)) (item ∷ items) facts)
    (same_some u t e) owed
owes_by config job now l _ item items facts t e = absurd (cc)

owes : (config : SessionConfig) (job : Job) (now : ℕ) (l : Listening) (xs : List Item) (facts : List (Unit {0})) (t : Standing)
    → takes config job now l xs facts ≡ Some t → Owes (λ ys gs. takes config job now l (xs ++ ys) (facts ++ gs)) xs facts t
unfolding takes
owes config job now l [] facts t e = absurd (cc)
owes config job now l (item ∷ items) facts t e = owes_by config job now l l.place.core.stage item items facts t e

pub lawful : (config : SessionConfig) (job : Job) (now : ℕ) → IsLawful (takes config job now)
lawful config job now = record {
  shrinks = λ l xs fs t e. (owes config job now l xs fs t e).shrinks;
  extends = λ l xs fs t ys gs e. (owes config job now l xs fs t e).extends ys gs;
}

-- ---- the same, item by item

abbrev pub next : SessionConfig → Job → ℕ → Listening → Asked → Item → Listening
next config job now l asked item = record { place = (answered config job now l asked item).place; taken = l.taken + 1 }

abbrev pub hear_at : SessionConfig → Job → ℕ → Listening → Item → List Item → (Listening → Standing) → Stage → Standing
hear_at config job now l item items go (stage.Awaits asked) =
    behind (answered config job now l asked item).actions (go (next config job now l asked item))
hear_at config job now l item items go _ = still l (item ∷ items) []

unfoldable pub hear : SessionConfig → Job → ℕ → Listening → List Item → Standing
hear config job now l [] = still l [] []
hear config job now l (item ∷ items) = hear_at config job now l item items (λ k. hear config job now k items) l.place.core.stage

hear_is : (config : SessionConfig) (job : Job) (now : ℕ) (l : Listening) (item : Item) (items : List Item) (st : Stage)
    → l.place.core.stage ≡ st
    → hear config job now l (item ∷ items) ≡ hear_at config job now l item items (λ k. hear config job now k items) st
unfolding hear
hear_is config job now l item items st e = ap (λ (x : Stage). hear_at config job now l item items (λ k. hear config job now k items) x) e

pub hear_asked : (config : SessionConfig) (job : Job) (now : ℕ) (l : Listening) (asked : Asked) (item : Item) (items : List Item)
    → l.place.core.stage ≡ stage.Awaits asked
    → hear config job now l (item ∷ items)
    ≡ behind (answered config job now l asked item).actions (hear config job now (next config job now l asked item) items)
hear_asked config job now l asked item items e = hear_is config job now l item items (stage.Awaits asked) e

hear_by : (config : SessionConfig) (job : Job) (now : ℕ) (l : Listening) (item : Item) (items : List Item) (st : Stage)
    → l.place.core.stage ≡ st → is_asking st ≡ false → hear config job now l (item ∷ items) ≡ still l (item ∷ items) []
hear_by config job now l item items (stage.Awaits asked) e f = absurd (cc)
hear_by config job now l item items st e f = hear_is config job now l item items st e

takes_none_by : (config : SessionConfig) (job : Job) (now : ℕ) (l : Listening) (item : Item) (items : List Item) (st : Stage)
    → is_asking st ≡ false → takes_by config job now l st item items [] ≡ None
takes_none_by config job now l item items (stage.Awaits asked) f = absurd (cc)
takes_none_by config job now l item items _ f = refl

pub hear_not : (config : SessionConfig) (job : Job) (now : ℕ) (l : Listening) (items : List Item) → is_asking l.place.core.stage ≡ false
    → hear config job now l items ≡ still l items []
unfolding hear
hear_not config job now l [] f = refl
hear_not config job now l (item ∷ items) f = hear_by config job now l item items l.place.core.stage refl f

takes_nothing : (config : SessionConfig) (job : Job) (now : ℕ) (l : Listening) → takes config job now l [] [] ≡ None
unfolding takes
takes_nothing config job now l = refl

takes_none : (config : SessionConfig) (job : Job) (now : ℕ) (l : Listening) (item : Item) (items : List Item)
    → is_asking l.place.core.stage ≡ false → takes config job now l (item ∷ items) [] ≡ None
unfolding takes
takes_none config job now l item items f = takes_none_by config job now l item items l.place.core.stage f

takes_one : (config : SessionConfig) (job : Job) (now : ℕ) (l : Listening) (asked : Asked) (item : Item) (items : List Item)
    → l.place.core.stage ≡ stage.Awaits asked
    → takes config job now l (item ∷ items) [] ≡ turned (answered config job now l asked item) (l.taken + 1) items []
unfolding takes
takes_one config job now l asked item items e = ap (λ (x : Stage). takes_by config job now l x item items []) e

going_by : (config : SessionConfig) (job : Job) (now : ℕ) (l : Listening) (item : Item) (items : List Item) (st : Stage)
    → l.place.core.stage ≡ st
    → ((k : Listening) → going (takes config job now) k items [] ≡ hear config job now k items)
    → going (takes config job now) l (item ∷ items) [] ≡ hear config job now l (item ∷ items)
going_by config job now l item items (stage.Awaits asked) e ih =
    let a = answered config job now l asked item in
    let k = next config job now l asked item in
    going_some (takes config job now) (lawful config job now) l (item ∷ items) []
    (record { core = k; items = items; facts = []; written = a.actions }) (takes_one config job now l asked item items e)
    ∙ ap (behind a.actions) (ih k)
    ∙ sym (hear_asked config job now l asked item items e)
going_by config job now l item items _ e ih =
    let f = ap is_asking e in
    going_none (takes config job now) (lawful config job now) l (item ∷ items) [] (takes_none config job now l item items f)
    ∙ sym (hear_not config job now l (item ∷ items) f)

pub going_is : (config : SessionConfig) (job : Job) (now : ℕ) (l : Listening) (items : List Item)
    → going (takes config job now) l items [] ≡ hear config job now l items
unfolding hear
going_is config job now l [] = going_none (takes config job now) (lawful config job now) l [] [] (takes_nothing config job now l)
going_is config job now l (item ∷ items) =
    going_by config job now l item items l.place.core.stage refl (λ k. going_is config job now k items)

-- ---- what holds of it, by a walk over the items

module _ (config : SessionConfig) (job : Job) (now : ℕ) (P : Listening → List Item → Standing → Type 0)
    (none : (l : Listening) → P l [] (still l [] []))
    (asks : (l : Listening) (asked : Asked) (item : Item) (items : List Item) → l.place.core.stage ≡ stage.Awaits asked
    → let k = next config job now l asked item in P k items (hear config job now k items)
    → P l (item ∷ items) (behind (answered config job now l asked item).actions (hear config job now k items)))
    (ends : (l : Listening) (item : Item) (items : List Item) → is_asking l.place.core.stage ≡ false
    → P l (item ∷ items) (still l (item ∷ items) [])) where
  walk_by : (l : Listening) (item : Item) (items : List Item) (st : Stage) → l.place.core.stage ≡ st
      → ((k : Listening) → P k items (hear config job now k items)) → P l (item ∷ items) (hear config job now l (item ∷ items))
  walk_by l item items (stage.Awaits asked) e ih =
      subst (λ (r : Standing). P l (item ∷ items) r) (sym (hear_asked config job now l asked item items e))
      (asks l asked item items e (ih (next config job now l asked item)))
  walk_by l item items _ e ih =
      subst (λ (r : Standing). P l (item ∷ items) r) (sym (hear_not config job now l (item ∷ items) (ap is_asking e)))
      (ends l item items (ap is_asking e))

  pub walk : (l : Listening) (items : List Item) → P l items (hear config job now l items)
  unfolding hear
  walk l [] = none l
  walk l (item ∷ items) = walk_by l item items l.place.core.stage refl (λ k. walk k items)
