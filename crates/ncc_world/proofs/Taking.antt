-- Who is ready or late is taken out of a room, one after the other, until nobody is.
use Rattle.std.proofs.Common.{◌≡◌, ℕ, ◌<◌, ◌≤◌, List, [], ◌∷◌, ◌++◌, None, Some, Bool, true, false, cond, not}
use Rattle.std.proofs.Common.{refl, ap, sym, ◌∙◌, subst, arith, length, append_assoc, append-nil}
use Rattle.std.specs.Prelude.{nat_eq}
use Rattle.std.specs.List.{AllByRecursion}
use Rattle.ncc_wait.specs.declared.outcomes.Outcome.{Outcome}
use Rattle.ncc_wait.specs.declared.parked.Parked.{Parked}
use Rattle.ncc_wait.specs.Room.{Ascending, is_settled, next, outcome_for, without}
use Rattle.ncc_world.proofs.Rooms.{Above, eq_no, eq_yes, kept_test, without_above}

-- It is ready or late, at a member that has applied nothing.
abbrev pub is_over : ℕ → Parked → Bool
is_over now p = is_settled (outcome_for 0 now p)

-- the numbers of those, and who waits on
unfoldable pub over_in : ℕ → List Parked → List ℕ
over_in now [] = []
over_in now (p ∷ ps) = cond (is_over now p) (p.conn ∷ over_in now ps) (over_in now ps)

unfoldable pub stay_in : ℕ → List Parked → List Parked
stay_in now [] = []
stay_in now (p ∷ ps) = cond (is_over now p) (stay_in now ps) (p ∷ stay_in now ps)

pub over_both : (now : ℕ) (ps qs : List Parked) → over_in now (ps ++ qs) ≡ over_in now ps ++ over_in now qs
unfolding over_in
over_both now [] qs = refl
over_both now (p ∷ ps) qs = go (is_over now p) (over_both now ps qs) where
  go : (b : Bool) → over_in now (ps ++ qs) ≡ over_in now ps ++ over_in now qs
      → cond b (p.conn ∷ over_in now (ps ++ qs)) (over_in now (ps ++ qs))
      ≡ cond b (p.conn ∷ over_in now ps) (over_in now ps) ++ over_in now qs
  go true h = ap (λ (x : List ℕ). p.conn ∷ x) h
  go false h = h

pub stay_both : (now : ℕ) (ps qs : List Parked) → stay_in now (ps ++ qs) ≡ stay_in now ps ++ stay_in now qs
unfolding stay_in
stay_both now [] qs = refl
stay_both now (p ∷ ps) qs = go (is_over now p) (stay_both now ps qs) where
  go : (b : Bool) → stay_in now (ps ++ qs) ≡ stay_in now ps ++ stay_in now qs
      → cond b (stay_in now (ps ++ qs)) (p ∷ stay_in now (ps ++ qs)) ≡ cond b (stay_in now ps) (p ∷ stay_in now ps) ++ stay_in now qs
  go true h = h
  go false h = ap (λ (x : List Parked). p ∷ x) h

-- ---- one is taken out

-- Without some number there are no more.
no_more : (n : ℕ) (ps : List Parked) → length (without n ps) ≤ length ps
no_more n [] = omega arith
no_more n (p ∷ ps) = go (nat_eq p.conn n) (no_more n ps) where
  go : (b : Bool) → length (without n ps) ≤ length ps → length (cond (not b) (p ∷ without n ps) (without n ps)) ≤ length (p ∷ ps)
  go true h = omega (arith, h)
  go false h = omega (arith, h)

-- The one that is next is the first, or one of the others.
is_first : (now : ℕ) (p : Parked) (ps : List Parked) (x : ℕ × Outcome) → next 0 now (p ∷ ps) ≡ Some x → is_over now p ≡ true
    → p.conn ≡ x.0
unfolding next
is_first now p ps x e f =
    let k : Some (p.conn, outcome_for 0 now p) ≡ Some x =
    ap (λ (b : Bool). cond b (Some (p.conn, outcome_for 0 now p)) (next 0 now ps)) (sym f) ∙ e in
    let same : (p.conn, outcome_for 0 now p) ≡ x = cc in ap (λ (y : ℕ × Outcome). y.0) same

is_later : (now : ℕ) (p : Parked) (ps : List Parked) (x : ℕ × Outcome) → next 0 now (p ∷ ps) ≡ Some x → is_over now p ≡ false
    → next 0 now ps ≡ Some x
unfolding next
is_later now p ps x e f = ap (λ (b : Bool). cond b (Some (p.conn, outcome_for 0 now p)) (next 0 now ps)) (sym f) ∙ e

-- Without the one that is next there are fewer.
pub fewer : (now : ℕ) (ps : List Parked) (x : ℕ × Outcome) → next 0 now ps ≡ Some x → length (without x.0 ps) < length ps
unfolding next
fewer now [] x e = absurd (cc)
fewer now (p ∷ ps) x e = go (is_over now p) refl (λ k. fewer now ps x k) where
  shorter : (b : Bool) → b ≡ true → length (cond (not b) (p ∷ without x.0 ps) (without x.0 ps)) < length (p ∷ ps)
  shorter true h = omega (arith, no_more x.0 ps)
  shorter false h = absurd (cc)

  longer : (b : Bool) → length (without x.0 ps) < length ps → length (cond (not b) (p ∷ without x.0 ps) (without x.0 ps)) < length (p ∷ ps)
  longer true h = omega (arith, h)
  longer false h = omega (arith, h)

  go : (b : Bool) → is_over now p ≡ b → (next 0 now ps ≡ Some x → length (without x.0 ps) < length ps)
      → length (without x.0 (p ∷ ps)) < length (p ∷ ps)
  go true f more = shorter (nat_eq p.conn x.0) (eq_yes p.conn x.0 (is_first now p ps x e f))
  go false f more = longer (nat_eq p.conn x.0) (more (is_later now p ps x e f))

next_above : (now n : ℕ) (ps : List Parked) (x : ℕ × Outcome) → AllByRecursion (Above n) ps → next 0 now ps ≡ Some x → n < x.0
unfolding next
next_above now n [] x h e = absurd (cc)
next_above now n (p ∷ ps) x h e = go (is_over now p) refl (λ k. next_above now n ps x h.1 k) where
  go : (b : Bool) → is_over now p ≡ b → (next 0 now ps ≡ Some x → n < x.0) → n < x.0
  go true f more = let same : p.conn ≡ x.0 = is_first now p ps x e f in omega (arith, h.0, same)
  go false f more = more (is_later now p ps x e f)

all_without : (P : Parked → Type 0) (n : ℕ) (ps : List Parked) → AllByRecursion P ps → AllByRecursion P (without n ps)
all_without P n [] h = tt
all_without P n (p ∷ ps) h = go (nat_eq p.conn n) (all_without P n ps h.1) where
  go : (b : Bool) → AllByRecursion P (without n ps) → AllByRecursion P (cond (not b) (p ∷ without n ps) (without n ps))
  go true k = k
  go false k = (h.0, k)

-- what is so where this number is taken out
pub record Taken (now : ℕ) (ps : List Parked) (n : ℕ) : Type 0 where
  pub over : over_in now ps ≡ n ∷ over_in now (without n ps)
  pub stay : stay_in now (without n ps) ≡ stay_in now ps
  pub ascends : Ascending (without n ps)

pub taken : (now : ℕ) (ps : List Parked) (x : ℕ × Outcome) → Ascending ps → next 0 now ps ≡ Some x → Taken now ps x.0
unfolding next Ascending over_in stay_in
taken now [] x a e = absurd (cc)
taken now (p ∷ ps) x a e = go (is_over now p) refl (λ k. taken now ps x a.1 k) where
  go : (b : Bool) → is_over now p ≡ b → (next 0 now ps ≡ Some x → Taken now ps x.0) → Taken now (p ∷ ps) x.0
  go true f more =
      let same : p.conn ≡ x.0 = is_first now p ps x e f in
      let gone : without x.0 (p ∷ ps) ≡ ps =
      ap (λ (b : Bool). cond (not b) (p ∷ without x.0 ps) (without x.0 ps)) (eq_yes p.conn x.0 same)
      ∙ without_above x.0 ps (subst (λ n. AllByRecursion (Above n) ps) same a.0) in
      record {
        over = ap (λ (b : Bool). cond b (p.conn ∷ over_in now ps) (over_in now ps)) f
            ∙ ap (λ n. n ∷ over_in now ps) same ∙ ap (λ (l : List Parked). x.0 ∷ over_in now l) (sym gone);
        stay = ap (stay_in now) gone ∙ ap (λ (b : Bool). cond b (stay_in now ps) (p ∷ stay_in now ps)) (sym f);
        ascends = subst Ascending (sym gone) a.1;
      }
  go false f rest =
      let k : next 0 now ps ≡ Some x = is_later now p ps x e f in
      let low : p.conn < x.0 = next_above now p.conn ps x a.0 k in
      let kept : without x.0 (p ∷ ps) ≡ p ∷ without x.0 ps =
      kept_test (nat_eq p.conn x.0) p (without x.0 ps) (without x.0 ps) (eq_no p.conn x.0 (λ h. absurd (omega (arith, low, h)))) refl in
      let more : Taken now ps x.0 = rest k in
      record {
        over = ap (λ (b : Bool). cond b (p.conn ∷ over_in now ps) (over_in now ps)) f ∙ more.over
            ∙ ap (λ (l : List ℕ). x.0 ∷ l)
            (ap (λ (b : Bool). cond b (p.conn ∷ over_in now (without x.0 ps)) (over_in now (without x.0 ps))) (sym f)
            ∙ ap (over_in now) (sym kept));
        stay = ap (stay_in now) kept
            ∙ ap (λ (b : Bool). cond b (stay_in now (without x.0 ps)) (p ∷ stay_in now (without x.0 ps))) f
            ∙ ap (λ (l : List Parked). p ∷ l) more.stay
            ∙ ap (λ (b : Bool). cond b (stay_in now ps) (p ∷ stay_in now ps)) (sym f);
        ascends = subst Ascending (sym kept) (all_without (Above p.conn) x.0 ps a.0, more.ascends);
      }

-- ---- and so on, until nobody is next

-- These were taken out so far, and those are left.
pub record TakesOut (now : ℕ) (all : List Parked) (out : List ℕ) (left : List Parked) : Type 0 where
  pub over : out ++ over_in now left ≡ over_in now all
  pub stay : stay_in now left ≡ stay_in now all
  pub ascends : Ascending left

pub none_out : (now : ℕ) (all : List Parked) (out : List ℕ) → out ≡ [] → Ascending all → TakesOut now all out all
none_out now all out e a = record { over = ap (λ (x : List ℕ). x ++ over_in now all) e; stay = refl; ascends = a }

pub one_out : (now : ℕ) (all : List Parked) (out : List ℕ) (left : List Parked) (x : ℕ × Outcome) → next 0 now left ≡ Some x
    → TakesOut now all out left → TakesOut now all (out ++ x.0 ∷ []) (without x.0 left)
one_out now all out left x e t =
    let k = taken now left x t.ascends e in
    record {
      over = append_assoc out (x.0 ∷ []) (over_in now (without x.0 left)) ∙ ap (λ (l : List ℕ). out ++ l) (sym k.over) ∙ t.over;
      stay = k.stay ∙ t.stay;
      ascends = k.ascends;
    }

none_over : (now : ℕ) (ps : List Parked) → next 0 now ps ≡ None → (over_in now ps ≡ []) × (stay_in now ps ≡ ps)
unfolding next over_in stay_in
none_over now [] e = (refl, refl)
none_over now (p ∷ ps) e = go (is_over now p) refl (λ k. none_over now ps k) where
  go : (b : Bool) → is_over now p ≡ b → (next 0 now ps ≡ None → (over_in now ps ≡ []) × (stay_in now ps ≡ ps))
      → (over_in now (p ∷ ps) ≡ []) × (stay_in now (p ∷ ps) ≡ p ∷ ps)
  go true f more =
      absurd (let k : Some (p.conn, outcome_for 0 now p) ≡ None =
      ap (λ (b : Bool). cond b (Some (p.conn, outcome_for 0 now p)) (next 0 now ps)) (sym f) ∙ e in cc)
  go false f more =
      let k = more (ap (λ (b : Bool). cond b (Some (p.conn, outcome_for 0 now p)) (next 0 now ps)) (sym f) ∙ e) in (
        ap (λ (b : Bool). cond b (p.conn ∷ over_in now ps) (over_in now ps)) f ∙ k.0,
        ap (λ (b : Bool). cond b (stay_in now ps) (p ∷ stay_in now ps)) f ∙ ap (λ (l : List Parked). p ∷ l) k.1,
      )

pub all_are_out : (now : ℕ) (all : List Parked) (out : List ℕ) (left : List Parked) → next 0 now left ≡ None → TakesOut now all out left
    → (out ≡ over_in now all) × (left ≡ stay_in now all)
all_are_out now all out left e t =
    let k = none_over now left e in (
      sym (append-nil out) ∙ ap (λ (l : List ℕ). out ++ l) (sym k.0) ∙ t.over,
      sym k.1 ∙ t.stay,
    )
