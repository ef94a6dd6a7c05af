-- Who sleeps: by ascending number, and where one of them sleeps otherwise, or is to be woken.
use Rattle.std.proofs.Common.{◌≡◌, ◌≢◌, ℕ, zero, suc, ◌+◌, ◌-◌, ◌<◌, List, [], ◌∷◌, ◌++◌, Option}
use Rattle.std.proofs.Common.{None, Some, Bool, true, false, cond, not, ◌||◌}
use Rattle.std.proofs.Common.{refl, ap, sym, ◌∙◌, arith}
use Rattle.std.specs.Prelude.{slice_get, slice_set, nat_eq, nat_le, nat_lt}
use Rattle.std.specs.List.{AllByRecursion, list_any}
use Rattle.std.proofs.lemmas.Bool.{le-leb}
use Rattle.ncc_wait.specs.declared.outcomes.Outcome.TheVariants.{Late, NotYet}
use Rattle.ncc_wait.specs.declared.parked.Parked.{Parked}
use Rattle.ncc_wait.specs.Waiting.{outcome_of}
use Rattle.ncc_wait.specs.Room.{Ascending, is_settled, put, without}
use Rattle.ncc_clients.specs.Links.{Driver}
use Rattle.ncc_clients.specs.Drives.{is_due}
use Rattle.ncc_world.specs.Drivers.{due_from, sleeper, sleepers_from, sleeps_as}
use Rattle.ncc_world.proofs.Rooms.{Above, Below, eq_no, eq_yes, put_above, put_front, without_above, without_front}
use Rattle.ncc_world.proofs.Taking.{is_over, over_both, over_in, stay_both, stay_in}

-- ---- numbers of those who sleep

all_both : {X : Type 0} (P : X → Type 0) (xs ys : List X) → AllByRecursion P xs → AllByRecursion P ys → AllByRecursion P (xs ++ ys)
all_both P [] ys f g = g
all_both P (x ∷ xs) ys f g = (f.0, all_both P xs ys f.1 g)

one_above : (pending : List ℕ) (n number : ℕ) (w : Option ℕ) → n < number → AllByRecursion (Above n) (sleeps_as pending number w)
one_above pending n number None h = tt
one_above pending n number (Some until) h = go (list_any (nat_eq number) pending) where
  go : (b : Bool) → AllByRecursion (Above n) (cond b [] (sleeper number until ∷ []))
  go true = tt
  go false = (h, tt)

one_below : (pending : List ℕ) (n number : ℕ) (w : Option ℕ) → number < n → AllByRecursion (Below n) (sleeps_as pending number w)
one_below pending n number None h = tt
one_below pending n number (Some until) h = go (list_any (nat_eq number) pending) where
  go : (b : Bool) → AllByRecursion (Below n) (cond b [] (sleeper number until ∷ []))
  go true = tt
  go false = (h, tt)

all_above : (pending : List ℕ) (n from : ℕ) (ds : List Driver) → n < from → AllByRecursion (Above n) (sleepers_from pending from ds)
unfolding sleepers_from
all_above pending n from [] h = tt
all_above pending n from (d ∷ ds) h =
    all_both (Above n) (sleeps_as pending from d.wakes) (sleepers_from pending (suc from) ds) (one_above pending n from d.wakes h)
    (all_above pending n (suc from) ds (omega (arith, h)))

ascends_by : (pending : List ℕ) (number : ℕ) (w : Option ℕ) (rest : List Parked) → AllByRecursion (Above number) rest → Ascending rest
    → Ascending (sleeps_as pending number w ++ rest)
unfolding Ascending
ascends_by pending number None rest above a = a
ascends_by pending number (Some until) rest above a = go (list_any (nat_eq number) pending) where
  go : (b : Bool) → Ascending (cond b [] (sleeper number until ∷ []) ++ rest)
  go true = a
  go false = (above, a)

pub ascends : (pending : List ℕ) (from : ℕ) (ds : List Driver) → Ascending (sleepers_from pending from ds)
unfolding sleepers_from Ascending
ascends pending from [] = tt
ascends pending from (d ∷ ds) =
    ascends_by pending from d.wakes (sleepers_from pending (suc from) ds) (all_above pending from (suc from) ds (omega arith))
    (ascends pending (suc from) ds)

-- ---- another in the place of one

-- It sleeps as the other did.
pub sleepers_same : (pending : List ℕ) (from i : ℕ) (ds : List Driver) (d e : Driver) → slice_get ds i ≡ Some d → e.wakes ≡ d.wakes
    → sleepers_from pending from ds ≡ sleepers_from pending from (slice_set ds i e)
unfolding sleepers_from
sleepers_same pending from i [] d e g h = refl
sleepers_same pending from zero (x ∷ xs) d e g h =
    let same : x ≡ d = cc in
    ap (λ (w : Option ℕ). sleeps_as pending from w ++ sleepers_from pending (suc from) xs) (ap (λ (y : Driver). y.wakes) same ∙ sym h)
sleepers_same pending from (suc i) (x ∷ xs) d e g h =
    ap (λ (ps : List Parked). sleeps_as pending from x.wakes ++ ps) (sleepers_same pending (suc from) i xs d e g h)

without_one : (pending : List ℕ) (n : ℕ) (w : Option ℕ) (rest : List Parked) → AllByRecursion (Above n) rest
    → without n (sleeps_as pending n w ++ rest) ≡ rest
without_one pending n None rest h = without_above n rest h
without_one pending n (Some until) rest h = go (list_any (nat_eq n) pending) where
  go : (b : Bool) → without n (cond b [] (sleeper n until ∷ []) ++ rest) ≡ rest
  go true = without_above n rest h
  go false = ap (λ (b : Bool). cond (not b) (sleeper n until ∷ without n rest) (without n rest)) (eq_yes n n refl) ∙ without_above n rest h

-- It sleeps until this moment, and is not still to be woken.
pub sleepers_put : (pending : List ℕ) (from i until : ℕ) (ds : List Driver) (d e : Driver) → slice_get ds i ≡ Some d
    → list_any (nat_eq (from + i)) pending ≡ false → e.wakes ≡ Some until
    → put (sleeper (from + i) until) (without (from + i) (sleepers_from pending from ds)) ≡ sleepers_from pending from (slice_set ds i e)
unfolding sleepers_from
sleepers_put pending from i until [] d e g a h = absurd (cc)
sleepers_put pending from zero until (x ∷ xs) d e g a h =
    let n : from + 0 ≡ from = omega arith in
    let awake : list_any (nat_eq from) pending ≡ false = ap (λ k. list_any (nat_eq k) pending) (sym n) ∙ a in
    let above = all_above pending from (suc from) xs (omega arith) in
    ap (λ k. put (sleeper k until) (without k (sleeps_as pending from x.wakes ++ sleepers_from pending (suc from) xs))) n
    ∙ ap (put (sleeper from until)) (without_one pending from x.wakes (sleepers_from pending (suc from) xs) above)
    ∙ put_above (sleeper from until) (sleepers_from pending (suc from) xs) above
    ∙ ap (λ (b : Bool). cond b [] (sleeper from until ∷ []) ++ sleepers_from pending (suc from) xs) (sym awake)
    ∙ ap (λ (w : Option ℕ). sleeps_as pending from w ++ sleepers_from pending (suc from) xs) (sym h)
sleepers_put pending from (suc i) until (x ∷ xs) d e g a h =
    let n : from + suc i ≡ suc from + i = omega arith in
    let awake : list_any (nat_eq (suc from + i)) pending ≡ false = ap (λ k. list_any (nat_eq k) pending) (sym n) ∙ a in
    let below = one_below pending (suc from + i) from x.wakes (omega arith) in
    ap (λ k. put (sleeper k until) (without k (sleeps_as pending from x.wakes ++ sleepers_from pending (suc from) xs))) n
    ∙ ap (put (sleeper (suc from + i) until))
    (without_front (suc from + i) (sleeps_as pending from x.wakes) (sleepers_from pending (suc from) xs) below)
    ∙ put_front (sleeper (suc from + i) until) (sleeps_as pending from x.wakes)
    (without (suc from + i) (sleepers_from pending (suc from) xs)) below
    ∙ ap (λ (ps : List Parked). sleeps_as pending from x.wakes ++ ps) (sleepers_put pending (suc from) i until xs d e g awake h)

-- one more at the end, which does not sleep
pub sleepers_more : (pending : List ℕ) (from : ℕ) (ds : List Driver) (e : Driver) → e.wakes ≡ None
    → sleepers_from pending from ds ≡ sleepers_from pending from (ds ++ e ∷ [])
unfolding sleepers_from
sleepers_more pending from [] e h = ap (λ (w : Option ℕ). sleeps_as pending from w ++ []) (sym h)
sleepers_more pending from (x ∷ xs) e h =
    ap (λ (ps : List Parked). sleeps_as pending from x.wakes ++ ps) (sleepers_more pending (suc from) xs e h)

pub no_sleepers : (pending : List ℕ) (from : ℕ) → sleepers_from pending from [] ≡ []
unfolding sleepers_from
no_sleepers pending from = refl

-- ---- those still to be woken

-- Another number to be woken changes nothing of the others.
sleeps_other : (pending : List ℕ) (n number : ℕ) (w : Option ℕ) → number ≢ n → sleeps_as (n ∷ pending) number w ≡ sleeps_as pending number w
sleeps_other pending n number None h = refl
sleeps_other pending n number (Some until) h =
    ap (λ (b : Bool). cond (b || list_any (nat_eq number) pending) [] (sleeper number until ∷ [])) (eq_no number n h)

sleepers_past : (pending : List ℕ) (n from : ℕ) (ds : List Driver) → n < from
    → sleepers_from (n ∷ pending) from ds ≡ sleepers_from pending from ds
unfolding sleepers_from
sleepers_past pending n from [] h = refl
sleepers_past pending n from (d ∷ ds) h =
    ap (λ (ps : List Parked). ps ++ sleepers_from (n ∷ pending) (suc from) ds)
    (sleeps_other pending n from d.wakes (λ e. absurd (omega (arith, h, e))))
    ∙ ap (λ (ps : List Parked). sleeps_as pending from d.wakes ++ ps) (sleepers_past pending n (suc from) ds (omega (arith, h)))

sleeps_not : (pending : List ℕ) (n : ℕ) (w : Option ℕ) → sleeps_as (n ∷ pending) n w ≡ []
sleeps_not pending n None = refl
sleeps_not pending n (Some until) =
    ap (λ (b : Bool). cond (b || list_any (nat_eq n) pending) [] (sleeper n until ∷ [])) (eq_yes n n refl)

-- One that is to be woken is, and does not sleep any more.
pub sleepers_woken : (pending : List ℕ) (from i n : ℕ) (ds : List Driver) (d e : Driver) → slice_get ds i ≡ Some d → n ≡ from + i
    → e.wakes ≡ None → sleepers_from (n ∷ pending) from ds ≡ sleepers_from pending from (slice_set ds i e)
unfolding sleepers_from
sleepers_woken pending from i n [] d e g k h = absurd (cc)
sleepers_woken pending from zero n (x ∷ xs) d e g k h =
    let same : n ≡ from = omega (arith, k) in
    ap (λ m. sleeps_as (m ∷ pending) from x.wakes ++ sleepers_from (m ∷ pending) (suc from) xs) same
    ∙ ap (λ (ps : List Parked). ps ++ sleepers_from (from ∷ pending) (suc from) xs) (sleeps_not pending from x.wakes)
    ∙ sleepers_past pending from (suc from) xs (omega arith)
    ∙ ap (λ (w : Option ℕ). sleeps_as pending from w ++ sleepers_from pending (suc from) xs) (sym h)
sleepers_woken pending from (suc i) n (x ∷ xs) d e g k h =
    ap (λ (ps : List Parked). ps ++ sleepers_from (n ∷ pending) (suc from) xs)
    (sleeps_other pending n from x.wakes (λ f. absurd (omega (arith, k, f))))
    ∙ ap (λ (ps : List Parked). sleeps_as pending from x.wakes ++ ps) (sleepers_woken pending (suc from) i n xs d e g (omega (arith, k)) h)

-- ---- who is due

-- One that sleeps is late exactly where its moment has come.
over_at : (now number until : ℕ) → is_over now (sleeper number until) ≡ nat_le until now
over_at now number zero = sym (le-leb 0 now (omega arith))
over_at now number (suc u) =
    let back : suc u - 1 ≡ u = omega arith in
    ap (λ (b : Bool). is_settled (outcome_of 0 (cond b 0 1) now (suc u - 1))) (eq_no (suc u) 0 (λ e. absurd (omega (arith, e))))
    ∙ ap (λ (k : ℕ). is_settled (cond (nat_lt k now) Late NotYet)) back ∙ go (nat_lt u now) where
      go : (b : Bool) → is_settled (cond b Late NotYet) ≡ b
      go true = refl
      go false = refl

due_one : (now number : ℕ) (w : Option ℕ) → over_in now (sleeps_as [] number w) ≡ cond (is_due now w) (number ∷ []) []
unfolding over_in
due_one now number None = refl
due_one now number (Some until) = ap (λ (b : Bool). cond b (number ∷ []) []) (over_at now number until)

stay_due : (pending : List ℕ) (now number : ℕ) (w : Option ℕ) → is_due now w ≡ true
    → stay_in now (sleeps_as [] number w) ≡ sleeps_as (number ∷ pending) number w
unfolding stay_in
stay_due pending now number None h = refl
stay_due pending now number (Some until) h =
    ap (λ (b : Bool). cond b [] (sleeper number until ∷ [])) (over_at now number until ∙ h) ∙ sym (sleeps_not pending number (Some until))

stay_one : (pending : List ℕ) (now number : ℕ) (w : Option ℕ) → is_due now w ≡ false → list_any (nat_eq number) pending ≡ false
    → stay_in now (sleeps_as [] number w) ≡ sleeps_as pending number w
unfolding stay_in
stay_one pending now number None h a = refl
stay_one pending now number (Some until) h a =
    ap (λ (b : Bool). cond b [] (sleeper number until ∷ [])) (over_at now number until ∙ h)
    ∙ ap (λ (b : Bool). cond b [] (sleeper number until ∷ [])) (sym a)

-- Those who are taken out are those who are due.
pub due_are : (now from : ℕ) (ds : List Driver) → over_in now (sleepers_from [] from ds) ≡ due_from now from ds
unfolding sleepers_from due_from over_in
due_are now from [] = refl
due_are now from (d ∷ ds) =
    over_both now (sleeps_as [] from d.wakes) (sleepers_from [] (suc from) ds)
    ∙ ap (λ (x : List ℕ). x ++ over_in now (sleepers_from [] (suc from) ds)) (due_one now from d.wakes)
    ∙ ap (λ (x : List ℕ). cond (is_due now d.wakes) (from ∷ []) [] ++ x) (due_are now (suc from) ds)
    ∙ go (is_due now d.wakes) where
      go : (b : Bool) → cond b (from ∷ []) [] ++ due_from now (suc from) ds
          ≡ cond b (from ∷ due_from now (suc from) ds) (due_from now (suc from) ds)
      go true = refl
      go false = refl

due_later : (now n from : ℕ) (ds : List Driver) → n < from → list_any (nat_eq n) (due_from now from ds) ≡ false
unfolding due_from
due_later now n from [] h = refl
due_later now n from (d ∷ ds) h = go (is_due now d.wakes) (due_later now n (suc from) ds (omega (arith, h))) where
  go : (b : Bool) → list_any (nat_eq n) (due_from now (suc from) ds) ≡ false
      → list_any (nat_eq n) (cond b (from ∷ due_from now (suc from) ds) (due_from now (suc from) ds)) ≡ false
  go true k = ap (λ (b : Bool). b || list_any (nat_eq n) (due_from now (suc from) ds))
      (eq_no n from (λ e. absurd (omega (arith, h, e)))) ∙ k
  go false k = k

-- Those who stay sleep on, where those who are due are to be woken.
pub stay_are : (now from : ℕ) (ds : List Driver) → stay_in now (sleepers_from [] from ds) ≡ sleepers_from (due_from now from ds) from ds
unfolding sleepers_from due_from stay_in
stay_are now from [] = refl
stay_are now from (d ∷ ds) =
    stay_both now (sleeps_as [] from d.wakes) (sleepers_from [] (suc from) ds)
    ∙ ap (λ (x : List Parked). stay_in now (sleeps_as [] from d.wakes) ++ x) (stay_are now (suc from) ds)
    ∙ go (is_due now d.wakes) refl where
      rest : List ℕ
      rest = due_from now (suc from) ds

      go : (b : Bool) → is_due now d.wakes ≡ b
          → stay_in now (sleeps_as [] from d.wakes) ++ sleepers_from rest (suc from) ds
          ≡ sleeps_as (cond b (from ∷ rest) rest) from d.wakes ++ sleepers_from (cond b (from ∷ rest) rest) (suc from) ds
      go true h =
          ap (λ (x : List Parked). x ++ sleepers_from rest (suc from) ds) (stay_due rest now from d.wakes h)
          ∙ ap (λ (x : List Parked). sleeps_as (from ∷ rest) from d.wakes ++ x) (sym (sleepers_past rest from (suc from) ds (omega arith)))
      go false h =
          ap (λ (x : List Parked). x ++ sleepers_from rest (suc from) ds)
          (stay_one rest now from d.wakes h (due_later now from (suc from) ds (omega arith)))
