-- Lists of those who wait, by ascending number.
use Rattle.std.proofs.Common.{◌≡◌, ◌∙◌, ℕ, ◌<◌, ◌≤◌, Bool, true, false, ◌||◌, not, if◌then◌else◌, List, [], ◌∷◌, ◌++◌, refl, ap}
use Rattle.std.proofs.Common.{arith, Option, Some, None, eqb, ltb, cond}
use Rattle.std.proofs.lemmas.Bool.{lt-ltb, le-ltb, eq-eqb, ne_eqb}
use Rattle.std.specs.List.{AllByRecursion}
use Rattle.ncc_wait.specs.declared.outcomes.Outcome.{Outcome}
use Rattle.ncc_wait.specs.declared.outcomes.Outcome.TheVariants.{Ready, NotYet, Late}
use Rattle.ncc_wait.specs.declared.parked.Parked.{Parked}
use Rattle.ncc_wait.specs.Room.{Ascending, is_parked, is_settled, next, outcome_for, put, without}

pub all_more : (P Q : Parked → Type 0) → ((p : Parked) → P p → Q p) → (ps : List Parked) → AllByRecursion P ps → AllByRecursion Q ps
all_more P Q f [] a = tt
all_more P Q f (p ∷ ps) a = (f p a.0, all_more P Q f ps a.1)

pub all_both : (P : Parked → Type 0) (ps qs : List Parked) → AllByRecursion P ps → AllByRecursion P qs → AllByRecursion P (ps ++ qs)
all_both P [] qs a b = b
all_both P (p ∷ ps) qs a b = (a.0, all_both P ps qs a.1 b)

-- ---- one more

all_put_at : (P : Parked → Type 0) (b : Bool) (p q : Parked) (qs rest : List Parked) → P p → AllByRecursion P (q ∷ qs) →
    AllByRecursion P rest →
    AllByRecursion P (if b then p ∷ q ∷ qs else q ∷ rest)
all_put_at P true p q qs rest here a more = (here, a)
all_put_at P false p q qs rest here a more = (a.0, more)

pub all_put : (P : Parked → Type 0) (p : Parked) (ps : List Parked) → P p → AllByRecursion P ps → AllByRecursion P (put p ps)
unfolding put
all_put P p [] here a = (here, tt)
all_put P p (q ∷ qs) here a = all_put_at P (ltb p.conn q.conn) p q qs (put p qs) here a (all_put P p qs here a.1)

pub put_front : (p : Parked) (ps : List Parked) → AllByRecursion (λ q. p.conn < q.conn) ps → put p ps ≡ p ∷ ps
unfolding put
put_front p [] a = refl
put_front p (q ∷ qs) a = rw (lt-ltb p.conn q.conn a.0)

put_later : (p q : Parked) (qs : List Parked) → q.conn ≤ p.conn → put p (q ∷ qs) ≡ q ∷ put p qs
unfolding put
put_later p q qs le = rw (le-ltb p.conn q.conn le)

pub put_back : (p : Parked) (ps : List Parked) → AllByRecursion (λ q. q.conn < p.conn) ps → put p ps ≡ ps ++ p ∷ []
put_back p [] a = put_front p [] tt
put_back p (q ∷ qs) a = let lt : q.conn < p.conn = a.0 in put_later p q qs (omega arith) ∙ ap (λ l. q ∷ l) (put_back p qs a.1)

put_low_at : (b : Bool) (p q : Parked) (qs rest h : List Parked) →
    (if b then p ∷ q ∷ (qs ++ h) else q ∷ (rest ++ h)) ≡ (if b then p ∷ q ∷ qs else q ∷ rest) ++ h
put_low_at true p q qs rest h = refl
put_low_at false p q qs rest h = refl

pub put_low : (p : Parked) (l h : List Parked) → AllByRecursion (λ q. p.conn < q.conn) h → put p (l ++ h) ≡ put p l ++ h
unfolding put
put_low p [] h a = put_front p h a
put_low p (q ∷ qs) h a = rw (put_low p qs h a) (put_low_at (ltb p.conn q.conn) p q qs (put p qs) h)

pub put_high : (p : Parked) (l h : List Parked) → AllByRecursion (λ q. q.conn < p.conn) l → put p (l ++ h) ≡ l ++ put p h
put_high p [] h a = refl
put_high p (q ∷ qs) h a =
    let lt : q.conn < p.conn = a.0 in
    put_later p q (qs ++ h) (omega arith) ∙ ap (λ l. q ∷ l) (put_high p qs h a.1)

either_false : (a b : Bool) → (a || b) ≡ false → (a ≡ false) × (b ≡ false)
either_false false false e = (refl, refl)
either_false false true e = absurd (cc)
either_false true b e = absurd (cc)

ascending_put_at : (b : Bool) (p q : Parked) (qs : List Parked) → ltb p.conn q.conn ≡ b → eqb q.conn p.conn ≡ false → Ascending (q ∷ qs) →
    Ascending (put p qs) → Ascending (if b then p ∷ q ∷ qs else q ∷ put p qs)
unfolding Ascending
ascending_put_at true p q qs test apart s more =
    let lt : p.conn < q.conn = Rattle.std.proofs.lemmas.Bool.ltb-true p.conn q.conn test in
    ((lt, all_more (λ x. q.conn < x.conn) (λ x. p.conn < x.conn) (λ x r. omega arith) qs s.0), s)
ascending_put_at false p q qs test apart s more =
    let le : q.conn ≤ p.conn = Rattle.std.proofs.lemmas.Bool.ltb-false p.conn q.conn test in
    let lt : q.conn < p.conn = grind (arith, Rattle.std.proofs.lemmas.Bool.Decides.nat_tests) in
    (all_put (λ x. q.conn < x.conn) p qs lt s.0, more)

pub ascending_put : (p : Parked) (ps : List Parked) → Ascending ps → is_parked p.conn ps ≡ false → Ascending (put p ps)
unfolding put Ascending
ascending_put p [] s apart = (tt, tt)
ascending_put p (q ∷ qs) s apart =
    let both = either_false (eqb q.conn p.conn) (is_parked p.conn qs) apart in
    ascending_put_at (ltb p.conn q.conn) p q qs refl both.0 s (ascending_put p qs s.1 both.1)

-- ---- one less

all_without_at : (P : Parked → Type 0) (b : Bool) (p : Parked) (ps : List Parked) → P p → AllByRecursion P ps →
    AllByRecursion P (cond (not b) (p ∷ ps) ps)
all_without_at P true p ps here a = a
all_without_at P false p ps here a = (here, a)

pub all_without : (P : Parked → Type 0) (c : ℕ) (ps : List Parked) → AllByRecursion P ps → AllByRecursion P (without c ps)
all_without P c [] a = tt
all_without P c (p ∷ ps) a = all_without_at P (eqb p.conn c) p (without c ps) a.0 (all_without P c ps a.1)

ascending_without_at : (b : Bool) (p : Parked) (ps : List Parked) → AllByRecursion (λ q. p.conn < q.conn) ps → Ascending ps →
    Ascending (cond (not b) (p ∷ ps) ps)
unfolding Ascending
ascending_without_at true p ps a s = s
ascending_without_at false p ps a s = (a, s)

pub ascending_without : (c : ℕ) (ps : List Parked) → Ascending ps → Ascending (without c ps)
unfolding Ascending
ascending_without c [] s = tt
ascending_without c (p ∷ ps) s =
    ascending_without_at (eqb p.conn c) p (without c ps) (all_without (λ q. p.conn < q.conn) c ps s.0) (ascending_without c ps s.1)

pub without_none : (c : ℕ) (ps : List Parked) → is_parked c ps ≡ false → without c ps ≡ ps
without_none c [] none = refl
without_none c (p ∷ ps) none =
    let both = either_false (eqb p.conn c) (is_parked c ps) none in
    rw both.0 (ap (λ l. p ∷ l) (without_none c ps both.1))

pub none_of : (P : Parked → Type 0) (c : ℕ) → ((p : Parked) → P p → p.conn ≡ c → ⊥) → (ps : List Parked) → AllByRecursion P ps →
    is_parked c ps ≡ false
none_of P c f [] a = refl
none_of P c f (p ∷ ps) a = rw (ne_eqb p.conn c (f p a.0), none_of P c f ps a.1)

-- ---- both sides

pub ascending_join : (k : ℕ) (l h : List Parked) → AllByRecursion (λ p. p.conn < k) l → AllByRecursion (λ p. k ≤ p.conn) h → Ascending l →
    Ascending h → Ascending (l ++ h)
unfolding Ascending
ascending_join k [] h a b s t = t
ascending_join k (p ∷ ps) h a b s t =
    let lt : p.conn < k = a.0 in (
      all_both (λ q. p.conn < q.conn) ps h s.0 (all_more (λ q. k ≤ q.conn) (λ q. p.conn < q.conn) (λ q le. omega arith) h b),
      ascending_join k ps h a.1 b s.1 t,
    )

-- ---- who is next

next_none_at : (at now : ℕ) (p : Parked) → at < p.need → now ≤ p.deadline → is_settled (outcome_for at now p) ≡ false
next_none_at at now p need deadline = rw (Rattle.std.proofs.lemmas.Bool.lt-leb p.need at need, le-ltb p.deadline now deadline)

pub next_none : (at now : ℕ) (ps : List Parked) → AllByRecursion (λ p. (at < p.need) × (now ≤ p.deadline)) ps → next at now ps ≡ None
unfolding next
next_none at now [] a = refl
next_none at now (p ∷ ps) a = rw (next_none_at at now p a.0.0 a.0.1) (next_none at now ps a.1)

next_behind_at : {X : Type 0} (b : Bool) (x : X) (l h y : Option X) → (l ≡ None → h ≡ y) → (if b then Some x else l) ≡ None →
    (if b then Some x else h) ≡ y
next_behind_at true x l h y f none = absurd (cc)
next_behind_at false x l h y f none = f none

pub next_behind : (at now : ℕ) (l h : List Parked) → next at now l ≡ None → next at now (l ++ h) ≡ next at now h
unfolding next
next_behind at now [] h none = refl
next_behind at now (p ∷ ps) h none =
    next_behind_at (is_settled (outcome_for at now p)) (p.conn, outcome_for at now p) (next at now ps) (next at now (ps ++ h))
    (next at now h)
    (next_behind at now ps h) none

next_before_at : {X : Type 0} (b : Bool) (x : X) (l h : Option X) → ((l ≡ None → ⊥) → h ≡ l) → ((if b then Some x else l) ≡ None → ⊥) →
    (if b then Some x else h) ≡ (if b then Some x else l)
next_before_at true x l h f some = refl
next_before_at false x l h f some = f some

pub next_before : (at now : ℕ) (l h : List Parked) → (next at now l ≡ None → ⊥) → next at now (l ++ h) ≡ next at now l
unfolding next
next_before at now [] h some = absurd (some refl)
next_before at now (p ∷ ps) h some =
    next_before_at (is_settled (outcome_for at now p)) (p.conn, outcome_for at now p) (next at now ps) (next at now (ps ++ h))
    (next_before at now ps h) some

settled : (o : Outcome) → (o ≡ NotYet → ⊥) → is_settled o ≡ true
settled Ready f = refl
settled Late f = refl
settled NotYet f = absurd (f refl)

pub found_one : (at now : ℕ) (p : Parked) (o : Outcome) → o ≡ outcome_for at now p → (o ≡ NotYet → ⊥) →
    Some (p.conn, o) ≡ next at now (p ∷ [])
unfolding next
found_one at now p o e f = rw (settled (outcome_for at now p) (λ x. f (e ∙ x))) (ap (λ x. Some (p.conn, x)) e)
