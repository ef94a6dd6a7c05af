-- Who waits at a member, where one connection now waits otherwise.
use Rattle.std.proofs.Common.{◌≡◌, ◌≢◌, inl, inr, ℕ, zero, suc, ◌+◌, ◌<◌, ◌≤◌, List, [], ◌∷◌, ◌++◌, Option}
use Rattle.std.proofs.Common.{None, Some, Bool, true, false, cond, not, ◌||◌}
use Rattle.std.proofs.Common.{refl, ap, sym, ◌∙◌, subst, arith, length, get_or}
use Rattle.std.specs.Prelude.{slice_get, slice_set, nat_eq, nat_lt, ◌==◌}
use Rattle.std.specs.List.{AllByRecursion}
use Rattle.std.proofs.lemmas.Bool.Decides.{eqb_tells, leb_tells}
use Rattle.ncc_wait.specs.declared.parked.Parked.{Parked}
use Rattle.ncc_wait.specs.Room.{is_parked, put, without}
use Rattle.ncc_session.specs.Question.{Question}
use Rattle.ncc_clients.specs.Run.{Client, Placing, deadline_of, question_of}
use Rattle.ncc_world.specs.Setting.{cluster_of}
use Rattle.ncc_world.specs.declared.setup.Setup.{Setup}
use Rattle.ncc_world.specs.World.{AreNumbered, listed, parked_by, parked_of, parked_one, parked_at}
use Rattle.ncc_world.specs.Parts.{parked_anew}

-- ---- tests of numbers

pub eq_yes : (a b : ℕ) → a ≡ b → (a == b) ≡ true
eq_yes a b e = elim (eqb_tells a b) [ inl h ↦ h.0 | inr h ↦ absurd (h.1 e) ]

pub eq_no : (a b : ℕ) → a ≢ b → (a == b) ≡ false
eq_no a b e = elim (eqb_tells a b) [ inl h ↦ absurd (e h.1) | inr h ↦ h.0 ]

pub lt_no : (a b : ℕ) → b ≤ a → nat_lt a b ≡ false
lt_no a b h = elim (leb_tells (suc a) b) [ inl k ↦ absurd (omega (arith, k.1)) | inr k ↦ k.0 ]

pub lt_yes : (a b : ℕ) → a < b → nat_lt a b ≡ true
lt_yes a b h = elim (leb_tells (suc a) b) [ inl k ↦ k.0 | inr k ↦ absurd (omega (arith, k.1)) ]

pub get_or_any : {X : Type 0} (xs : List X) (i : ℕ) (d e : X) → i < length xs → get_or xs i d ≡ get_or xs i e
get_or_any [] i d e h = absurd (omega (arith, h))
get_or_any (x ∷ xs) zero d e h = refl
get_or_any (x ∷ xs) (suc i) d e h = get_or_any xs i d e (omega (arith, h))

-- ---- numbers of those who wait

abbrev pub Below : ℕ → Parked → Type 0
Below n p = p.conn < n

abbrev pub Above : ℕ → Parked → Type 0
Above n p = n < p.conn

abbrev pub IsOf : ℕ → Option Parked → Type 0
IsOf n None = Unit {0}
IsOf n (Some p) = p.conn ≡ n

pub kept_test : (b : Bool) (p : Parked) (rest rest_is : List Parked) → b ≡ false → rest ≡ rest_is
    → cond (not b) (p ∷ rest) rest ≡ p ∷ rest_is
kept_test true p rest rest_is e h = absurd (cc)
kept_test false p rest rest_is e h = ap (λ x. p ∷ x) h

pub without_above : (n : ℕ) (ps : List Parked) → AllByRecursion (Above n) ps → without n ps ≡ ps
without_above n [] h = refl
without_above n (p ∷ ps) h =
    kept_test (nat_eq p.conn n) p (without n ps) ps (eq_no p.conn n (λ e. absurd (omega (arith, h.0, e)))) (without_above n ps h.1)

pub put_above : (p : Parked) (ps : List Parked) → AllByRecursion (Above p.conn) ps → put p ps ≡ p ∷ ps
unfolding put
put_above p [] h = refl
put_above p (q ∷ qs) h = ap (λ (b : Bool). cond b (p ∷ q ∷ qs) (q ∷ put p qs)) (lt_yes p.conn q.conn h.0)

pub without_front : (n : ℕ) (ps rest : List Parked) → AllByRecursion (Below n) ps → without n (ps ++ rest) ≡ ps ++ without n rest
without_front n [] rest h = refl
without_front n (p ∷ ps) rest h =
    kept_test (nat_eq p.conn n) p (without n (ps ++ rest)) (ps ++ without n rest)
    (eq_no p.conn n (λ e. absurd (omega (arith, h.0, e)))) (without_front n ps rest h.1)

pub put_front : (p : Parked) (ps rest : List Parked) → AllByRecursion (Below p.conn) ps → put p (ps ++ rest) ≡ ps ++ put p rest
unfolding put
put_front p [] rest h = refl
put_front p (q ∷ qs) rest h =
    ap (λ (b : Bool). cond b (p ∷ q ∷ (qs ++ rest)) (q ∷ put p (qs ++ rest))) (lt_no p.conn q.conn (omega (arith, h.0)))
    ∙ ap (λ x. q ∷ x) (put_front p qs rest h.1)

anew_front : (n : ℕ) (o : Option Parked) (ps rest : List Parked) → AllByRecursion (Below n) ps → IsOf n o
    → parked_anew n o (ps ++ rest) ≡ ps ++ parked_anew n o rest
anew_front n None ps rest h e = without_front n ps rest h
anew_front n (Some p) ps rest h e =
    ap (put p) (without_front n ps rest h)
    ∙ put_front p ps (without n rest) (subst (λ m. AllByRecursion (Below m) ps) (sym e) h)

without_here : (n : ℕ) (o : Option Parked) (rest : List Parked) → IsOf n o → AllByRecursion (Above n) rest
    → without n (listed o ++ rest) ≡ rest
without_here n None rest e h = without_above n rest h
without_here n (Some p) rest e h =
    ap (λ (b : Bool). cond (not b) (p ∷ without n rest) (without n rest)) (eq_yes p.conn n e) ∙ without_above n rest h

anew_here : (n : ℕ) (old o : Option Parked) (rest : List Parked) → IsOf n old → IsOf n o → AllByRecursion (Above n) rest
    → parked_anew n o (listed old ++ rest) ≡ listed o ++ rest
anew_here n old None rest e f h = without_here n old rest e h
anew_here n old (Some p) rest e f h =
    ap (put p) (without_here n old rest e h) ∙ put_above p rest (subst (λ m. AllByRecursion (Above m) rest) (sym f) h)

-- ---- connections by their numbers

pub number_at : (from i : ℕ) (cs : List Client) (c : Client) → AreNumbered from cs → slice_get cs i ≡ Some c → c.number ≡ from + i
unfolding AreNumbered
number_at from i [] c h e = absurd (cc)
number_at from zero (x ∷ xs) c h e =
    let same : x ≡ c = cc in
    let k : x.number ≡ c.number = ap (λ (y : Client). y.number) same in omega (arith, h.0)
number_at from (suc i) (x ∷ xs) c h e = omega (arith, number_at (from + 1) i xs c h.1 e)

is_of_by : (number deadline : ℕ) (placing : Option Placing) (o : Option Question) → IsOf number (parked_by number deadline placing o)
is_of_by number deadline placing None = tt
is_of_by number deadline placing (Some q) = refl

is_of : (s : Setup) (c : Client) → IsOf c.number (parked_of s c)
is_of s c = is_of_by c.number (deadline_of (cluster_of s) c) c.placing (question_of (cluster_of s) c)

all_listed : (P : Parked → Type 0) (b : Bool) (o : Option Parked) → ((p : Parked) → o ≡ Some p → P p)
    → AllByRecursion P (cond b (listed o) [])
all_listed P true None f = tt
all_listed P true (Some p) f = (f p refl, tt)
all_listed P false o f = tt

one_below : (s : Setup) (m n : ℕ) (c : Client) → c.number < n → AllByRecursion (Below n) (parked_one s m c)
one_below s m n c h = all_listed (Below n) (c.member == m) (parked_of s c) (λ p e.
    let k : IsOf c.number (Some p) = subst (IsOf c.number) e (is_of s c) in omega (arith, h, k))

all_both : {X : Type 0} (P : X → Type 0) (xs ys : List X) → AllByRecursion P xs → AllByRecursion P ys → AllByRecursion P (xs ++ ys)
all_both P [] ys f g = g
all_both P (x ∷ xs) ys f g = (f.0, all_both P xs ys f.1 g)

above_at : (s : Setup) (m n from : ℕ) (cs : List Client) → AreNumbered from cs → n < from → AllByRecursion (Above n) (parked_at s m cs)
unfolding AreNumbered parked_at
above_at s m n from [] h l = tt
above_at s m n from (c ∷ cs) h l =
    all_both (Above n) (parked_one s m c) (parked_at s m cs)
    (all_listed (Above n) (c.member == m) (parked_of s c) (λ p e.
    let k : IsOf c.number (Some p) = subst (IsOf c.number) e (is_of s c) in omega (arith, h.0, k, l)))
    (above_at s m n (from + 1) cs h.1 (omega (arith, l)))

one_here : (s : Setup) (m : ℕ) (c : Client) → c.member ≡ m → parked_one s m c ≡ listed (parked_of s c)
one_here s m c e = ap (λ (b : Bool). cond b (listed (parked_of s c)) []) (eq_yes c.member m e)

one_none : (s : Setup) (m : ℕ) (c : Client) → c.member ≢ m → parked_one s m c ≡ []
one_none s m c e = ap (λ (b : Bool). cond b (listed (parked_of s c)) []) (eq_no c.member m e)

-- the connection now waits otherwise at its own member
pub parked_set : (s : Setup) (m from i : ℕ) (cs : List Client) (c d : Client) → AreNumbered from cs → slice_get cs i ≡ Some c
    → d.number ≡ c.number → d.member ≡ c.member → c.member ≡ m
    → parked_anew c.number (parked_of s d) (parked_at s m cs) ≡ parked_at s m (slice_set cs i d)
unfolding AreNumbered parked_at
parked_set s m from i [] c d h e n f g = absurd (cc)
parked_set s m from zero (x ∷ xs) c d h e n f g =
    let same : x ≡ c = cc in
    let here : parked_one s m x ≡ listed (parked_of s c) = ap (parked_one s m) same ∙ one_here s m c g in
    let number : c.number ≡ from = ap (λ (y : Client). y.number) (sym same) ∙ h.0 in
    ap (λ (ps : List Parked). parked_anew c.number (parked_of s d) (ps ++ parked_at s m xs)) here
    ∙ anew_here c.number (parked_of s c) (parked_of s d) (parked_at s m xs) (is_of s c)
    (subst (λ k. IsOf k (parked_of s d)) n (is_of s d)) (above_at s m c.number (from + 1) xs h.1 (omega (arith, number)))
    ∙ ap (λ (ps : List Parked). ps ++ parked_at s m xs) (sym (one_here s m d (f ∙ g)))
parked_set s m from (suc i) (x ∷ xs) c d h e n f g =
    let number : c.number ≡ from + 1 + i = number_at (from + 1) i xs c h.1 e in
    anew_front c.number (parked_of s d) (parked_one s m x) (parked_at s m xs) (one_below s m c.number x (omega (arith, h.0, number)))
    (subst (λ k. IsOf k (parked_of s d)) n (is_of s d))
    ∙ ap (λ (ps : List Parked). parked_one s m x ++ ps) (parked_set s m (from + 1) i xs c d h.1 e n f g)

-- and those at another are the same
pub parked_other : (s : Setup) (m i : ℕ) (cs : List Client) (c d : Client) → slice_get cs i ≡ Some c
    → d.member ≡ c.member → c.member ≢ m → parked_at s m cs ≡ parked_at s m (slice_set cs i d)
unfolding parked_at
parked_other s m i [] c d e f g = absurd (cc)
parked_other s m zero (x ∷ xs) c d e f g =
    let same : x ≡ c = cc in
    ap (λ (ps : List Parked). ps ++ parked_at s m xs)
    (ap (parked_one s m) same ∙ one_none s m c g ∙ sym (one_none s m d (λ k. g (sym f ∙ k))))
parked_other s m (suc i) (x ∷ xs) c d e f g = ap (λ (ps : List Parked). parked_one s m x ++ ps) (parked_other s m i xs c d e f g)

-- one more connection without a question
pub parked_more : (s : Setup) (m : ℕ) (cs : List Client) (c : Client) → parked_of s c ≡ None
    → parked_at s m cs ≡ parked_at s m (cs ++ (c ∷ []))
unfolding parked_at
parked_more s m [] c e = sym (go (c.member == m)) where
  go : (b : Bool) → cond b (listed (parked_of s c)) [] ++ [] ≡ []
  go true = ap (λ (o : Option Parked). listed o ++ []) e
  go false = refl
parked_more s m (x ∷ xs) c e = ap (λ (ps : List Parked). parked_one s m x ++ ps) (parked_more s m xs c e)

pub numbered_set : (from i : ℕ) (cs : List Client) (c d : Client) → AreNumbered from cs → slice_get cs i ≡ Some c → d.number ≡ c.number
    → AreNumbered from (slice_set cs i d)
unfolding AreNumbered
numbered_set from i [] c d h e n = tt
numbered_set from zero (x ∷ xs) c d h e n =
    let same : x ≡ c = cc in (n ∙ ap (λ (y : Client). y.number) (sym same) ∙ h.0, h.1)
numbered_set from (suc i) (x ∷ xs) c d h e n = (h.0, numbered_set (from + 1) i xs c d h.1 e n)

pub numbered_more : (from : ℕ) (cs : List Client) (c : Client) → AreNumbered from cs → c.number ≡ from + length cs
    → AreNumbered from (cs ++ (c ∷ []))
unfolding AreNumbered
numbered_more from [] c h e = (omega (arith, e), tt)
numbered_more from (x ∷ xs) c h e = (h.0, numbered_more (from + 1) xs c h.1 (omega (arith, e)))

-- one that was taken out does not wait
left_test : (b : Bool) (n : ℕ) (p : Parked) (ps : List Parked) → nat_eq p.conn n ≡ b → is_parked n (without n ps) ≡ false
    → is_parked n (cond (not b) (p ∷ without n ps) (without n ps)) ≡ false
left_test true n p ps e h = h
left_test false n p ps e h = ap (λ (b : Bool). b || is_parked n (without n ps)) e ∙ h

pub none_left : (n : ℕ) (ps : List Parked) → is_parked n (without n ps) ≡ false
none_left n [] = refl
none_left n (p ∷ ps) = left_test (nat_eq p.conn n) n p ps refl (none_left n ps)
