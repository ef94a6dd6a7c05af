-- The list of the cores, one core on.
use Rattle.std.proofs.Common.{◌≡◌, ℕ, zero, suc, ◌+◌, ◌*◌, Bool, true, false, List, [], ◌∷◌, ◌++◌, refl, sym, ap}
use Rattle.std.proofs.Common.{◌∙◌, arith, cond}
use Rattle.std.specs.Prelude.{map, nat_lt}
use Rattle.std.specs.List.{count_by, filter, range_with_len}
use Rattle.std.proofs.lemmas.Bool.{le-ltb}
use Rattle.std.proofs.lemmas.List.{append-nil, map-append}
use Rattle.std.proofs.lemmas.List.Elements.{filter-append}
use Rattle.std.proofs.lemmas.List.Sums.{sum_by-append, sum_by-cons}
use Rattle.std.proofs.Math.Nat.{add-zero}
use Rattle.ncc_raft.specs.Member.{cores_of, majority}

range_more : (a n : ℕ) → range_with_len a (suc n) ≡ range_with_len a n ++ (a + n) ∷ []
range_more a zero = let e : a ≡ a + 0 = omega arith in ap (λ (x : ℕ). x ∷ []) e
range_more a (suc n) =
    let e : a + 1 + n ≡ a + suc n = omega arith in
    ap (λ (l : List ℕ). a ∷ l) (range_more (a + 1) n) ∙ ap (λ (x : ℕ). a ∷ (range_with_len (a + 1) n ++ x ∷ [])) e

pub cores_more : (n : ℕ) → cores_of (n + 1) ≡ cores_of n ++ (n + 1) ∷ []
cores_more n =
    let e : n + 1 ≡ suc n = omega arith in
    let f : 1 + n ≡ n + 1 = omega arith in
    ap (λ (k : ℕ). range_with_len 1 k) e ∙ range_more 1 n ∙ ap (λ (x : ℕ). range_with_len 1 n ++ x ∷ []) f

pub map_more : {X : Type 0} (f : ℕ → X) (n : ℕ) → map f (cores_of (n + 1)) ≡ map f (cores_of n) ++ f (n + 1) ∷ []
map_more f n = ap (map f) (cores_more n) ∙ map-append f (cores_of n) ((n + 1) ∷ [])

filter_more : (p : ℕ → Bool) (n : ℕ) →
    filter p (cores_of (n + 1)) ≡ filter p (cores_of n) ++ cond (p (n + 1)) ((n + 1) ∷ []) []
filter_more p n = ap (filter p) (cores_more n) ∙ filter-append p (cores_of n) ((n + 1) ∷ [])

pub others_more : {X : Type 0} (f : ℕ → X) (p : ℕ → Bool) (n : ℕ) → p (n + 1) ≡ true →
    map f (filter p (cores_of (n + 1))) ≡ map f (filter p (cores_of n)) ++ f (n + 1) ∷ []
others_more f p n e =
    ap (map f) (filter_more p n ∙ ap (λ (b : Bool). filter p (cores_of n) ++ cond b ((n + 1) ∷ []) []) e)
    ∙ map-append f (filter p (cores_of n)) ((n + 1) ∷ [])

pub others_less : {X : Type 0} (f : ℕ → X) (p : ℕ → Bool) (n : ℕ) → p (n + 1) ≡ false →
    map f (filter p (cores_of (n + 1))) ≡ map f (filter p (cores_of n))
others_less f p n e =
    ap (map f) (filter_more p n ∙ ap (λ (b : Bool). filter p (cores_of n) ++ cond b ((n + 1) ∷ []) []) e
    ∙ append-nil (filter p (cores_of n)))

pub count_more : (p : ℕ → Bool) (n : ℕ) → count_by p (cores_of (n + 1)) ≡ count_by p (cores_of n) + cond (p (n + 1)) 1 0
count_more p n =
    let last : count_by p ((n + 1) ∷ []) ≡ cond (p (n + 1)) 1 0 = sum_by-cons (λ (x : ℕ). cond (p x) 1 0) (n + 1) [] ∙ add-zero
    (cond (p (n + 1)) 1 0) in
    ap (count_by p) (cores_more n) ∙ sum_by-append (λ (x : ℕ). cond (p x) 1 0) (cores_of n) ((n + 1) ∷ [])
    ∙ ap (λ (k : ℕ). count_by p (cores_of n) + k) last

pub count_yes : (p : ℕ → Bool) (n c : ℕ) → c ≡ count_by p (cores_of n) → p (n + 1) ≡ true → c + 1 ≡ count_by p (cores_of (n + 1))
count_yes p n c e t = sym (count_more p n ∙ ap (λ (b : Bool). count_by p (cores_of n) + cond b 1 0) t ∙ ap (λ (k : ℕ). k + 1) (sym e))

pub count_no : (p : ℕ → Bool) (n c : ℕ) → c ≡ count_by p (cores_of n) → p (n + 1) ≡ false → c ≡ count_by p (cores_of (n + 1))
count_no p n c e t =
    let z : count_by p (cores_of n) + 0 ≡ c = omega (arith, e) in
    sym (count_more p n ∙ ap (λ (b : Bool). count_by p (cores_of n) + cond b 1 0) t ∙ z)

-- ---- what a majority passes

pub majority_is : (n : ℕ) (p : ℕ → Bool) (c : ℕ) → c ≡ count_by p (cores_of n) → nat_lt n (2 * c) ≡ majority n p
unfolding majority
majority_is n p c e = ap (λ (k : ℕ). nat_lt n (2 * k)) e

-- where none passes, no majority does
none_by : (p : ℕ → Bool) (xs : List ℕ) → ((x : ℕ) → p x ≡ false) → count_by p xs ≡ 0
none_by p [] h = refl
none_by p (x ∷ xs) h =
    let rest : count_by p xs ≡ 0 = none_by p xs h in
    sum_by-cons (λ (y : ℕ). cond (p y) 1 0) x xs ∙ ap (λ (b : Bool). cond b 1 0 + count_by p xs) (h x) ∙ omega (arith, rest)

pub none_majority : (n : ℕ) (p : ℕ → Bool) → ((x : ℕ) → p x ≡ false) → majority n p ≡ false
unfolding majority
none_majority n p h = le-ltb n (2 * count_by p (cores_of n)) (omega (arith, none_by p (cores_of n) h))
