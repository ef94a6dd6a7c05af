-- Two majorities share a core.
use Rattle.std.proofs.Common.{◌≡◌, ℕ, zero, suc, ◌+◌, ◌*◌, ◌<◌, ◌≤◌, Bool, true, false, cond, List, [], ◌∷◌, length, count_by, refl, arith}
use Rattle.std.specs.List.{range_with_len}
use Rattle.std.proofs.lemmas.Bool.{ltb-true, lt-ltb}
use Rattle.std.proofs.lemmas.List.FromFn.{length-range_with_len}
use Rattle.std.proofs.lemmas.List.Sums.{sum_by-cons}
use Rattle.ncc_raft.specs.Member.{cores_of, majority}

-- two tests that pass more elements than there are pass one together
abbrev Both : (ℕ → Bool) → (ℕ → Bool) → Type 0
Both p q = (x : ℕ) × (p x ≡ true) × (q x ≡ true)

both_pass : (p q : ℕ → Bool) (xs : List ℕ) → length xs < count_by p xs + count_by q xs → Both p q
both_pass p q [] h = absurd (omega arith)
both_pass p q (x ∷ xs) h =
    let ep : count_by p (x ∷ xs) ≡ cond (p x) 1 0 + count_by p xs = sum_by-cons (λ y. cond (p y) 1 0) x xs in
    let eq : count_by q (x ∷ xs) ≡ cond (q x) 1 0 + count_by q xs = sum_by-cons (λ y. cond (q y) 1 0) x xs in
    go (p x) (q x) refl refl (omega arith) (λ k. both_pass p q xs k)
  where
    go : (a b : Bool) → p x ≡ a → q x ≡ b → suc (length xs) < (cond a 1 0 + count_by p xs) + (cond b 1 0 + count_by q xs) →
        (length xs < count_by p xs + count_by q xs → Both p q) → Both p q
    go true true ea eb l rest = (x, ea, eb)
    go true false ea eb l rest = rest (omega arith)
    go false b ea eb l rest = elim b as (λ v. suc (length xs) < (0 + count_by p xs) + (cond v 1 0 + count_by q xs) → Both p q)
        [ true ↦ λ m. rest (omega arith) | false ↦ λ m. rest (omega arith) ] l

pub quorum : (n : ℕ) (p q : ℕ → Bool) → majority n p ≡ true → majority n q ≡ true → (x : ℕ) × (p x ≡ true) × (q x ≡ true)
unfolding majority
quorum n p q a b =
    let a' = ltb-true n (2 * count_by p (cores_of n)) a in
    let b' = ltb-true n (2 * count_by q (cores_of n)) b in
    let e = length-range_with_len 1 n in
    both_pass p q (cores_of n) (omega arith)

count_more : (p q : ℕ → Bool) → ((x : ℕ) → 0 < x → p x ≡ true → q x ≡ true) → (a n : ℕ) → 0 < a →
    count_by p (range_with_len a n) ≤ count_by q (range_with_len a n)
count_more p q imp a zero pos = omega arith
count_more p q imp a (suc n) pos =
    let ep : count_by p (a ∷ range_with_len (a + 1) n) ≡ cond (p a) 1 0 + count_by p (range_with_len (a + 1) n) =
    sum_by-cons (λ y. cond (p y) 1 0) a (range_with_len (a + 1) n) in
    let eq : count_by q (a ∷ range_with_len (a + 1) n) ≡ cond (q a) 1 0 + count_by q (range_with_len (a + 1) n) =
    sum_by-cons (λ y. cond (q y) 1 0) a (range_with_len (a + 1) n) in
    let l = go (p a) (q a) refl refl (count_more p q imp (a + 1) n (omega arith)) in
    omega arith
  where
    go : (u v : Bool) → p a ≡ u → q a ≡ v → count_by p (range_with_len (a + 1) n) ≤ count_by q (range_with_len (a + 1) n) →
        cond u 1 0 + count_by p (range_with_len (a + 1) n) ≤ cond v 1 0 + count_by q (range_with_len (a + 1) n)
    go true true ea eb l = omega arith
    go true false ea eb l = let e = imp a pos ea in absurd (cc)
    go false v ea eb l = elim v as (λ w. 0 + count_by p (range_with_len (a + 1) n) ≤ cond w 1 0 + count_by q (range_with_len (a + 1) n))
        [ true ↦ omega arith | false ↦ omega arith ]

-- a test that passes each core that a majority passes
pub majority_more : (n : ℕ) (p q : ℕ → Bool) → ((x : ℕ) → 0 < x → p x ≡ true → q x ≡ true) → majority n p ≡ true → majority n q ≡ true
unfolding majority
majority_more n p q imp a =
    let a' = ltb-true n (2 * count_by p (cores_of n)) a in
    let l = count_more p q imp 1 n (omega arith) in
    lt-ltb n (2 * count_by q (cores_of n)) (omega arith)
