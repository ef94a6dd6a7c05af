-- Lists with a slot for each core, which are read past the end as a default.
use Rattle.std.proofs.Common.{◌≡◌, ℕ, zero, suc, ◌+◌, ◌<◌, ◌≤◌, List, [], ◌∷◌, ◌++◌, length, map, replicate, slice_get, slice_index_or, slice_set, Some, ◌⊎◌, refl, sym, ap, ◌∙◌, subst, inl, inr, arith}
use Rattle.std.specs.List.{range_with_len}

-- what is read after a change: the new, or what was there
pub slot_cases : {A : Type 0} → (xs : List A) (i k : ℕ) (x d : A) →
    ((k ≡ i) × (slice_index_or (slice_set xs i x) k d ≡ x)) ⊎ (slice_index_or (slice_set xs i x) k d ≡ slice_index_or xs k d)
slot_cases [] i k x d = inr refl
slot_cases (y ∷ xs) zero zero x d = inl (refl, refl)
slot_cases (y ∷ xs) zero (suc k) x d = inr refl
slot_cases (y ∷ xs) (suc i) zero x d = inr refl
slot_cases (y ∷ xs) (suc i) (suc k) x d = go (slot_cases xs i k x d)
  where
    go : ((k ≡ i) × (slice_index_or (slice_set xs i x) k d ≡ x)) ⊎ (slice_index_or (slice_set xs i x) k d ≡ slice_index_or xs k d) →
        ((suc k ≡ suc i) × (slice_index_or (slice_set (y ∷ xs) (suc i) x) (suc k) d ≡ x)) ⊎
        (slice_index_or (slice_set (y ∷ xs) (suc i) x) (suc k) d ≡ slice_index_or (y ∷ xs) (suc k) d)
    go (inl q) = let e = q.0 in inl (omega arith, q.1)
    go (inr q) = inr q

-- all slots alike
pub slot_alike : {A : Type 0} → (n k : ℕ) (d : A) → slice_index_or (replicate n d) k d ≡ d
slot_alike zero k d = refl
slot_alike (suc n) zero d = refl
slot_alike (suc n) (suc k) d = slot_alike n k d

-- of all slots, a bound
pub slot_bound : (n k x : ℕ) → slice_index_or (replicate n x) k 0 ≤ x
slot_bound zero k x = omega arith
slot_bound (suc n) zero x = omega arith
slot_bound (suc n) (suc k) x = slot_bound n k x

-- ---- lists with one element changed

pub set_left : {A : Type 0} → (xs ys : List A) (i : ℕ) (x : A) → i < length xs → slice_set xs i x ++ ys ≡ slice_set (xs ++ ys) i x
set_left [] ys i x l = absurd (omega arith)
set_left (y ∷ xs) ys zero x l = refl
set_left (y ∷ xs) ys (suc i) x l = ap (λ zs. y ∷ zs) (set_left xs ys i x (omega arith))

pub set_right : {A : Type 0} → (xs ys : List A) (i : ℕ) (x : A) → xs ++ slice_set ys i x ≡ slice_set (xs ++ ys) (length xs + i) x
set_right [] ys i x = let e : 0 + i ≡ i = omega arith in ap (λ n. slice_set ys n x) (sym e)
set_right (y ∷ xs) ys i x =
    let e : suc (length xs) + i ≡ suc (length xs + i) = omega arith in
    ap (λ zs. y ∷ zs) (set_right xs ys i x) ∙ ap (λ n. slice_set (y ∷ (xs ++ ys)) n x) (sym e)

-- ---- lists of what a table has

-- a table that has the elements of a list, from a number on
pub map_range : {A : Type 0} → (f : ℕ → A) (a : ℕ) (xs : List A) → ((k : ℕ) (x : A) → slice_get xs k ≡ Some x → f (a + k) ≡ x) →
    map f (range_with_len a (length xs)) ≡ xs
map_range f a [] h = refl
map_range f a (x ∷ xs) h =
    let z : a + 0 ≡ a = omega arith in
    let e : f a ≡ x = subst (λ n. f n ≡ x) z (h 0 x refl) in
    let r = map_range f (a + 1) xs (λ k y q. let s : a + suc k ≡ a + 1 + k = omega arith in subst (λ n. f n ≡ y) s (h (suc k) y q)) in
    ap (λ y. y ∷ map f (range_with_len (a + 1) (length xs))) e ∙ ap (λ ys. x ∷ ys) r
