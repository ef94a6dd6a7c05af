-- The greatest place that a majority has.
use Rattle.std.proofs.Common.{◌≡◌, ℕ, zero, suc, ◌+◌, ◌-◌, ◌*◌, ◌<◌, ◌≤◌, Bool, true, false, max, List, [], ◌∷◌, length, refl, sym}
use Rattle.std.proofs.Common.{ap, ◌∙◌, subst, arith, cond, get_or, ◌⊎◌, inl, inr}
use Rattle.std.specs.Prelude.{nat_le, nat_lt, nat_eq, slice_index_or, if◌then◌else◌}
use Rattle.std.specs.List.{count_by}
use Rattle.std.proofs.lemmas.Bool.{leb-true, lt-leb, leb-false}
use Rattle.std.proofs.lemmas.List.Sums.{sum_by-cons}
use Rattle.ncc_raft.specs.Fronts.{Middle, known_up_to}
use Rattle.ncc_raft.specs.Member.{cores_of, majority}
use Rattle.ncc_raft.proofs.Cores.{none_majority}

-- ---- of any numbers, one for each core of a list

abbrev many : (ℕ → ℕ) → List ℕ → ℕ → ℕ
many f cores place = count_by (λ (c : ℕ). nat_le place (f c)) cores

more_of : (f : ℕ → ℕ) (c : ℕ) (cs : List ℕ) (place : ℕ) → many f (c ∷ cs) place ≡ cond (nat_le place (f c)) 1 0 + many f cs place
more_of f c cs place = sum_by-cons (λ (x : ℕ). cond (nat_le place (f x)) 1 0) c cs

one_more : (f : ℕ → ℕ) (c : ℕ) (cs : List ℕ) (place : ℕ) → many f cs place ≡ many f cs (suc place) →
    ((k : ℕ) × (k < length (c ∷ cs)) × (f (get_or (c ∷ cs) k 0) ≡ place)) ⊎ (many f (c ∷ cs) place ≡ many f (c ∷ cs) (suc place))
one_more f c cs place e = go (nat_le place (f c)) (nat_le (suc place) (f c)) refl refl
  where
    as_many : nat_le place (f c) ≡ nat_le (suc place) (f c) → many f (c ∷ cs) place ≡ many f (c ∷ cs) (suc place)
    as_many x = more_of f c cs place ∙ ap (λ (t : Bool). cond t 1 0 + many f cs place) x
        ∙ ap (λ (n : ℕ). cond (nat_le (suc place) (f c)) 1 0 + n) e ∙ sym (more_of f c cs (suc place))

    go : (a b : Bool) → nat_le place (f c) ≡ a → nat_le (suc place) (f c) ≡ b →
        ((k : ℕ) × (k < length (c ∷ cs)) × (f (get_or (c ∷ cs) k 0) ≡ place)) ⊎ (many f (c ∷ cs) place ≡ many f (c ∷ cs) (suc place))
    go true true x y = inr (as_many (x ∙ sym y))
    go false false x y = inr (as_many (x ∙ sym y))
    go true false x y = inl (0, omega arith, omega (arith, leb-true place (f c) x, leb-false (suc place) (f c) y))
    go false true x y = absurd (omega (arith, leb-false place (f c) x, leb-true (suc place) (f c) y))

-- some core has exactly this place, or as many have the next
next_place : (f : ℕ → ℕ) (cores : List ℕ) (place : ℕ) →
    ((k : ℕ) × (k < length cores) × (f (get_or cores k 0) ≡ place)) ⊎ (many f cores place ≡ many f cores (suc place))
next_place f [] place = inr refl
next_place f (c ∷ cs) place = elim (next_place f cs place) [
  | inl w ↦ inl (suc w.0, omega (arith, w.1), w.2)
  | inr e ↦ one_more f c cs place e
]

-- ---- of the cores

abbrev has : ℕ → (ℕ → ℕ) → ℕ → Bool
has n f place = majority n (λ (c : ℕ). nat_le place (f c))

same_count : (n : ℕ) (f : ℕ → ℕ) (p q : ℕ) → many f (cores_of n) p ≡ many f (cores_of n) q → has n f p ≡ has n f q
unfolding majority
same_count n f p q e = ap (λ (k : ℕ). nat_lt n (2 * k)) e

-- no core of a greater place than this has one that a majority has
abbrev pub NoneOf : ℕ → (ℕ → ℕ) → ℕ → Type 0
NoneOf n f best = (k : ℕ) → k < length (cores_of n) → best < f (get_or (cores_of n) k 0) → has n f (f (get_or (cores_of n) k 0)) ≡ false

-- then no greater place at all has one
none_up : (n : ℕ) (f : ℕ → ℕ) (best bound : ℕ) → ((c : ℕ) → f c ≤ bound) → NoneOf n f best →
    (left place : ℕ) → bound ≤ place + left → best < place → has n f place ≡ false
none_up n f best bound below none zero place le lt = elim (next_place f (cores_of n) place) [
  | inl w ↦ subst (λ (p : ℕ). has n f p ≡ false) w.2 (none w.0 w.1 (omega (arith, w.2)))
  | inr e ↦ same_count n f place (suc place) e
      ∙ none_majority n (λ (c : ℕ). nat_le (suc place) (f c)) (λ c. lt-leb (suc place) (f c) (omega (arith, below c)))
]
none_up n f best bound below none (suc left) place le lt = elim (next_place f (cores_of n) place) [
  | inl w ↦ subst (λ (p : ℕ). has n f p ≡ false) w.2 (none w.0 w.1 (omega (arith, w.2)))
  | inr e ↦ same_count n f place (suc place) e ∙ none_up n f best bound below none left (suc place) (omega arith) (omega arith)
]

-- a bound of what is known
most_in : List ℕ → ℕ
most_in [] = 0
most_in (x ∷ xs) = max x (most_in xs)

get_le : (xs : List ℕ) (k : ℕ) → get_or xs k 0 ≤ most_in xs
unfolding most_in
get_le [] k = omega arith
get_le (x ∷ xs) zero = omega arith
get_le (x ∷ xs) (suc k) = omega (arith, get_le xs k)

known_le : (matches : List ℕ) (id own c : ℕ) → known_up_to matches id own c ≤ max own (most_in matches)
known_le matches id own c = go (nat_eq c id)
  where
    go : (b : Bool) → (if b then own else slice_index_or matches (c - 1) 0) ≤ max own (most_in matches)
    go true = omega arith
    go false = omega (arith, get_le matches (c - 1))

pub middle_is : (matches : List ℕ) (id own place : ℕ) →
    (0 < place → has (length matches) (known_up_to matches id own) place ≡ true) →
    NoneOf (length matches) (known_up_to matches id own) place → Middle matches id own place
middle_is matches id own place holds none = record {
  has = holds;
  most = λ later lt. none_up (length matches) (known_up_to matches id own) place (max own (most_in matches)) (known_le matches id own) none
      (max own (most_in matches)) later (omega arith) lt;
}
