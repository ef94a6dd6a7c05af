-- Lists: what holds of each element, prefixes, and the element at an index.
use Rattle.std.proofs.Common.{◌≡◌, ◌≢◌, ℕ, zero, suc, ◌+◌, ◌<◌, ◌≤◌, Bool, true, false, cond, List, [], ◌∷◌, ◌++◌, length, take, None}
use Rattle.std.proofs.Common.{Some, refl, ap, sym, ◌∙◌, arith, append_assoc, length-append, subst, inl, inr, ◌⊎◌, not, ltb-false}
use Rattle.std.proofs.lemmas.List.{append-nil, take_at, take-append-le}
use Rattle.std.proofs.lemmas.List.Sums.{sum_by-append, sum_by-cons}
use Rattle.std.specs.Prelude.{slice_get, slice_set, slice_index_or, position, nat_lt, count_by}
use Rattle.std.specs.List.{AllByRecursion, position_or_len}

pub all_weaker : {X : Type 0} (P Q : X → Type 0) → ((x : X) → P x → Q x) → (xs : List X) → AllByRecursion P xs → AllByRecursion Q xs
all_weaker P Q f [] h = tt
all_weaker P Q f (x ∷ xs) h = (f x h.0, all_weaker P Q f xs h.1)

pub all_append : {X : Type 0} (P : X → Type 0) (xs ys : List X) → AllByRecursion P xs → AllByRecursion P ys → AllByRecursion P (xs ++ ys)
all_append P [] ys f g = g
all_append P (x ∷ xs) ys f g = (f.0, all_append P xs ys f.1 g)

pub all_or : {X : Type 0} (P : X → Type 0) (xs : List X) (i : ℕ) (d : X) → AllByRecursion P xs → P d → P (slice_index_or xs i d)
all_or P [] i d h p = p
all_or P (x ∷ xs) zero d h p = h.0
all_or P (x ∷ xs) (suc i) d h p = all_or P xs i d h.1 p

-- what holds at each index holds of all
pub all_from : {X : Type 0} (P : X → Type 0) (xs : List X) → ((i : ℕ) (x : X) → slice_get xs i ≡ Some x → P x) → AllByRecursion P xs
all_from P [] f = tt
all_from P (x ∷ xs) f = (f zero x refl, all_from P xs (λ i y e. f (suc i) y e))

-- a list begins another
abbrev pub Starts : {X : Type 0} → List X → List X → Type 0
Starts {X} xs ys = (rest : List X) × (xs ++ rest ≡ ys)

pub starts_self : {X : Type 0} (xs : List X) → Starts xs xs
starts_self xs = ([], append-nil xs)

pub starts_through : {X : Type 0} (xs ys zs : List X) → Starts xs ys → Starts ys zs → Starts xs zs
starts_through xs ys zs f g = (f.0 ++ g.0, sym (append_assoc xs f.0 g.0) ∙ (ap (λ l. l ++ g.0) f.1 ∙ g.1))

pub starts_length : {X : Type 0} (xs ys : List X) → Starts xs ys → length xs ≤ length ys
starts_length xs ys f = omega (arith, ap length f.1, length-append xs f.0)

pub starts_take : {X : Type 0} (xs ys : List X) → Starts xs ys → take (length xs) ys ≡ xs
starts_take xs ys f = ap (take (length xs)) (sym f.1) ∙ take_at xs f.0 (length xs) refl

pub take_starts : {X : Type 0} (n : ℕ) (xs ys : List X) → n ≤ length xs → Starts xs ys → take n ys ≡ take n xs
take_starts n xs ys h f = sym (ap (take n) f.1) ∙ take-append-le n xs f.0 h

pub get_append : {X : Type 0} (xs ys : List X) (i : ℕ) (x : X) → slice_get xs i ≡ Some x → slice_get (xs ++ ys) i ≡ Some x
get_append [] ys i x e = absurd (cc)
get_append (y ∷ xs) ys zero x e = e
get_append (y ∷ xs) ys (suc i) x e = get_append xs ys i x e

pub get_starts : {X : Type 0} (xs ys : List X) (i : ℕ) (x : X) → Starts xs ys → slice_get xs i ≡ Some x → slice_get ys i ≡ Some x
get_starts xs ys i x f e = let P : List _ → Type 0 = λ l. slice_get l i ≡ Some x in subst P f.1 (get_append xs f.0 i x e)

-- an element of a list with one more at its end: one of the list, or the last
pub get_push : {X : Type 0} (xs : List X) (y : X) (i : ℕ) (x : X) → slice_get (xs ++ (y ∷ [])) i ≡ Some x
    → (slice_get xs i ≡ Some x) ⊎ ((i ≡ length xs) × (y ≡ x))
get_push [] y zero x e = inr (refl, cc)
get_push [] y (suc i) x e = absurd (cc)
get_push (z ∷ xs) y zero x e = inl e
get_push (z ∷ xs) y (suc i) x e = elim (get_push xs y i x e) [ inl h ↦ inl h | inr h ↦ inr (omega (arith, h.0), h.1) ]

pub get_within : {X : Type 0} (xs : List X) (i : ℕ) (x : X) → slice_get xs i ≡ Some x → i < length xs
get_within [] i x e = absurd (cc)
get_within (y ∷ xs) zero x e = omega arith
get_within (y ∷ xs) (suc i) x e = omega (arith, get_within xs i x e)

pub get_there : {X : Type 0} (xs : List X) (k : ℕ) → k < length xs → (x : X) × (slice_get xs k ≡ Some x)
get_there [] k h = absurd (omega arith)
get_there (y ∷ ys) zero h = (y, refl)
get_there (y ∷ ys) (suc k) h = get_there ys k (omega arith)

get_none : {X : Type 0} (xs : List X) (i : ℕ) → slice_get xs i ≡ None → length xs ≤ i
get_none [] i e = omega arith
get_none (x ∷ xs) zero e = absurd (cc)
get_none (x ∷ xs) (suc i) e = omega (arith, get_none xs i e)

-- where an element is another one: that one, or one that stays at another index
pub get_set : {X : Type 0} (xs : List X) (i : ℕ) (y : X) (j : ℕ) (z : X) → slice_get (slice_set xs i y) j ≡ Some z
    → ((j ≡ i) × (y ≡ z)) ⊎ ((j ≢ i) × (slice_get xs j ≡ Some z))
get_set [] i y j z e = absurd (cc)
get_set (x ∷ xs) zero y zero z e = inl (refl, cc)
get_set (x ∷ xs) zero y (suc j) z e = inr (λ h. absurd (omega (arith, h)), e)
get_set (x ∷ xs) (suc i) y zero z e = inr (λ h. absurd (omega (arith, h)), e)
get_set (x ∷ xs) (suc i) y (suc j) z e = elim (get_set xs i y j z e) [
  | inl h ↦ inl (omega (arith, h.0), h.1)
  | inr h ↦ inr (λ k. h.0 (omega (arith, k)), h.1)
]

pub set_same : {X : Type 0} (xs : List X) (i : ℕ) (x y : X) → slice_get xs i ≡ Some x → slice_get (slice_set xs i y) i ≡ Some y
set_same [] i x y e = absurd (cc)
set_same (z ∷ xs) zero x y e = refl
set_same (z ∷ xs) (suc i) x y e = set_same xs i x y e

pub set_other : {X : Type 0} (xs : List X) (i j : ℕ) (y : X) → (j ≢ i) → slice_get (slice_set xs i y) j ≡ slice_get xs j
set_other [] i j y h = refl
set_other (z ∷ xs) zero zero y h = absurd (h refl)
set_other (z ∷ xs) zero (suc j) y h = refl
set_other (z ∷ xs) (suc i) zero y h = refl
set_other (z ∷ xs) (suc i) (suc j) y h = set_other xs i j y (λ k. h (omega (arith, k)))

pub set_length : {X : Type 0} (xs : List X) (i : ℕ) (y : X) → length (slice_set xs i y) ≡ length xs
set_length [] i y = refl
set_length (z ∷ xs) zero y = refl
set_length (z ∷ xs) (suc i) y = omega (arith, set_length xs i y)

-- ---- counts

abbrev pub one : Bool → ℕ
one b = cond b 1 0

pub count_append : {X : Type 0} (p : X → Bool) (xs ys : List X) → count_by p (xs ++ ys) ≡ count_by p xs + count_by p ys
count_append p xs ys = sum_by-append (λ x. one (p x)) xs ys

pub count_push : {X : Type 0} (p : X → Bool) (xs : List X) (y : X) → count_by p (xs ++ (y ∷ [])) ≡ count_by p xs + one (p y)
count_push p xs y = omega (arith, sum_by-append (λ x. one (p x)) xs (y ∷ []), sum_by-cons (λ x. one (p x)) y [])

pub count_set : {X : Type 0} (p : X → Bool) (xs : List X) (i : ℕ) (x y : X) → slice_get xs i ≡ Some x
    → count_by p (slice_set xs i y) + one (p x) ≡ count_by p xs + one (p y)
count_set p [] i x y e = absurd (cc)
count_set p (z ∷ xs) zero x y e =
    let same : one (p z) ≡ one (p x) = (let s : z ≡ x = cc in ap (λ w. one (p w)) s) in
    omega (arith, same, sum_by-cons (λ w. one (p w)) z xs, sum_by-cons (λ w. one (p w)) y xs)
count_set p (z ∷ xs) (suc i) x y e =
    omega (arith, count_set p xs i x y e, sum_by-cons (λ w. one (p w)) z xs, sum_by-cons (λ w. one (p w)) z (slice_set xs i y))

-- ---- the first that passes

-- where the first that passes stands past the end, none passes
none_pass : {X : Type 0} (p : X → Bool) (xs : List X) → length xs ≤ position_or_len p xs → AllByRecursion (λ x. p x ≡ false) xs
none_pass p [] h = tt
none_pass p (x ∷ xs) h = go (p x) refl h (none_pass p xs) where
  go : (b : Bool) → p x ≡ b → length (x ∷ xs) ≤ cond (not b) (1 + position_or_len p xs) 0 →
      (length xs ≤ position_or_len p xs → AllByRecursion (λ y. p y ≡ false) xs) → AllByRecursion (λ y. p y ≡ false) (x ∷ xs)
  go true e h f = absurd (omega arith)
  go false e h f = (e, f (omega arith))

position_past : {X : Type 0} (p : X → Bool) (xs : List X) → position p xs ≡ None → length xs ≤ position_or_len p xs
position_past p xs e = go (nat_lt (position_or_len p xs) (length xs)) refl e where
  go : (b : Bool) → nat_lt (position_or_len p xs) (length xs) ≡ b → cond b (Some (position_or_len p xs)) None ≡ None →
      length xs ≤ position_or_len p xs
  go true h e = absurd (cc)
  go false h e = ltb-false (position_or_len p xs) (length xs) h

pub nobody_passes : {X : Type 0} (p : X → Bool) (xs : List X) → position p xs ≡ None → AllByRecursion (λ x. p x ≡ false) xs
nobody_passes p xs e = none_pass p xs (position_past p xs e)

pub all_get : {X : Type 0} (P : X → Type 0) (xs : List X) (i : ℕ) (x : X) → AllByRecursion P xs → slice_get xs i ≡ Some x → P x
all_get P [] i x h e = absurd (cc)
all_get P (y ∷ ys) zero x h e = let same : y ≡ x = cc in subst P same h.0
all_get P (y ∷ ys) (suc i) x h e = all_get P ys i x h.1 e
