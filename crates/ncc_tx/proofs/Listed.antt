-- Lists of what values are made of: when they fit, and how they are spelled.
use Rattle.std.proofs.Common.{◌≡◌, ℕ, zero, suc, ◌+◌, ◌-◌, ◌<◌, ◌≤◌, true, false, ◌&&◌, min, List, [], ◌∷◌, ◌++◌, length, map, take}
use Rattle.std.proofs.Common.{get_or, refl, sym, ap, ◌∙◌, append_assoc, arith}
use Rattle.std.specs.Prelude.{IsTrue, nat_le}
use Rattle.std.specs.List.{list_all}
use Rattle.std.proofs.lemmas.List.{length-append, length-map, take_all}
use Rattle.std.proofs.lemmas.List.Folds.{list_all-map}
use Rattle.ncc_pack.specs.declared.value.Value.{Value}
use Rattle.ncc_pack.specs.declared.value.Value.TheOpen.{Value-F}
use Rattle.ncc_pack.specs.declared.value.Value.TheVariants as v
use Rattle.ncc_pack.specs.Limits.{max_size}
use Rattle.ncc_pack.specs.Spells.{lists}
use Rattle.ncc_pack.specs.Short.{head, concat, list, short}
use Rattle.ncc_pack.specs.Fits.{Fit, fits_within}
use Rattle.ncc_pack.proofs.Loops.{all_at, both, fit_of, joined_more, short_list, step}
use Rattle.ncc_pack.proofs.Fitting.{one_fails, all_pass, list_more, and_false, small_enough}
use Rattle.ncc_pack.proofs.Sizes.{greatest, goes_on}

-- ---- what fits

pub list_by : (xs : List Value) (d : ℕ) → 0 < d →
    fits_within (v.List xs) d ≡ (nat_le (length xs) max_size && list_all (λ x. fits_within x (d - 1)) xs)
list_by xs d lt = ap (λ (f : Fit). f.levels d) (fit_of (v.List xs) (Value-F.List xs) (v.rolls-List xs)) ∙ list_more xs d lt

-- a list of values that are made of other items
module _ {A : Type 0} (f : A → Value) (xs : List A) where
  pub fits_by : (d : ℕ) → 0 < d → fits_within (v.List (map f xs)) d ≡
      (nat_le (length xs) max_size && list_all (λ x. fits_within (f x) (d - 1)) xs)
  fits_by d lt = list_by (map f xs) d lt ∙ rw (length-map xs f, list_all-map (λ y. fits_within y (d - 1)) f xs) refl

  pub none_fits : (d : ℕ) (ys : List A) (i : ℕ) (x : A) → 0 < d → ys ≡ xs → i < length ys → x ≡ get_or ys i x →
      fits_within (f x) (d - 1) ≡ false → false ≡ fits_within (v.List (map f xs)) d
  none_fits d ys i x pos same lt is bad =
      let none = one_fails (λ x. fits_within (f x) (d - 1)) xs ys i x same lt is bad in
      sym (fits_by d pos ∙ rw none (and_false _))

  pub too_long : (d : ℕ) → 0 < d → max_size < length xs → false ≡ fits_within (v.List (map f xs)) d
  too_long d pos lt =
      let none : nat_le (length xs) max_size ≡ false = grind arith in
      sym (fits_by d pos ∙ rw none refl)

  pub all_fit : (d : ℕ) (ys : List A) (i : ℕ) → 0 < d → length xs ≤ max_size → ys ≡ xs → length ys ≤ i →
      list_all (λ x. fits_within (f x) (d - 1)) (take i ys) ≡ true → true ≡ fits_within (v.List (map f xs)) d
  all_fit d ys i pos le same done good =
      let all = all_pass (λ x. fits_within (f x) (d - 1)) xs ys i same done good in
      sym (fits_by d pos ∙ rw all (small_enough _ le))

  pub parts : (d : ℕ) → 0 < d → IsTrue (fits_within (v.List (map f xs)) d) → IsTrue (nat_le (length xs) max_size)
      × IsTrue (list_all (λ x. fits_within (f x) (d - 1)) xs)
  parts d pos h = both (nat_le (length xs) max_size) (list_all (λ x. fits_within (f x) (d - 1)) xs) (sym (fits_by d pos) ∙ h)

  pub size : (d : ℕ) → 0 < d → IsTrue (fits_within (v.List (map f xs)) d) → length xs ≤ max_size
  size d pos h = let p = (parts d pos h).0 in grind arith

  pub item_fits : (d : ℕ) (ys : List A) (i : ℕ) (x : A) → 0 < d → ys ≡ xs → i < length ys → x ≡ get_or ys i x →
      IsTrue (fits_within (v.List (map f xs)) d) → IsTrue (fits_within (f x) (d - 1))
  item_fits d ys i x pos same lt is h =
      let all : IsTrue (list_all (λ y. fits_within (f y) (d - 1)) ys) = rw same (parts d pos h).1 in
      rw is (all_at (λ y. fits_within (f y) (d - 1)) ys i x lt all)

-- ---- how it is spelled

-- the spellings of the first of these items, one behind the other
abbrev pub spelled_to : {A : Type 0} → (A → Value) → ℕ → List A → List ℕ
spelled_to f i xs = concat (map (λ x. short (f x)) (take i xs))

module _ {A : Type 0} (f : A → Value) where
  pub one_more : (ys : List A) (i : ℕ) (x : A) → i < length ys → x ≡ get_or ys i x →
      spelled_to f (i + 1) ys ≡ spelled_to f i ys ++ short (f x)
  one_more ys i x lt is = joined_more (λ y. short (f y)) ys i x lt ∙ ap (λ (y : A). spelled_to f i ys ++ short (f y)) (sym is)

  spelled_all : (xs : List A) → concat (map short (map f xs)) ≡ concat (map (λ x. short (f x)) xs)
  spelled_all [] = refl
  spelled_all (x ∷ xs) = ap (λ (t : List ℕ). short (f x) ++ t) (spelled_all xs)

  pub ends : (xs ys : List A) (i : ℕ) → ys ≡ xs → length ys ≤ i → head lists (length xs) ++ spelled_to f i ys ≡ short (v.List (map f xs))
  unfolding list
  ends xs ys i same le = sym (short_list (map f xs) ∙ rw (
    length-map (map f xs) short,
    length-map xs f,
    spelled_all xs,
    take_all i ys le,
    same,
  ) refl)

  -- a sum of lengths, with one more item
  pub adds : (sum t n : ℕ) (ys : List A) (i : ℕ) (x : A) → i < length ys → x ≡ get_or ys i x →
      sum ≡ min (length (head lists n ++ spelled_to f i ys)) greatest → t ≡ min (length (short (f x))) greatest
      → min (sum + t) greatest ≡ min (length (head lists n ++ spelled_to f (i + 1) ys)) greatest
  adds sum t n ys i x lt is e g = goes_on sum t (head lists n) (spelled_to f i ys) (short (f x)) (spelled_to f (i + 1) ys) e g
      (one_more ys i x lt is)

  -- what is written, with one more item
  pub one_put : (init into new h : List ℕ) (ys : List A) (i : ℕ) (x : A) → i < length ys → x ≡ get_or ys i x →
      into ≡ init ++ (h ++ spelled_to f i ys) → new ≡ into ++ short (f x) → new ≡ init ++ (h ++ spelled_to f (i + 1) ys)
  one_put init into new h ys i x lt is e g = step new into init (h ++ spelled_to f i ys) (short (f x))
      (h ++ spelled_to f (i + 1) ys) g e (ap (λ (t : List ℕ). h ++ t) (one_more ys i x lt is)
      ∙ sym (append_assoc h (spelled_to f i ys) (short (f x))))

-- ---- what is left where the room is too small

front_le : {A : Type 0} (g : A → List ℕ) (ys : List A) (i : ℕ) → length (concat (map g (take i ys))) ≤ length (concat (map g ys))
front_le g ys zero = omega arith
front_le g [] (suc i) = omega arith
front_le g (y ∷ ys) (suc i) = omega (
  arith,
  length-append (g y) (concat (map g (take i ys))),
  length-append (g y) (concat (map g ys)),
  front_le g ys i,
)

module _ {A : Type 0} (f : A → Value) (xs ys : List A) (same : ys ≡ xs) where
  whole_length : length (short (v.List (map f xs))) ≡ length (head lists (length xs)) + length (spelled_to f (length ys) ys)
  whole_length = ap length (sym (ends f xs ys (length ys) same (omega arith)))
      ∙ length-append (head lists (length xs)) (spelled_to f (length ys) ys)

  pub full_head : (n room len : ℕ) → n ≡ length xs → room < len + length (head lists n) →
      room < len + length (short (v.List (map f xs)))
  full_head n room len e lt = omega (arith, whole_length, ap (λ (k : ℕ). length (head lists k)) e)

  pub full_item : (i : ℕ) (x : A) (init into : List ℕ) (room now : ℕ) → i < length ys → x ≡ get_or ys i x →
      into ≡ init ++ (head lists (length xs) ++ spelled_to f i ys) → room ≤ now
      → now < length into + length (short (f x)) → room < length init + length (short (v.List (map f xs)))
  full_item i x init into room now lt is e le small =
      let more : length (spelled_to f (i + 1) ys) ≡ length (spelled_to f i ys) + length (short (f x)) =
      ap length (one_more f ys i x lt is) ∙ length-append (spelled_to f i ys) (short (f x)) in
      let top : length (spelled_to f (i + 1) ys) ≤ length (spelled_to f (length ys) ys) =
      rw (take_all (length ys) ys (omega arith)) (front_le (λ y. short (f y)) ys (i + 1)) in
      omega (
        arith,
        whole_length,
        more,
        top,
        ap length e,
        length-append init (head lists (length xs) ++ spelled_to f i ys),
        length-append (head lists (length xs)) (spelled_to f i ys),
      )
