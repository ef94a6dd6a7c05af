-- Lists of two values: their spelling and its length.
use Rattle.std.proofs.Common.{◌≡◌, ℕ, suc, ◌+◌, min, ◌<◌, ◌≤◌, List, [], ◌∷◌, ◌++◌, length, refl, sym, ap, ◌∙◌, append_assoc, arith}
use Rattle.std.specs.Prelude.{IsTrue}
use Rattle.std.proofs.lemmas.List.{append-nil, length-append}
use Rattle.ncc_pack.specs.declared.value.Value.{Value}
use Rattle.ncc_pack.specs.declared.value.Value.TheVariants as v
use Rattle.ncc_pack.specs.Spells.{lists}
use Rattle.ncc_pack.specs.Short.{head, list, short}
use Rattle.ncc_pack.specs.Fits.{fits, fits_within}
use Rattle.ncc_pack.proofs.Loops.{short_list}
use Rattle.ncc_pack.proofs.Sizes.{greatest}

two_head : head lists 2 ≡ 0x92 ∷ []
unfolding head
two_head = refl

pub two_spelled : (x y : Value) → short (v.List (x ∷ y ∷ [])) ≡ head lists 2 ++ (short x ++ short y)
unfolding list
two_spelled x y = short_list (x ∷ y ∷ []) ∙ ap (λ (t : List ℕ). head lists 2 ++ (short x ++ t)) (append-nil (short y))

pub two_put : (x y : Value) (init one two : List ℕ) → one ≡ init ++ head lists 2 → two ≡ one ++ short x →
    two ++ short y ≡ init ++ short (v.List (x ∷ y ∷ []))
two_put x y init one two e f = rw (f, e, two_spelled x y) (append_assoc (init ++ head lists 2) (short x) (short y)
    ∙ append_assoc init (head lists 2) (short x ++ short y))

pub two_length : (x y : Value) → length (short (v.List (x ∷ y ∷ []))) ≡ (1 + length (short x)) + length (short y)
two_length x y =
    let parts : length (short (v.List (x ∷ y ∷ []))) ≡ length ((0x92 ∷ []) ++ (short x ++ short y)) = ap length (two_spelled x y
    ∙ ap (λ (h : List ℕ). h ++ (short x ++ short y)) two_head) in
    omega (arith, parts, length-append (short x) (short y))

sum_of_two : (a b t d s r : ℕ) → t ≡ min a greatest → d ≡ min b greatest → s ≡ min (1 + t) greatest → r ≡ min (s + d) greatest →
    r ≡ min ((1 + a) + b) greatest
sum_of_two a b t d s r e f g h = rw (h, g, e, f) (grind arith)

pub two_adds : (x y : Value) (t d s r : ℕ) → t ≡ min (length (short x)) greatest → d ≡ min (length (short y)) greatest →
    s ≡ min (1 + t) greatest → r ≡ min (s + d) greatest
    → r ≡ min (length (short (v.List (x ∷ y ∷ [])))) greatest
two_adds x y t d s r e f g h = sum_of_two (length (short x)) (length (short y)) t d s r e f g h
    ∙ ap (λ (n : ℕ). min n greatest) (sym (two_length x y))

-- what fits in a row fits by itself
pub whole_by : ((x : Value) (d : ℕ) → IsTrue (fits_within x d) → IsTrue (fits_within x (suc d))) → (x : Value) →
    IsTrue (fits_within x 29) → IsTrue (fits x)
whole_by deeper x h = deeper x 31 (deeper x 30 (deeper x 29 h))

-- ---- what is left where the room is too small

pub two_full : (x y : Value) (init one : List ℕ) (room now : ℕ) → one ≡ init ++ head lists 2 → room ≤ now →
    now < length one + length (short x) → room < length init + length (short (v.List (x ∷ y ∷ [])))
two_full x y init one room now e le small = omega (
  arith,
  ap length e,
  length-append init (head lists 2),
  ap length two_head,
  two_length x y,
)

pub two_full_behind : (x y : Value) (init one two : List ℕ) (room now : ℕ) → one ≡ init ++ head lists 2 → two ≡ one ++ short x →
    room ≤ now → now < length two + length (short y) → room < length init + length (short (v.List (x ∷ y ∷ [])))
two_full_behind x y init one two room now e f le small = omega (
  arith,
  ap length e,
  ap length f,
  length-append init (head lists 2),
  length-append one (short x),
  ap length two_head,
  two_length x y,
)

pub two_full_head : (x y : Value) (room len : ℕ) → room < len + length (head lists 2) → room < len + length (short (v.List (x ∷ y ∷ [])))
two_full_head x y room len lt = omega (arith, ap length two_head, two_length x y)
