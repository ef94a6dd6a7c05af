-- Markers, both ways.
use Rattle.std.proofs.Common.{◌≡◌, ℕ, ◌+◌, ◌-◌, ◌<◌, ◌≤◌, Bool, true, false, cond, refl, arith}
use Rattle.std.specs.Prelude.{◌==◌, nat_lt, pos, negsuc, ℤ}
use Rattle.std.proofs.lemmas.Bool.{eqb-true, ltb-false}
use borrow.Author.Tests.{ltb-true}
use Rattle.ncc_pack.specs.declared.mark.Mark.{Mark}
use Rattle.ncc_pack.specs.declared.mark.Mark.TheVariants as k
use Rattle.ncc_pack.specs.declared.mark.Size.{Size}
use Rattle.ncc_pack.specs.declared.mark.Size.TheVariants.{Here, One, Two, Four}
use Rattle.ncc_pack.specs.Marker.{marker, sized_marker, plain_marker}
use Rattle.ncc_pack.specs.Spells.{Kind, texts, lists, dicts, bytes_mark}

-- what a marker says of its byte
abbrev pub WideSays : ℕ → ℕ → Size → Type 0
WideSays mark m (Here n) = ⊥
WideSays mark m One = m ≡ mark
WideSays mark m Two = m ≡ mark + 1
WideSays mark m Four = m ≡ mark + 2

abbrev pub SizeSays : Kind → ℕ → Size → Type 0
SizeSays kind m (Here n) = (n < 16) × (m ≡ kind.tiny + n)
SizeSays kind m One = m ≡ kind.wide
SizeSays kind m Two = m ≡ kind.wide + 1
SizeSays kind m Four = m ≡ kind.wide + 2

abbrev pub SmallSays : ℕ → ℤ → Type 0
SmallSays m (pos n) = (n < 128) × (m ≡ n)
SmallSays m (negsuc n) = (n < 16) × (m ≡ 255 - n)

abbrev pub Says : ℕ → Mark → Type 0
Says m k.Null = m ≡ 0xC0
Says m (k.Bool false) = m ≡ 0xC2
Says m (k.Bool true) = m ≡ 0xC3
Says m (k.Small z) = SmallSays m z
Says m k.Int1 = m ≡ 0xC8
Says m k.Int2 = m ≡ 0xC9
Says m k.Int4 = m ≡ 0xCA
Says m k.Int8 = m ≡ 0xCB
Says m (k.Bytes s) = WideSays bytes_mark m s
Says m (k.Text s) = SizeSays texts m s
Says m (k.List s) = SizeSays lists m s
Says m (k.Dict s) = SizeSays dicts m s
Says m k.Node = m ≡ 0xB3
Says m _ = Unit {0}

test : (P : Mark → Type 0) (b : Bool) (x y : Mark) → (b ≡ true → P x) → (b ≡ false → P y) → P (cond b x y)
test P true x y f g = f refl
test P false x y f g = g refl

sized_says : (m : ℕ) → Says m (sized_marker m)
sized_says m =
    test (Says m) (m == 0xCC) _ _ (eqb-true m 0xCC) (λ _. test (Says m) (m == 0xCD) _ _ (eqb-true m 0xCD)
    (λ _. test (Says m) (m == 0xCE) _ _ (eqb-true m 0xCE) (λ _.
    test (Says m) (m == 0xD0) _ _ (eqb-true m 0xD0) (λ _. test (Says m) (m == 0xD1) _ _ (eqb-true m 0xD1)
    (λ _. test (Says m) (m == 0xD2) _ _ (eqb-true m 0xD2) (λ _.
    test (Says m) (m == 0xD4) _ _ (eqb-true m 0xD4) (λ _. test (Says m) (m == 0xD5) _ _ (eqb-true m 0xD5)
    (λ _. test (Says m) (m == 0xD6) _ _ (eqb-true m 0xD6) (λ _.
    test (Says m) (m == 0xD8) _ _ (eqb-true m 0xD8) (λ _. test (Says m) (m == 0xD9) _ _ (eqb-true m 0xD9)
    (λ _. test (Says m) (m == 0xDA) _ _ (eqb-true m 0xDA) (λ _.
    test (Says m) (m == 0xB3) _ _ (eqb-true m 0xB3) (λ _. tt)))))))))))))

plain_says : (m : ℕ) → Says m (plain_marker m)
plain_says m =
    test (Says m) (m == 0xC0) _ _ (eqb-true m 0xC0) (λ _. test (Says m) (m == 0xC1) _ _ (λ _. tt)
    (λ _. test (Says m) (m == 0xC2) _ _ (eqb-true m 0xC2) (λ _. test (Says m) (m == 0xC3) _ _ (eqb-true m 0xC3) (λ _.
    test (Says m) (m == 0xC8) _ _ (eqb-true m 0xC8) (λ _. test (Says m) (m == 0xC9) _ _ (eqb-true m 0xC9)
    (λ _. test (Says m) (m == 0xCA) _ _ (eqb-true m 0xCA)
    (λ _. test (Says m) (m == 0xCB) _ _ (eqb-true m 0xCB) (λ _. sized_says m))))))))

pub says : (m : ℕ) → m < 256 → Says m (marker m)
unfolding marker
says m lt =
    test (Says m) (nat_lt m 0x80) _ _ (λ e. (ltb-true m 0x80 e, refl)) (λ a.
    let a' : 0x80 ≤ m = ltb-false m 0x80 a in
    test (Says m) (nat_lt m 0x90) _ _ (λ e. let e' : m < 0x90 = ltb-true m 0x90 e in (omega arith, omega arith)) (λ b.
    let b' : 0x90 ≤ m = ltb-false m 0x90 b in
    test (Says m) (nat_lt m 0xA0) _ _ (λ e. let e' : m < 0xA0 = ltb-true m 0xA0 e in (omega arith, omega arith)) (λ c.
    let c' : 0xA0 ≤ m = ltb-false m 0xA0 c in
    test (Says m) (nat_lt m 0xB0) _ _ (λ e. let e' : m < 0xB0 = ltb-true m 0xB0 e in (omega arith, omega arith)) (λ d.
    let d' : 0xB0 ≤ m = ltb-false m 0xB0 d in
    test (Says m) (nat_lt 0xEF m) _ _ (λ e. let e' : 0xEF < m = ltb-true 0xEF m e in (omega arith, omega arith)) (λ _. plain_says m)))))

pub text_tiny : (n : ℕ) → n < 16 → marker (0x80 + n) ≡ k.Text (Here n)
unfolding marker
text_tiny n lt = grind arith

pub list_tiny : (n : ℕ) → n < 16 → marker (0x90 + n) ≡ k.List (Here n)
unfolding marker
list_tiny n lt = grind arith

pub dict_tiny : (n : ℕ) → n < 16 → marker (0xA0 + n) ≡ k.Dict (Here n)
unfolding marker
dict_tiny n lt = grind arith

pub positive : (n : ℕ) → n < 128 → marker n ≡ k.Small (pos n)
unfolding marker
positive n lt = grind arith

pub negative : (n : ℕ) → n < 16 → marker (255 - n) ≡ k.Small (negsuc n)
unfolding marker
negative n lt = grind arith
