-- Bytes as text, two digits each.
use Rattle.std.proofs.Common.{◌≡◌, ◌≢◌, ℕ, ◌+◌, ◌*◌, ◌<◌, ◌≤◌, ◌/◌, ◌%◌, ◌^◌, ◌==◌, nat_lt, true, false, Bool, cond, List, [], ◌∷◌}
use Rattle.std.proofs.Common.{◌++◌, length}
use Rattle.std.proofs.Common.{zero, suc, append_assoc, All, refl, sym, ap, ◌∙◌, arith, drop, get_or}
use Rattle.std.proofs.lemmas.Bool.{ltb-true, ltb-false, ne_eqb}
use Rattle.std.proofs.lemmas.List.Elements.{All-nil, All-cons, All-head, All-tail}
use Rattle.ncc_replay.specs.Line.{hex, hex_digit}
use Rattle.ncc_replay.specs.Reading.{IsHex}
use Rattle.ncc_replay.proofs.Words.{NoSpace}

pub hex_nil : hex [] ≡ []
unfolding hex
hex_nil = refl

pub hex_cons : (b : ℕ) (bs : List ℕ) → hex (b ∷ bs) ≡ hex_digit (b / 16) ∷ hex_digit (b % 16) ∷ hex bs
unfolding hex
hex_cons b bs = refl

pub hex_append : (a b : List ℕ) → hex (a ++ b) ≡ hex a ++ hex b
hex_append [] b = ap (λ l. l ++ hex b) (sym hex_nil)
hex_append (x ∷ xs) b =
    hex_cons x (xs ++ b) ∙ (ap (λ l. hex_digit (x / 16) ∷ hex_digit (x % 16) ∷ l) (hex_append xs b)
    ∙ ap (λ l. l ++ hex b) (sym (hex_cons x xs)))

pub length_hex : (bs : List ℕ) → length (hex bs) ≡ 2 * length bs
length_hex [] = ap length hex_nil
length_hex (b ∷ bs) = omega (arith, ap length (hex_cons b bs), length_hex bs)

-- the digits of a number below 16 are apart

digit_cases : (d : ℕ) → (t : Bool) → nat_lt d 10 ≡ t → hex_digit d ≡ cond t (48 + d) (87 + d)
digit_cases d t e = ap (λ b. cond b (48 + d) (87 + d)) e

pub digit_injective : (d e : ℕ) → d < 16 → e < 16 → hex_digit d ≡ hex_digit e → d ≡ e
digit_injective d e f g h = go (nat_lt d 10) (nat_lt e 10) refl refl where
  go : (s t : Bool) → nat_lt d 10 ≡ s → nat_lt e 10 ≡ t → d ≡ e
  go true true x y = omega (arith, sym (digit_cases d true x) ∙ (h ∙ digit_cases e true y))
  go false false x y = omega (arith, sym (digit_cases d false x) ∙ (h ∙ digit_cases e false y))
  go true false x y = omega (arith, sym (digit_cases d true x) ∙ (h ∙ digit_cases e false y), ltb-true d 10 x, ltb-false e 10 y)
  go false true x y = omega (arith, sym (digit_cases d false x) ∙ (h ∙ digit_cases e true y), ltb-false d 10 x, ltb-true e 10 y)

digit_no_space : (d : ℕ) → (hex_digit d == 32) ≡ false
digit_no_space d = go (nat_lt d 10) refl where
  go : (t : Bool) → nat_lt d 10 ≡ t → (hex_digit d == 32) ≡ false
  go true x = ne_eqb (hex_digit d) 32 (λ e. omega (arith, digit_cases d true x, e))
  go false x = ne_eqb (hex_digit d) 32 (λ e. omega (arith, digit_cases d false x, e))

pub hex_no_space : (bs : List ℕ) → NoSpace (hex bs)
hex_no_space [] = rw hex_nil (All-nil (λ b. (b == 32) ≡ false))
hex_no_space (b ∷ bs) =
    rw (hex_cons b bs) (All-cons (λ c. (c == 32) ≡ false) (hex_digit (b / 16)) (hex_digit (b % 16) ∷ hex bs) (digit_no_space (b / 16))
    (All-cons (λ c. (c == 32) ≡ false) (hex_digit (b % 16)) (hex bs) (digit_no_space (b % 16)) (hex_no_space bs)))

pub not_zero : (n : ℕ) → (n == 0) ≡ false → 1 ≤ n
not_zero zero e = absurd (true_false e) where
  true_false : true ≡ false → ⊥
  true_false e = cc
not_zero (suc n) e = omega arith

-- two lists begin and go on alike
heads : (x y : ℕ) (xs ys : List ℕ) → x ∷ xs ≡ y ∷ ys → (x ≡ y) × (xs ≡ ys)
heads x y xs ys e = (ap (λ l. get_or l 0 0) e, ap (drop 1) e)

byte_injective : (a b : ℕ) → a < 2 ^ 8 → b < 2 ^ 8 → hex_digit (a / 16) ≡ hex_digit (b / 16) → hex_digit (a % 16) ≡ hex_digit (b % 16)
    → a ≡ b
byte_injective a b f g h k =
    omega (
      arith,
      digit_injective (a / 16) (b / 16) (omega (arith, f)) (omega (arith, g)) h,
      digit_injective (a % 16) (b % 16) (omega arith) (omega arith) k,
    )

pub hex_injective : (a b : List ℕ) → All (λ x. x < 2 ^ 8) a → All (λ x. x < 2 ^ 8) b → hex a ≡ hex b → a ≡ b
hex_injective [] [] f g e = refl
hex_injective [] (y ∷ ys) f g e = absurd (omega (arith, ap length (sym hex_nil ∙ (e ∙ hex_cons y ys))))
hex_injective (x ∷ xs) [] f g e = absurd (omega (arith, ap length (sym hex_nil ∙ (sym e ∙ hex_cons x xs))))
hex_injective (x ∷ xs) (y ∷ ys) f g e =
    let same = sym (hex_cons x xs) ∙ (e ∙ hex_cons y ys) in
    let first = heads (hex_digit (x / 16)) (hex_digit (y / 16)) (hex_digit (x % 16) ∷ hex xs) (hex_digit (y % 16) ∷ hex ys) same in
    let second = heads (hex_digit (x % 16)) (hex_digit (y % 16)) (hex xs) (hex ys) first.1 in
    let byte : x ≡ y = byte_injective x y (All-head (λ z. z < 2 ^ 8) x xs f) (All-head (λ z. z < 2 ^ 8) y ys g) first.0 second.0 in
    let rest : xs ≡ ys = hex_injective xs ys (All-tail (λ z. z < 2 ^ 8) x xs f) (All-tail (λ z. z < 2 ^ 8) y ys g) second.1 in
    cc

-- what stands behind the digits of some bytes in the digits of others are digits

pub record AreDigits (high low : ℕ) : Type 0 where
  pub first : ℕ
  pub second : ℕ
  pub small : first < 16
  pub small_too : second < 16
  pub high_is : high ≡ hex_digit first
  pub low_is : low ≡ hex_digit second

pub two_behind : (read bytes : List ℕ) (high low : ℕ) (more : List ℕ) → All (λ x. x < 2 ^ 8) bytes
    → hex bytes ≡ hex read ++ (high ∷ low ∷ more) → AreDigits high low
two_behind [] [] high low more f e =
    absurd (omega (arith, ap length (sym hex_nil ∙ (e ∙ ap (λ l. l ++ (high ∷ low ∷ more)) hex_nil))))
two_behind [] (b ∷ bs) high low more f e =
    let same = sym (hex_cons b bs) ∙ (e ∙ ap (λ l. l ++ (high ∷ low ∷ more)) hex_nil) in
    let first = heads (hex_digit (b / 16)) high (hex_digit (b % 16) ∷ hex bs) (low ∷ more) same in
    let second = heads (hex_digit (b % 16)) low (hex bs) more first.1 in
    record {
      first = b / 16;
      second = b % 16;
      small = omega (arith, All-head (λ z. z < 2 ^ 8) b bs f);
      small_too = omega arith;
      high_is = sym first.0;
      low_is = sym second.0;
    }
two_behind (r ∷ rs) [] high low more f e =
    absurd (omega (arith, ap length (sym hex_nil ∙ (e ∙ ap (λ l. l ++ (high ∷ low ∷ more)) (hex_cons r rs)))))
two_behind (r ∷ rs) (b ∷ bs) high low more f e =
    two_behind rs bs high low more (All-tail (λ z. z < 2 ^ 8) b bs f)
    (ap (drop 2) (sym (hex_cons b bs) ∙ (e ∙ ap (λ l. l ++ (high ∷ low ∷ more)) (hex_cons r rs))))

pub none_alone : (read bytes : List ℕ) (last : List ℕ) → length last ≡ 1 → hex bytes ≢ hex read ++ last
none_alone [] [] last f e = omega (arith, ap length (sym hex_nil ∙ (e ∙ ap (λ l. l ++ last) hex_nil)), f)
none_alone [] (b ∷ bs) last f e = omega (arith, ap length (sym (hex_cons b bs) ∙ (e ∙ ap (λ l. l ++ last) hex_nil)), f)
none_alone (r ∷ rs) [] last f e = absurd (omega (arith, ap length (sym hex_nil ∙ (e ∙ ap (λ l. l ++ last) (hex_cons r rs)))))
none_alone (r ∷ rs) (b ∷ bs) last f e =
    none_alone rs bs last f (ap (drop 2) (sym (hex_cons b bs) ∙ (e ∙ ap (λ l. l ++ last) (hex_cons r rs))))

-- the byte of two digits
pub byte_is : (d e high low : ℕ) → d < 16 → e < 16 → high ≡ hex_digit d → low ≡ hex_digit e → high ∷ low ∷ [] ≡ hex ((d * 16 + e) ∷ [])
byte_is d e high low f g h k =
    let first : d ≡ (d * 16 + e) / 16 = omega (arith, g) in
    let second : e ≡ (d * 16 + e) % 16 = omega (arith, g) in
    ap (λ x. x ∷ low ∷ []) (h ∙ ap hex_digit first) ∙ (ap (λ y. hex_digit ((d * 16 + e) / 16) ∷ y ∷ []) (k ∙ ap hex_digit second)
    ∙ (ap (λ l. hex_digit ((d * 16 + e) / 16) ∷ hex_digit ((d * 16 + e) % 16) ∷ l) (sym hex_nil) ∙ sym (hex_cons (d * 16 + e) [])))

-- two digits more are read
pub hex_more : (word bytes more : List ℕ) (high low byte : ℕ) → word ≡ hex bytes ++ (high ∷ low ∷ more) → high ∷ low ∷ [] ≡ hex (byte ∷ [])
    → word ≡ hex (bytes ++ (byte ∷ [])) ++ more
hex_more word bytes more high low byte e f =
    e ∙ (ap (λ l. hex bytes ++ (l ++ more)) f ∙ (sym (append_assoc (hex bytes) (hex (byte ∷ [])) more)
    ∙ ap (λ l. l ++ more) (sym (hex_append bytes (byte ∷ [])))))

two_of : (rest : List ℕ) (x y : ℕ) → 2 ≤ length rest → rest ≡ get_or rest 0 x ∷ get_or rest 1 y ∷ drop 2 rest
two_of [] x y h = absurd (omega (arith, h))
two_of (a ∷ []) x y h = absurd (omega (arith, h))
two_of (a ∷ b ∷ rest) x y h = refl

-- what is left begins with two bytes that are no digits
pub none_here : (word bytes rest all : List ℕ) (x y : ℕ) → word ≡ hex bytes ++ rest → 2 ≤ length rest
    → ((d e : ℕ) → d < 16 → e < 16 → get_or rest 0 x ≡ hex_digit d → get_or rest 1 y ≢ hex_digit e) → IsHex word all → ⊥
none_here word bytes rest all x y e h none is =
    let digits = two_behind bytes all (get_or rest 0 x) (get_or rest 1 y) (drop 2 rest) is.are_bytes
    (sym is.word_is ∙ (e ∙ ap (λ l. hex bytes ++ l) (two_of rest x y h))) in
    none digits.first digits.second digits.small digits.small_too digits.high_is digits.low_is

pub more_read : (word bytes rest new left : List ℕ) (x y byte : ℕ) → word ≡ hex bytes ++ rest → 2 ≤ length rest
    → get_or rest 0 x ∷ get_or rest 1 y ∷ [] ≡ hex (byte ∷ []) → new ≡ bytes ++ (byte ∷ []) → left ≡ drop 2 rest → word ≡ hex new ++ left
more_read word bytes rest new left x y byte e h digits pushed behind =
    hex_more word bytes (drop 2 rest) (get_or rest 0 x) (get_or rest 1 y) byte (e ∙ ap (λ l. hex bytes ++ l) (two_of rest x y h)) digits
    ∙ (ap (λ l. hex l ++ drop 2 rest) (sym pushed) ∙ ap (λ l. hex new ++ l) (sym behind))

-- one byte is left
pub none_left : (word bytes rest all : List ℕ) → word ≡ hex bytes ++ rest → length rest < 2 → (length rest == 0) ≡ false →
    IsHex word all → ⊥
none_left word bytes rest all e few some is =
    none_alone bytes all rest (omega (arith, few, not_zero (length rest) some)) (sym is.word_is ∙ e)
