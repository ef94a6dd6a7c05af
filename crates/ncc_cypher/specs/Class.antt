-- What a byte may begin: names and keywords in ASCII letters, `_` and digits, integers, texts, signs and blanks.
use Rattle.std.specs.Prelude.{◌≡◌, ℕ, ◌+◌, Bool, true, false, if◌then◌else◌, nat_lt, ◌==◌, ◌||◌, ◌&&◌}
use Rattle.ncc_cypher.specs.declared.class.Class.{Class}
use Rattle.ncc_cypher.specs.declared.class.Class.TheVariants.{Letter, Zero, Digit, Minus, Quote, Sign, Blank, Other}

abbrev pub within : ℕ → ℕ → ℕ → Bool
within low high b = nat_lt b (high + 1) && nat_lt low (b + 1)

unfoldable pub class : ℕ → Class
class b =
    if within 65 90 b || within 97 122 b || b == 95 then Letter
    else (if b == 48 then Zero
    else (if within 49 57 b then Digit
    else (if b == 45 then Minus
    else (if b == 39 || b == 34 then Quote
    else (if b == 40 || b == 41 || b == 123 || b == 125 || b == 58 || b == 44 || b == 46 || b == 61 || b == 43 || b == 36 || b == 59
    then Sign
    else (if b == 32 || b == 9 || b == 13 || b == 10 then Blank
    else Other))))))

abbrev pub is_digit_class : Class → Bool
is_digit_class Zero = true
is_digit_class Digit = true
is_digit_class _ = false

abbrev pub is_word_class : Class → Bool
is_word_class Letter = true
is_word_class c = is_digit_class c

abbrev pub is_digit : ℕ → Bool
is_digit b = is_digit_class (class b)

abbrev pub is_word : ℕ → Bool
is_word b = is_word_class (class b)

-- what an escape stands for
abbrev pub escape : ℕ → ℕ
escape e = if e == 110 then 10 else (if e == 114 then 13 else (if e == 116 then 9 else e))

abbrev pub is_escape : ℕ → Bool
is_escape e = e == 92 || e == 39 || e == 34 || e == 110 || e == 114 || e == 116

abbrev pub IsDigitClass : Class → Type 0
IsDigitClass c = is_digit_class c ≡ true
