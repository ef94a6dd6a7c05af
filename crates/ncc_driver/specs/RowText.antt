-- Rows as text: `none`, `word` and a word, or `hex` and the short spelling of the list of rows.
use Rattle.std.specs.Prelude.{ℕ, ◌+◌, ◌/◌, ◌%◌, Bool, ◌&&◌, ◌||◌, nat_le, nat_lt, not, ◌==◌, if◌then◌else◌, List, [], ◌∷◌, ◌++◌, length}
use Rattle.std.specs.Prelude.{map, codes}
use Rattle.std.specs.List.{list_all}
use Rattle.ncc_pack.specs.declared.value.Value.TheVariants as v
use Rattle.ncc_pack.specs.Short.{short}
use Rattle.ncc_driver.specs.Work.{Row}

abbrev pub between : ℕ → ℕ → ℕ → Bool
between low high c = nat_le low c && nat_le c high

-- a letter, a digit, `_` or `-`
abbrev pub is_word_byte : ℕ → Bool
is_word_byte c = between 97 122 c || between 65 90 c || between 48 57 c || (c == 95) || (c == 45)

-- 1 to 64 of them
abbrev pub is_word : List ℕ → Bool
is_word text = not (length text == 0) && nat_le (length text) 64 && list_all is_word_byte text

-- a digit of base 16, in lower case
abbrev pub digit : ℕ → ℕ
digit n = if nat_lt n 10 then n + 48 else n + 87

unfoldable pub hex_of : List ℕ → List ℕ
hex_of [] = []
hex_of (b ∷ bs) = digit (b / 16) ∷ digit (b % 16) ∷ hex_of bs

abbrev pub as_hex : List Row → List ℕ
as_hex rows = codes "hex " ++ hex_of (short (v.List (map v.List rows)))

abbrev pub text_of : List Row → List ℕ
text_of [] = codes "none"
text_of ((v.Text text ∷ []) ∷ []) = if is_word text then codes "word " ++ text else as_hex ((v.Text text ∷ []) ∷ [])
text_of rows = as_hex rows
