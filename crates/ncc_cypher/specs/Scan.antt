-- How a lexeme is read: by the class of the first byte.
use Rattle.std.specs.Prelude.{ℕ, Bool, true, false, List, [], ◌∷◌, take, drop, Option, Some, None, ◌==◌, if◌then◌else◌}
use Rattle.std.specs.List.{prefix_len}
use Rattle.std.specs.Borrow.{Bor}
use Rattle.std.specs.Str.{IsUtf8}
use Rattle.ncc_cypher.specs.declared.class.Class.{Class}
use Rattle.ncc_cypher.specs.declared.class.Class.TheVariants.{Letter, Zero, Digit, Minus, Quote, Sign}
use Rattle.ncc_cypher.specs.declared.token.Token.{Token}
use Rattle.ncc_cypher.specs.Body.{body_at}
use Rattle.ncc_cypher.specs.Class.{class, is_digit, is_word}
use Rattle.ncc_cypher.specs.Lexeme.{Lexeme, word, number, text, sign}
use Rattle.ncc_cypher.specs.Token.{meaning}

abbrev pub as_number : Bool → Option (List ℕ × List ℕ) → Option (Lexeme × List ℕ)
as_number m None = None
as_number m (Some r) = Some (number m r.0, r.1)

abbrev pub as_text : Option (List ℕ × List ℕ) → Option (Lexeme × List ℕ)
as_text None = None
as_text (Some r) = Some (text r.0, r.1)

abbrev pub digits_by : Class → ℕ → List ℕ → Option (List ℕ × List ℕ)
digits_by Zero b bs = Some (b ∷ [], bs)
digits_by Digit b bs = Some (b ∷ take (prefix_len is_digit bs) bs, drop (prefix_len is_digit bs) bs)
digits_by _ b bs = None

abbrev pub digits_at : List ℕ → Option (List ℕ × List ℕ)
digits_at [] = None
digits_at (b ∷ bs) = digits_by (class b) b bs

abbrev pub by_class : Class → ℕ → List ℕ → Option (Lexeme × List ℕ)
by_class Letter b bs = Some (word (b ∷ take (prefix_len is_word bs) bs), drop (prefix_len is_word bs) bs)
by_class Zero b bs = Some (number false (b ∷ []), bs)
by_class Digit b bs = as_number false (digits_by Digit b bs)
by_class Minus b bs = as_number true (digits_at bs)
by_class Quote b bs = as_text (body_at b false bs)
by_class Sign b bs = Some (sign b, bs)
by_class _ b bs = None

-- the lexeme that the bytes begin with
unfoldable pub lexeme_at : List ℕ → Option (Lexeme × List ℕ)
lexeme_at [] = None
lexeme_at (b ∷ bs) = by_class (class b) b bs

abbrev pub with_rest : Option Token → List ℕ → Option (Token × List ℕ)
with_rest None rest = None
with_rest (Some t) rest = Some (t, rest)

abbrev pub token_of : Option (Lexeme × List ℕ) → Option (Token × List ℕ)
token_of None = None
token_of (Some r) = with_rest (meaning r.0) r.1

-- the token that the bytes begin with
unfoldable pub token_at : List ℕ → Option (Token × List ℕ)
token_at bs = token_of (lexeme_at bs)

-- what the code's readers answer
abbrev pub read : {A : Type 0} → Option (A × Bor (List ℕ)) → Option (A × List ℕ)
read None = None
read (Some r) = Some (r.0, r.1.now)

-- and that the rest is a text
abbrev pub RestIsText : {A : Type 0} → Option (A × Bor (List ℕ)) → Type 0
RestIsText None = Unit {0}
RestIsText (Some r) = IsUtf8 r.1.now
