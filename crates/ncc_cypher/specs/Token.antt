-- The tokens of a source.
use Rattle.std.specs.Prelude.{◌≡◌, ℕ, ℤ, Bool, true, false, List, [], ◌∷◌, drop, codes, Option, Some, None, ◌==◌, if◌then◌else◌}
use Rattle.std.specs.List.{prefix_len}
use Rattle.std.specs.Str.{str_eq_ignore_ascii_case}
use Rattle.ncc_cypher.specs.declared.class.Class.{Class}
use Rattle.ncc_cypher.specs.declared.class.Class.TheVariants.{Blank}
use Rattle.ncc_cypher.specs.declared.token.Token.{Token}
use Rattle.ncc_cypher.specs.declared.token.Token.TheVariants.{Create, Match, Merge, Set, Delete, Return, As}
use Rattle.ncc_cypher.specs.declared.token.Token.TheVariants.{True, False, Null, Int, Text, Name}
use Rattle.ncc_cypher.specs.declared.token.Token.TheVariants.{Open, Close, LeftBrace, RightBrace}
use Rattle.ncc_cypher.specs.declared.token.Token.TheVariants.{Colon, Comma, Dot, Equals, Plus, Dollar, Semicolon}
use Rattle.ncc_cypher.specs.Class.{class}
use Rattle.ncc_cypher.specs.Lexeme.{Lexeme, word, number, text, sign, Longest}
use Rattle.ncc_cypher.specs.Number.{number_of}

-- a word's keyword, in any case
unfoldable pub keyword : List ℕ → Option Token
keyword w =
    if str_eq_ignore_ascii_case w (codes "create") then Some Create
    else (if str_eq_ignore_ascii_case w (codes "match") then Some Match
    else (if str_eq_ignore_ascii_case w (codes "merge") then Some Merge
    else (if str_eq_ignore_ascii_case w (codes "set") then Some Set
    else (if str_eq_ignore_ascii_case w (codes "delete") then Some Delete
    else (if str_eq_ignore_ascii_case w (codes "return") then Some Return
    else (if str_eq_ignore_ascii_case w (codes "as") then Some As
    else (if str_eq_ignore_ascii_case w (codes "true") then Some True
    else (if str_eq_ignore_ascii_case w (codes "false") then Some False
    else (if str_eq_ignore_ascii_case w (codes "null") then Some Null
    else None)))))))))

abbrev pub or_name : List ℕ → Option Token → Token
or_name w None = Name w
or_name w (Some t) = t

unfoldable pub sign_of : ℕ → Option Token
sign_of b =
    if b == 40 then Some Open
    else (if b == 41 then Some Close
    else (if b == 123 then Some LeftBrace
    else (if b == 125 then Some RightBrace
    else (if b == 58 then Some Colon
    else (if b == 44 then Some Comma
    else (if b == 46 then Some Dot
    else (if b == 61 then Some Equals
    else (if b == 43 then Some Plus
    else (if b == 36 then Some Dollar
    else (if b == 59 then Some Semicolon
    else None))))))))))

abbrev pub as_int : Option ℤ → Option Token
as_int None = None
as_int (Some n) = Some (Int n)

-- what a lexeme stands for: a keyword or a name, an integer that fits 64 bits, a text, a sign
abbrev pub meaning : Lexeme → Option Token
meaning (word w) = Some (or_name w (keyword w))
meaning (number minus ds) = as_int (number_of minus ds)
meaning (text b) = Some (Text b)
meaning (sign b) = sign_of b

-- the bytes begin with this token, the longest, and these follow it
pub record Begins (bytes : List ℕ) (token : Token) (rest : List ℕ) : Type 0 where
  pub lexeme : Lexeme
  pub longest : Longest bytes lexeme rest
  pub is : meaning lexeme ≡ Some token

abbrev pub is_blank_class : Class → Bool
is_blank_class Blank = true
is_blank_class _ = false

abbrev pub is_blank : ℕ → Bool
is_blank b = is_blank_class (class b)

-- behind the spaces, tabs, CR and LF
abbrev pub past_blanks : List ℕ → List ℕ
past_blanks bs = drop (prefix_len is_blank bs) bs

-- a token, the bytes from its first on, and the bytes behind it
pub record Placed : Type 0 where
  pub what : Token
  pub from : List ℕ
  pub to : List ℕ

abbrev pub tokens_of : List Placed → List Token
tokens_of [] = []
tokens_of (p ∷ ps) = p.what ∷ tokens_of ps

-- bytes, the tokens that they begin with, and what is left behind these
pub data Tokens : List ℕ → List Placed → List ℕ → Type 0 where
  stop : (bytes : List ℕ) → Tokens bytes [] bytes
  more : (bytes rest end : List ℕ) (token : Token) (others : List Placed) → Begins (past_blanks bytes) token rest → Tokens rest others end
      → Tokens bytes (record { what = token; from = past_blanks bytes; to = rest } ∷ others) end
