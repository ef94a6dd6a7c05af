-- The value of a text in quotes.
use Rattle.std.specs.Prelude.{◌<◌, ℕ, false, List, [], Option, Some, None}
use Rattle.std.specs.Borrow.{Bor}
use Rattle.std.specs.Str.{IsUtf8}
use Rattle.ncc_cypher.specs.Body.{body_at}

abbrev pub value_of : Option (List ℕ × List ℕ) → List ℕ
value_of None = []
value_of (Some r) = r.0

-- what follows the closing quote
abbrev pub rest_of : Option (List ℕ × List ℕ) → Option (List ℕ)
rest_of None = None
rest_of (Some r) = Some r.1

-- what the code's reader answers
abbrev pub rest_read : Option (Bor (List ℕ)) → Option (List ℕ)
rest_read None = None
rest_read (Some r) = Some r.now

abbrev pub BehindIsText : Option (Bor (List ℕ)) → Type 0
BehindIsText None = Unit {0}
BehindIsText (Some r) = IsUtf8 r.now

abbrev pub HasBody : Option (List ℕ × List ℕ) → Type 0
HasBody None = ⊥
HasBody (Some r) = Unit {0}

abbrev pub quoted_value : ℕ → List ℕ → List ℕ
quoted_value q bs = value_of (body_at q false bs)

abbrev pub IsQuoted : ℕ → List ℕ → Type 0
IsQuoted q bs = (q < 92) × IsUtf8 bs × HasBody (body_at q false bs)
