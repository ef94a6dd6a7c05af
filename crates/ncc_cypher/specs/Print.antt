-- How a statement is printed: the tokens of its plain spelling, and one rule for the space between two neighbours. In the
-- plain spelling stand no AS, no semicolon and no braces without a pair, and `count` in small letters.
use Rattle.std.specs.Prelude.{ℕ, Bool, true, false, List, [], ◌∷◌, ◌++◌, map, None, codes, ◌==◌, ◌||◌, if◌then◌else◌}
use Rattle.std.specs.Fmt.{signed_decimal}
use Rattle.ncc_cypher.specs.declared.token.Token.{Token}
use Rattle.ncc_cypher.specs.declared.token.Token.TheVariants as t
use Rattle.ncc_cypher.specs.declared.printing.Shape.{Shape}
use Rattle.ncc_cypher.specs.declared.printing.Shape.TheVariants.{Start, Word, Name, Open, Brace, Close, Colon, Dot, Dollar}
use Rattle.ncc_cypher.specs.declared.tree.Pair.{Pair}
use Rattle.ncc_cypher.specs.declared.tree.Item.{Item}
use Rattle.ncc_cypher.specs.declared.tree.Head.{Head}
use Rattle.ncc_cypher.specs.declared.tree.Head.TheVariants as h
use Rattle.ncc_cypher.specs.declared.tree.Tail.{Tail}
use Rattle.ncc_cypher.specs.declared.tree.Tail.TheVariants as l
use Rattle.ncc_cypher.specs.declared.tree.Statement.{Statement}
use Rattle.ncc_cypher.specs.Grammar.{Choice, Named, tokens}

-- ---- the plain spelling

abbrev pub has_pairs : List Pair → Bool
has_pairs [] = false
has_pairs (p ∷ ps) = true

abbrev pub plain_braces : Head → Bool
plain_braces (h.Create a ps) = has_pairs ps
plain_braces _ = false

abbrev pub plain_named : List Item → List Named
plain_named xs = map (λ x. record { item = x; name = None }) xs

abbrev pub tail_named : Tail → List Named
tail_named (l.Items xs) = plain_named xs
tail_named _ = []

abbrev pub plain : Head → Tail → Choice
plain x y = record { braces = plain_braces x; named = tail_named y; word = codes "count"; alias = None; semicolon = false }

-- ---- tokens

-- a text's bytes between its quotes
unfoldable pub escaped : List ℕ → List ℕ
escaped [] = []
escaped (b ∷ bs) = if b == 39 || b == 92 then 92 ∷ b ∷ escaped bs else b ∷ escaped bs

-- in `'`, with escapes for `\` and `'` alone
abbrev pub quoted : List ℕ → List ℕ
quoted bs = 39 ∷ (escaped bs ++ (39 ∷ []))

-- how a token is written: a keyword in capitals
abbrev pub written : Token → List ℕ
written t.Create = codes "CREATE"
written t.Match = codes "MATCH"
written t.Merge = codes "MERGE"
written t.Set = codes "SET"
written t.Delete = codes "DELETE"
written t.Return = codes "RETURN"
written t.As = codes "AS"
written t.True = codes "TRUE"
written t.False = codes "FALSE"
written t.Null = codes "NULL"
written (t.Int i) = signed_decimal i
written (t.Text b) = quoted b
written (t.Name n) = n
written t.Open = codes "("
written t.Close = codes ")"
written t.LeftBrace = codes "{"
written t.RightBrace = codes "}"
written t.Colon = codes ":"
written t.Comma = codes ","
written t.Dot = codes "."
written t.Equals = codes "="
written t.Plus = codes "+"
written t.Dollar = codes "$"
written t.Semicolon = codes ";"

-- ---- the space between two neighbours

-- how a token stands beside its neighbours
abbrev pub shape : Token → Shape
shape (t.Name n) = Name
shape t.Open = Open
shape t.LeftBrace = Brace
shape t.Close = Close
shape t.RightBrace = Close
shape t.Comma = Close
shape t.Semicolon = Close
shape t.Colon = Colon
shape t.Dot = Dot
shape t.Dollar = Dollar
shape _ = Word

-- one stands before all but `)`, `}`, `,`, `;`, `:` and `.`
abbrev pub space_before : Shape → Bool
space_before Close = false
space_before Colon = false
space_before Dot = false
space_before _ = true

-- behind a name, which may be `count`, none stands before `(`
abbrev pub space_behind_name : Shape → Bool
space_behind_name Open = false
space_behind_name next = space_before next

-- behind `:` none stands before a name: that is a label, since no value of a pair begins with one
abbrev pub space_behind_colon : Shape → Bool
space_behind_colon Name = false
space_behind_colon next = space_before next

-- behind `(`, `{`, `.` and `$` one stands before `{` alone
abbrev pub space_behind_sign : Shape → Bool
space_behind_sign Brace = true
space_behind_sign next = false

-- whether one space stands between two neighbours
abbrev pub space : Shape → Shape → Bool
space Start next = false
space Word next = space_before next
space Close next = space_before next
space Name next = space_behind_name next
space Colon next = space_behind_colon next
space _ next = space_behind_sign next

abbrev pub gap : Shape → Shape → List ℕ
gap last next = if space last next then codes " " else []

-- the text of tokens behind one that stands so
abbrev pub text : Shape → List Token → List ℕ
text last [] = []
text last (x ∷ xs) = gap last (shape x) ++ (written x ++ text (shape x) xs)

abbrev pub printed : Statement → List ℕ
printed s = text Start (tokens (plain s.head s.tail) s)
