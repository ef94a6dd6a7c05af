-- The names of a statement's columns.
use Rattle.std.specs.Prelude.{◌≡◌, ℕ, ◌+◌, ◌≤◌, ◌-◌, List, [], ◌∷◌, ◌++◌, take, length, map, Option, Some, None}
use Rattle.ncc_pack.specs.declared.value.Value.TheVariants as v
use Rattle.ncc_cypher.specs.declared.token.Token.{Token}
use Rattle.ncc_cypher.specs.declared.token.Token.TheVariants as t
use Rattle.ncc_cypher.specs.declared.tree.Statement.{Statement}
use Rattle.ncc_cypher.specs.Token.{Placed}
use Rattle.ncc_cypher.specs.Grammar.{Name}

-- the bytes from a place to a later one, each given by the bytes from it on
abbrev pub between : List ℕ → List ℕ → List ℕ
between from to = take (length from - length to) from

-- the bytes behind the last of these tokens, or behind an earlier place
abbrev pub behind : List ℕ → List Placed → List ℕ
behind to [] = to
behind to (p ∷ ps) = behind p.to ps

-- the source from the first token to the last
abbrev pub source_of : List Placed → List ℕ
source_of [] = []
source_of (p ∷ ps) = between p.from (behind p.to ps)

abbrev pub name_of : Token → Option Name
name_of (t.Name n) = Some n
name_of _ = None

-- the name at the end, where AS stands right before it
abbrev pub name_if : Token → Token → Option Name
name_if t.As x = name_of x
name_if _ x = None

abbrev pub alias_of : List Placed → Option Name
alias_of [] = None
alias_of (p ∷ []) = None
alias_of (p ∷ q ∷ []) = name_if p.what q.what
alias_of (p ∷ q ∷ r ∷ ps) = alias_of (q ∷ r ∷ ps)

abbrev pub or_source : Option Name → List ℕ → Name
or_source (Some n) b = n
or_source None b = b

-- a column is the AS name of its item, else the item's source from its first token to its last
abbrev pub column : List Placed → Name
column ps = or_source (alias_of ps) (source_of ps)

-- the tokens parted at commas, up to the semicolon
abbrev pub part_at : (List (List Placed)) → (List (List Placed)) → (List (List Placed)) → Token → List (List Placed)
part_at a b c t.Comma = a
part_at a b c t.Semicolon = b
part_at a b c _ = c

abbrev pub parts : List Placed → List Placed → List (List Placed)
parts part [] = part ∷ []
parts part (p ∷ ps) = part_at (part ∷ parts [] ps) (part ∷ []) (parts (part ++ (p ∷ [])) ps) p.what

abbrev pub at_return : List Name → List Name → Token → List Name
at_return a b t.Return = a
at_return a b _ = b

-- one column for each item behind RETURN
unfoldable pub columns : List Placed → List Name
columns [] = []
columns (p ∷ ps) = at_return (map column (parts [] ps)) (columns ps) p.what

-- the bytes of these names, and one more for each
abbrev pub room : List Name → ℕ
room [] = 0
room (n ∷ ns) = 1 + length n + room ns

-- the columns have no more bytes than the source, even with one more for each
pub record Within (source : List ℕ) (statement : Statement) : Type 0 where
  pub names : List Name
  pub are : statement.columns ≡ map v.Text names
  pub room : room names ≤ length source
