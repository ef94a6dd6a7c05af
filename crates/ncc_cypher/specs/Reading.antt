-- What the functions of the parser do: each goes on from what is ahead of the reader.
use Rattle.std.specs.Prelude.{◌≡◌, ◌<◌, ◌≤◌, ℕ, ◌+◌, Bool, true, false, ◌&&◌, List, [], ◌∷◌, length, map}
use Rattle.std.specs.Prelude.{Option, Some, None, is_some, Result, Ok, Err}
use Rattle.ncc_pack.specs.declared.value.Value.{Value}
use Rattle.ncc_pack.specs.declared.value.Value.TheVariants as v
use Rattle.ncc_cypher.specs.declared.token.Token.{Token}
use Rattle.ncc_cypher.specs.declared.token.Token.TheVariants as t
use Rattle.ncc_cypher.specs.declared.tree.Term.{Term}
use Rattle.ncc_cypher.specs.declared.tree.Item.{Item}
use Rattle.ncc_cypher.specs.declared.tree.Item.TheVariants as i
use Rattle.ncc_cypher.specs.declared.tree.Pair.{Pair}
use Rattle.ncc_cypher.specs.declared.tree.Head.{Head}
use Rattle.ncc_cypher.specs.declared.tree.Change.{Change}
use Rattle.ncc_cypher.specs.declared.tree.Tail.{Tail}
use Rattle.ncc_cypher.specs.declared.tree.Statement.{Statement}
use Rattle.ncc_cypher.specs.declared.error.Fault.{Fault}
use Rattle.ncc_cypher.specs.declared.error.Fault.TheVariants.{Syntax, Memory}
use Rattle.ncc_cypher.specs.declared.error.SyntaxKind.{SyntaxKind}
use Rattle.ncc_cypher.specs.declared.error.SyntaxKind.TheVariants.{BadToken, Unexpected}
use Rattle.ncc_cypher.specs.declared.reader.Reader.{Reader}
use Rattle.ncc_cypher.specs.Token.{Placed, past_blanks}
use Rattle.ncc_cypher.specs.Grammar.{Name, has, is_count}
use Rattle.ncc_cypher.specs.Columns.{between, columns}
use Rattle.ncc_cypher.specs.Verb.{Verb}
use Rattle.ncc_cypher.specs.Verb as a
use Rattle.ncc_cypher.specs.Opening.{Opening}
use Rattle.ncc_cypher.specs.Opening as o
use Rattle.ncc_cypher.specs.Site.{Site, Node, Made, Body}
use Rattle.ncc_cypher.specs.Site as p
use Rattle.ncc_cypher.specs.State.{State}
use Rattle.ncc_cypher.specs.State as s
use Rattle.ncc_cypher.specs.Machine.{step, go, accepts, a_node}
use Rattle.ncc_cypher.specs.Parsed.{Answer, scanned, whole, named_by}

-- ---- what is ahead

-- tokens, and the bytes behind them and behind the blanks there
abbrev pub Ahead : Type 0
Ahead = List Placed × List ℕ

unfoldable pub tokens_in : List ℕ → Ahead
tokens_in bytes = ((scanned bytes).0, past_blanks (scanned bytes).1)

abbrev pub ahead_by : Option Token → List ℕ → List ℕ → Ahead
ahead_by None from after = ([], from)
ahead_by (Some x) from after = (record { what = x; from = from; to = after } ∷ (tokens_in after).0, (tokens_in after).1)

abbrev pub ahead : Reader → Ahead
ahead r = ahead_by r.token r.from r.after

abbrev pub left : Reader → List Placed
left r = (ahead r).0

-- the answer from a state on
abbrev pub reads : List Name → State → Reader → Answer
reads names x r = whole names (ahead r).1 x (ahead r).0

-- ---- refusals

abbrev pub Tells : Fault → Answer → Type 0
Tells Memory r = Unit {0}
Tells (Syntax left kind) r = r ≡ Err (left, kind)

abbrev pub kind_of : Option Token → SyntaxKind
kind_of None = BadToken
kind_of (Some x) = Unexpected

abbrev pub refusal : Reader → Fault
refusal r = Syntax (length r.from) (kind_of r.token)

-- nothing ends in the state, and this token, or the end, does not go on from it
abbrev pub Stuck : State → Option Token → Type 0
Stuck x None = accepts x ≡ None
Stuck x (Some y) = step x y ≡ None

-- what a function answers moves the machine from one state to another
abbrev pub Moves : {A : Type 0} → List Name → State → (A → State) → Reader → Reader → Result A Fault → Type 0
Moves names x f old new (Ok y) = reads names x old ≡ reads names (f y) new
Moves names x f old new (Err e) = Tells e (reads names x old)

-- what a function answers is the whole answer
abbrev pub Ends : {A : Type 0} → List Name → (A → Statement) → Result A Fault → Answer → Type 0
Ends names f (Ok y) r = r ≡ named_by names (Some (f y))
Ends names f (Err e) r = Tells e r

abbrev pub Fewer : Reader → Reader → Type 0
Fewer old new = length (left new) < length (left old)

abbrev pub NotMore : Reader → Reader → Type 0
NotMore old new = length (left new) ≤ length (left old)

-- ---- columns

-- no RETURN stands between
abbrev pub Same : Reader → Reader → Type 0
Same old new = columns (left old) ≡ columns (left new)

abbrev pub first_or : Option (List ℕ) → List ℕ → List ℕ
first_or None from = from
first_or (Some start) from = start

abbrev pub is_as : Token → Bool
is_as t.As = true
is_as _ = false

-- the name of a column where its item ends with this token
abbrev pub name_by : Bool → Token → List ℕ → Name
name_by true (t.Name n) source = n
name_by _ _ source = source

abbrev pub at_part : {A : Type 0} → A → A → A → Token → A
at_part x y z t.Comma = x
at_part x y z t.Semicolon = y
at_part x y z _ = z

-- the names of the columns, from within an item: where it begins, its name if it ends here, and whether AS stands before
unfoldable pub further_columns : Option (List ℕ) → Name → Bool → List Placed → List Name
further_columns start name aliased [] = name ∷ []
further_columns start name aliased (x ∷ xs) =
    at_part (name ∷ further_columns None [] false xs) (name ∷ [])
    (further_columns (Some (first_or start x.from))
    (name_by aliased x.what (between (first_or start x.from) x.to)) (is_as x.what) xs) x.what

-- the tokens between belong to the item
abbrev pub Inside : Option (List ℕ) → Name → Reader → Reader → Type 0
Inside start name old new =
    further_columns start name false (left old)
    ≡ further_columns (Some (first_or start old.from)) (between (first_or start old.from) new.behind) false (left new)

-- the same, behind its first token
abbrev pub Within : List ℕ → Reader → Reader → Type 0
Within start old new =
    further_columns (Some start) (between start old.behind) false (left old)
    ≡ further_columns (Some start) (between start new.behind) false (left new)

-- ---- what stands next

abbrev pub NoName : Option Token → Type 0
NoName (Some (t.Name n)) = ⊥
NoName _ = Unit {0}

abbrev pub NoPlus : Option Token → Type 0
NoPlus (Some t.Plus) = ⊥
NoPlus _ = Unit {0}

abbrev pub NoColon : Option Token → Type 0
NoColon (Some t.Colon) = ⊥
NoColon _ = Unit {0}

abbrev pub NoComma : Option Token → Type 0
NoComma (Some t.Comma) = ⊥
NoComma _ = Unit {0}

abbrev pub NoAs : Option Token → Type 0
NoAs (Some t.As) = ⊥
NoAs _ = Unit {0}

abbrev pub NoOpen : Option Token → Type 0
NoOpen (Some t.Open) = ⊥
NoOpen _ = Unit {0}

abbrev pub NoReturn : Option Token → Type 0
NoReturn (Some t.Return) = ⊥
NoReturn _ = Unit {0}

abbrev pub NoRight : Option Token → Type 0
NoRight (Some t.RightBrace) = ⊥
NoRight _ = Unit {0}

-- nothing that stands behind a head
abbrev pub NoRest : Option Token → Type 0
NoRest (Some t.Set) = ⊥
NoRest (Some t.Delete) = ⊥
NoRest (Some t.Return) = ⊥
NoRest _ = Unit {0}

-- no further token belongs to the item
abbrev pub Whole : Item → Option Token → Type 0
Whole i.Whole (Some t.Dot) = ⊥
Whole (i.Sum e) (Some t.Plus) = ⊥
Whole _ _ = Unit {0}

abbrev pub NewKey : List Pair → Option Token → Type 0
NewKey ps (Some (t.Name k)) = has k ps ≡ false
NewKey ps _ = Unit {0}

-- ---- states

-- a bound name alone is no term
abbrev pub Apart : Site → List Term → Type 0
Apart (p.InItem b xs) [] = ⊥
Apart _ _ = Unit {0}

-- behind an item
abbrev pub behind_item : Body → List Item → Item → State
behind_item b xs i.Whole = s.Owned (p.InItem b xs) []
behind_item b xs (i.Sum e) = s.After (p.InItem b xs) e.terms

-- behind the parenthesis and the name, or no name
abbrev pub called : Verb → Option Name → State
called x None = s.Opened x
called x (Some n) = s.Called x n

abbrev pub NoNameThen : Option Name → Option Token → Type 0
NoNameThen None next = NoName next
NoNameThen (Some n) next = Unit {0}

-- behind the label of MATCH, or no label
abbrev pub found : Option Name → Option Name → State
found n None = called a.Find n
found n (Some l) = s.Labelled (a_node (o.Find (Some l)) n)

abbrev pub NoLabelThen : Option Name → Option Name → Option Token → Type 0
NoLabelThen n None next = NoNameThen n next × NoColon next
NoLabelThen n (Some l) next = Unit {0}

abbrev pub NotCreate : Opening → Type 0
NotCreate (o.Create x) = ⊥
NotCreate _ = Unit {0}

-- the statement ends here, and no other token goes on
abbrev pub NoMore : State → Option Token → Type 0
NoMore x None = Unit {0}
NoMore x (Some t.Semicolon) = Unit {0}
NoMore x (Some y) = go x y ≡ None

-- the names as the columns of a statement
abbrev pub column_values : List Name → List Value
column_values names = map v.Text names

-- a statement of these parts
abbrev pub full : Head → Option Name → Change → Tail → Statement
full x n y z = record { head = x; name = n; change = y; tail = z; columns = [] }

-- no token goes on from the state
abbrev pub Over : State → Option Token → Type 0
Over x None = Unit {0}
Over x (Some y) = step x y ≡ None

-- behind the word `count`, which is the bound name or not
abbrev pub count_or : Bool → Body → State
count_or true b = s.Either b
count_or false b = s.Counting b

-- what a function answers behind a head is the whole answer
abbrev pub Gives : List Name → Made → Result (Change × Tail × List Value) Fault → Answer → Type 0
Gives names a (Ok y) r = r ≡ named_by names (Some (full a.head a.name y.0 y.1))
Gives names a (Err e) r = Tells e r

-- whether the word `count` stands next, where a name is bound
abbrev pub starts_count : Option Name → Option Token → Bool
starts_count n (Some (t.Name x)) = is_count x && is_some n
starts_count n _ = false
