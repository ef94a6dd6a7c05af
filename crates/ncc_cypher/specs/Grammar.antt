-- The grammar of statements: which tokens spell a statement. In Cypher's words: CREATE, MATCH and MERGE with one node
-- pattern, SET of properties, DELETE, and RETURN of projections or of `count`.
use Rattle.std.specs.Prelude.{◌≡◌, ℕ, Bool, true, false, List, [], ◌∷◌, ◌++◌, map, Option, Some, None, codes}
use Rattle.std.specs.List.{list_any}
use Rattle.std.specs.Str.{bytes_eq, str_eq_ignore_ascii_case}
use Rattle.ncc_cypher.specs.declared.token.Token.{Token}
use Rattle.ncc_cypher.specs.declared.token.Token.TheVariants as t
use Rattle.ncc_cypher.specs.declared.tree.Term.{Term}
use Rattle.ncc_cypher.specs.declared.tree.Term.TheVariants as m
use Rattle.ncc_cypher.specs.declared.tree.Pair.{Pair}
use Rattle.ncc_cypher.specs.declared.tree.Item.{Item}
use Rattle.ncc_cypher.specs.declared.tree.Item.TheVariants as i
use Rattle.ncc_cypher.specs.declared.tree.Head.{Head}
use Rattle.ncc_cypher.specs.declared.tree.Head.TheVariants as h
use Rattle.ncc_cypher.specs.declared.tree.Change.{Change}
use Rattle.ncc_cypher.specs.declared.tree.Change.TheVariants as c
use Rattle.ncc_cypher.specs.declared.tree.Tail.{Tail}
use Rattle.ncc_cypher.specs.declared.tree.Tail.TheVariants as l
use Rattle.ncc_cypher.specs.declared.tree.Statement.{Statement}

abbrev pub Name : Type 0
Name = List ℕ

-- ---- what a spelling may choose

-- an item, and the name behind AS where there is one
pub record Named : Type 0 where
  pub item : Item
  pub name : Option Name

-- braces round no pair, the names behind AS, how `count` is written, and whether a semicolon ends the statement
pub record Choice : Type 0 where
  pub braces : Bool
  pub named : List Named
  pub word : Name
  pub alias : Option Name
  pub semicolon : Bool

-- ---- spellings

-- the bound name, where there is one
abbrev pub given : Option Name → List Token
given None = []
given (Some n) = t.Name n ∷ []

-- a term, where this name is bound
abbrev pub term : Option Name → Term → List Token
term n m.Null = t.Null ∷ []
term n (m.Bool true) = t.True ∷ []
term n (m.Bool false) = t.False ∷ []
term n (m.Int k) = t.Int k ∷ []
term n (m.Text b) = t.Text b ∷ []
term n (m.Param p) = t.Dollar ∷ t.Name p ∷ []
term n (m.Prop k) = given n ++ (t.Dot ∷ t.Name k ∷ [])

abbrev pub further : {A : Type 0} → (A → List Token) → Token → List A → List Token
further f sep [] = []
further f sep (x ∷ xs) = sep ∷ (f x ++ further f sep xs)

-- with a separator between two
abbrev pub parted : {A : Type 0} → (A → List Token) → Token → List A → List Token
parted f sep [] = []
parted f sep (x ∷ xs) = f x ++ further f sep xs

abbrev pub sum : Option Name → List Term → List Token
sum n ts = parted (term n) t.Plus ts

-- a pair between braces, where no name is bound
abbrev pub pair : Pair → List Token
pair p = t.Name p.key ∷ t.Colon ∷ sum None p.value.terms

-- a change of SET
abbrev pub change : Option Name → Pair → List Token
change n p = given n ++ (t.Dot ∷ t.Name p.key ∷ t.Equals ∷ sum n p.value.terms)

abbrev pub alias : Option Name → List Token
alias None = []
alias (Some a) = t.As ∷ t.Name a ∷ []

abbrev pub item : Option Name → Item → List Token
item n i.Whole = given n
item n (i.Sum e) = sum n e.terms

abbrev pub named : Option Name → Named → List Token
named n x = item n x.item ++ alias x.name

abbrev pub label : Option Name → List Token
label None = []
label (Some a) = t.Colon ∷ t.Name a ∷ []

abbrev pub node : Token → Option Name → Option Name → List Token
node verb n a = verb ∷ t.Open ∷ (given n ++ label a)

abbrev pub props : Bool → List Pair → List Token
props false ps = []
props true ps = t.LeftBrace ∷ (parted pair t.Comma ps ++ (t.RightBrace ∷ []))

-- the node up to the closing parenthesis
abbrev pub pattern : Bool → Option Name → Head → List Token
pattern b n h.Alone = []
pattern b n (h.Create a ps) = node t.Create n (Some a) ++ props b ps
pattern b n (h.Find a None) = node t.Match n a
pattern b n (h.Find a (Some p)) = node t.Match n a ++ props true (p ∷ [])
pattern b n (h.Merge a p) = node t.Merge n (Some a) ++ props true (p ∷ [])

abbrev pub head : Bool → Option Name → Head → List Token
head b n h.Alone = []
head b n x = pattern b n x ++ (t.Close ∷ [])

abbrev pub changes : Option Name → Change → List Token
changes n c.Keep = []
changes n (c.Set ps) = t.Set ∷ parted (change n) t.Comma ps
changes n c.Delete = t.Delete ∷ given n

abbrev pub tail : Choice → Option Name → Tail → List Token
tail o n l.Nothing = []
tail o n l.Count = t.Return ∷ t.Name o.word ∷ t.Open ∷ (given n ++ (t.Close ∷ alias o.alias))
tail o n (l.Items xs) = t.Return ∷ parted (named n) t.Comma o.named

abbrev pub semicolon : Bool → List Token
semicolon false = []
semicolon true = t.Semicolon ∷ []

abbrev pub tokens : Choice → Statement → List Token
tokens o s = (head o.braces s.name s.head ++ (changes s.name s.change ++ tail o s.name s.tail)) ++ semicolon o.semicolon

-- ---- which are right

abbrev pub NotEmpty : {A : Type 0} → List A → Type 0
NotEmpty [] = ⊥
NotEmpty (x ∷ xs) = Unit {0}

abbrev pub Every : {A : Type 0} → (A → Type 0) → List A → Type 0
Every P [] = Unit {0}
Every P (x ∷ xs) = P x × Every P xs

abbrev pub IsBound : Option Name → Type 0
IsBound None = ⊥
IsBound (Some n) = Unit {0}

-- a property is one of the bound node
abbrev pub IsTerm : Option Name → Term → Type 0
IsTerm n (m.Prop k) = IsBound n
IsTerm n _ = Unit {0}

abbrev pub IsSum : Option Name → List Term → Type 0
IsSum n ts = NotEmpty ts × Every (IsTerm n) ts

abbrev pub IsItem : Option Name → Item → Type 0
IsItem n i.Whole = IsBound n
IsItem n (i.Sum e) = IsSum n e.terms

abbrev pub IsPair : Option Name → Pair → Type 0
IsPair n p = IsSum n p.value.terms

abbrev pub has : Name → List Pair → Bool
has k ps = list_any (λ p. bytes_eq p.key k) ps

-- no key stands before
abbrev pub AllNew : List Pair → List Pair → Type 0
AllNew before [] = Unit {0}
AllNew before (p ∷ ps) = (has p.key before ≡ false) × AllNew (before ++ (p ∷ [])) ps

-- no key twice, and no name is bound between the parentheses
abbrev pub ArePairs : List Pair → Type 0
ArePairs ps = AllNew [] ps × Every (IsPair None) ps

abbrev pub IsBare : Bool → List Pair → Type 0
IsBare false ps = ps ≡ []
IsBare true ps = Unit {0}

abbrev pub IsHead : Bool → Head → Type 0
IsHead b h.Alone = Unit {0}
IsHead b (h.Create a ps) = ArePairs ps × IsBare b ps
IsHead b (h.Find a None) = Unit {0}
IsHead b (h.Find a (Some p)) = IsPair None p
IsHead b (h.Merge a p) = IsPair None p

abbrev pub IsChange : Option Name → Change → Type 0
IsChange n c.Keep = Unit {0}
IsChange n (c.Set ps) = IsBound n × NotEmpty ps × Every (IsPair n) ps
IsChange n c.Delete = IsBound n

-- `count` in any case
abbrev pub is_count : Name → Bool
is_count w = str_eq_ignore_ascii_case w (codes "count")

abbrev pub items_of : List Named → List Item
items_of xs = map (λ x. x.item) xs

abbrev pub IsTail : Choice → Option Name → Tail → Type 0
IsTail o n l.Nothing = Unit {0}
IsTail o n l.Count = IsBound n × (is_count o.word ≡ true)
IsTail o n (l.Items xs) = NotEmpty xs × Every (IsItem n) xs × (items_of o.named ≡ xs)

pub data Kind : Type 0 where
  nothing : Kind
  count : Kind
  items : Kind

abbrev pub kind : Tail → Kind
kind l.Nothing = nothing
kind l.Count = count
kind (l.Items xs) = items

-- which parts may stand together: a RETURN alone binds no name and returns items, MATCH needs a change or a RETURN,
-- and only MATCH may DELETE, which returns no items
abbrev pub Goes : Option Name → Head → Change → Kind → Type 0
Goes n h.Alone c.Keep items = n ≡ None
Goes n h.Alone _ _ = ⊥
Goes n (h.Find a p) c.Keep nothing = ⊥
Goes n (h.Find a p) c.Delete items = ⊥
Goes n (h.Create a ps) c.Delete _ = ⊥
Goes n (h.Merge a p) c.Delete _ = ⊥
Goes n _ _ _ = Unit {0}

-- these tokens spell this statement, but for its columns
pub record Spells (s : Statement) (ts : List Token) : Type 0 where
  pub choice : Choice
  pub head : IsHead choice.braces s.head
  pub change : IsChange s.name s.change
  pub tail : IsTail choice s.name s.tail
  pub goes : Goes s.name s.head s.change (kind s.tail)
  pub same : tokens choice s ≡ ts
