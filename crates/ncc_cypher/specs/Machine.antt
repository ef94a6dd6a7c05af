-- The machine that reads tokens from left to right. A state holds what was read so far.
use Rattle.std.specs.Prelude.{Bool, true, false, not, ◌&&◌, List, [], ◌∷◌, ◌++◌, Option, Some, None, is_some}
use Rattle.std.specs.Str.{bytes_eq}
use Rattle.ncc_cypher.specs.declared.token.Token.{Token}
use Rattle.ncc_cypher.specs.declared.token.Token.TheVariants as t
use Rattle.ncc_cypher.specs.declared.tree.Term.{Term}
use Rattle.ncc_cypher.specs.declared.tree.Term.TheVariants as m
use Rattle.ncc_cypher.specs.declared.tree.Pair.{Pair}
use Rattle.ncc_cypher.specs.declared.tree.Item.{Item}
use Rattle.ncc_cypher.specs.declared.tree.Item.TheVariants as i
use Rattle.ncc_cypher.specs.declared.tree.Head.{Head}
use Rattle.ncc_cypher.specs.declared.tree.Head.TheVariants as h
use Rattle.ncc_cypher.specs.declared.tree.Change.{Change}
use Rattle.ncc_cypher.specs.declared.tree.Change.TheVariants as c
use Rattle.ncc_cypher.specs.declared.tree.Tail.{Tail}
use Rattle.ncc_cypher.specs.declared.tree.Tail.TheVariants as l
use Rattle.ncc_cypher.specs.declared.tree.Statement.{Statement}
use Rattle.ncc_cypher.specs.Verb.{Verb}
use Rattle.ncc_cypher.specs.Verb as v
use Rattle.ncc_cypher.specs.Opening.{Opening}
use Rattle.ncc_cypher.specs.Opening as o
use Rattle.ncc_cypher.specs.Site.{Node}
use Rattle.ncc_cypher.specs.Site.{Made}
use Rattle.ncc_cypher.specs.Site.{Body}
use Rattle.ncc_cypher.specs.Site.{Site}
use Rattle.ncc_cypher.specs.Site as p
use Rattle.ncc_cypher.specs.State.{State}
use Rattle.ncc_cypher.specs.State as s
use Rattle.ncc_cypher.specs.Grammar.{Name, has, is_count}

abbrev pub when : {A : Type 0} → Bool → A → Option A
when true x = Some x
when false x = None

abbrev pub then_state : {A : Type 0} → (A → State) → Option A → Option State
then_state f None = None
then_state f (Some x) = Some (f x)

abbrev pub is_bound : Option Name → Name → Bool
is_bound None x = false
is_bound (Some n) x = bytes_eq n x

-- the name that a term may speak of
abbrev pub scope : Site → Option Name
scope (p.InPair node ps k) = None
scope (p.InSet made ps k) = made.name
scope (p.InItem body xs) = body.made.name

abbrev pub a_pair : Name → List Term → Pair
a_pair k ts = record { key = k; value = record { terms = ts } }

abbrev pub a_sum : List Term → Item
a_sum ts = i.Sum (record { terms = ts })

abbrev pub a_node : Opening → Option Name → Node
a_node a n = record { opening = a; name = n }

abbrev pub a_made : Head → Option Name → Made
a_made a n = record { head = a; name = n }

abbrev pub a_body : Made → Change → Body
a_body a x = record { made = a; change = x }

abbrev pub alone : Body
alone = a_body (a_made h.Alone None) c.Keep

abbrev pub a_statement : Body → Tail → Statement
a_statement b x = record { head = b.made.head; name = b.made.name; change = b.change; tail = x; columns = [] }

-- ---- the head

abbrev pub at_start : Token → Option State
at_start t.Return = Some (s.Needs (p.InItem alone []) [])
at_start t.Create = Some (s.Begun v.Create)
at_start t.Match = Some (s.Begun v.Find)
at_start t.Merge = Some (s.Begun v.Merge)
at_start _ = None

abbrev pub at_verb : Verb → Token → Option State
at_verb a t.Open = Some (s.Opened a)
at_verb a _ = None

abbrev pub find_only : Verb → State → Option State
find_only v.Find x = Some x
find_only _ x = None

-- behind the name, or where none stands
abbrev pub unlabelled : Verb → Option Name → Token → Option State
unlabelled a n t.Colon = Some (s.Coloned a n)
unlabelled a n t.LeftBrace = find_only a (s.Braced (a_node (o.Find None) n))
unlabelled a n t.Close = find_only a (s.Closed (a_made (h.Find None None) n))
unlabelled a n _ = None

abbrev pub at_opened : Verb → Token → Option State
at_opened a (t.Name n) = Some (s.Called a n)
at_opened a x = unlabelled a None x

abbrev pub opening : Verb → Name → Opening
opening v.Create a = o.Create a
opening v.Find a = o.Find (Some a)
opening v.Merge a = o.Merge a

abbrev pub at_coloned : Verb → Option Name → Token → Option State
at_coloned a n (t.Name b) = Some (s.Labelled (a_node (opening a b) n))
at_coloned a n _ = None

-- a head without braces
abbrev pub bare : Opening → Option Head
bare (o.Create a) = Some (h.Create a [])
bare (o.Find a) = Some (h.Find a None)
bare (o.Merge a) = None

abbrev pub at_labelled : Node → Token → Option State
at_labelled n t.LeftBrace = Some (s.Braced n)
at_labelled n t.Close = then_state (λ x. s.Closed (a_made x n.name)) (bare n.opening)
at_labelled n _ = None

-- a head with braces round no pair
abbrev pub no_pair : Opening → Option Head
no_pair (o.Create a) = Some (h.Create a [])
no_pair _ = None

abbrev pub at_braced : Node → Token → Option State
at_braced n (t.Name k) = Some (s.Keyed n [] k)
at_braced n t.RightBrace = then_state (λ x. s.Closing (a_made x n.name)) (no_pair n.opening)
at_braced n _ = None

abbrev pub at_further : Node → List Pair → Token → Option State
at_further n ps (t.Name k) = when (not (has k ps)) (s.Keyed n ps k)
at_further n ps _ = None

abbrev pub at_keyed : Node → List Pair → Name → Token → Option State
at_keyed n ps k t.Colon = Some (s.Needs (p.InPair n ps k) [])
at_keyed n ps k _ = None

-- a head with its last pair
abbrev pub with_pair : Opening → List Pair → Pair → Head
with_pair (o.Create a) ps x = h.Create a (ps ++ (x ∷ []))
with_pair (o.Find a) ps x = h.Find a (Some x)
with_pair (o.Merge a) ps x = h.Merge a x

abbrev pub more_pairs : Opening → State → Option State
more_pairs (o.Create a) x = Some x
more_pairs _ x = None

abbrev pub behind_pair : Node → List Pair → Pair → Token → Option State
behind_pair n ps x t.RightBrace = Some (s.Closing (a_made (with_pair n.opening ps x) n.name))
behind_pair n ps x t.Comma = more_pairs n.opening (s.Further n (ps ++ (x ∷ [])))
behind_pair n ps x _ = None

abbrev pub at_closing : Made → Token → Option State
at_closing a t.Close = Some (s.Closed a)
at_closing a _ = None

-- ---- what is done to the nodes

abbrev pub is_find : Head → Bool
is_find (h.Find a x) = true
is_find _ = false

abbrev pub at_closed : Made → Token → Option State
at_closed a t.Set = when (is_some a.name) (s.Setting a [])
at_closed a t.Delete = when (is_find a.head && is_some a.name) (s.Deleting a)
at_closed a t.Return = Some (s.Returning (a_body a c.Keep))
at_closed a _ = None

abbrev pub at_setting : Made → List Pair → Token → Option State
at_setting a ps (t.Name x) = when (is_bound a.name x) (s.SetOwned a ps)
at_setting a ps _ = None

abbrev pub at_set_owned : Made → List Pair → Token → Option State
at_set_owned a ps t.Dot = Some (s.SetDotted a ps)
at_set_owned a ps _ = None

abbrev pub at_set_dotted : Made → List Pair → Token → Option State
at_set_dotted a ps (t.Name k) = Some (s.SetKeyed a ps k)
at_set_dotted a ps _ = None

abbrev pub at_set_keyed : Made → List Pair → Name → Token → Option State
at_set_keyed a ps k t.Equals = Some (s.Needs (p.InSet a ps k) [])
at_set_keyed a ps k _ = None

abbrev pub behind_change : Made → List Pair → Token → Option State
behind_change a ps t.Comma = Some (s.Setting a ps)
behind_change a ps t.Return = Some (s.Returning (a_body a (c.Set ps)))
behind_change a ps _ = None

abbrev pub at_deleting : Made → Token → Option State
at_deleting a (t.Name x) = when (is_bound a.name x) (s.Deleted a)
at_deleting a _ = None

abbrev pub at_deleted : Made → Token → Option State
at_deleted a t.Return = Some (s.DeleteReturn a)
at_deleted a _ = None

abbrev pub at_delete_return : Made → Token → Option State
at_delete_return a (t.Name x) = when (is_count x) (s.Counting (a_body a c.Delete))
at_delete_return a _ = None

-- ---- sums

abbrev pub at_needs : Site → List Term → Token → Option State
at_needs w ts t.Null = Some (s.After w (ts ++ (m.Null ∷ [])))
at_needs w ts t.True = Some (s.After w (ts ++ (m.Bool true ∷ [])))
at_needs w ts t.False = Some (s.After w (ts ++ (m.Bool false ∷ [])))
at_needs w ts (t.Int k) = Some (s.After w (ts ++ (m.Int k ∷ [])))
at_needs w ts (t.Text b) = Some (s.After w (ts ++ (m.Text b ∷ [])))
at_needs w ts t.Dollar = Some (s.Param w ts)
at_needs w ts (t.Name x) = when (is_bound (scope w) x) (s.Owned w ts)
at_needs w ts _ = None

abbrev pub at_param : Site → List Term → Token → Option State
at_param w ts (t.Name x) = Some (s.After w (ts ++ (m.Param x ∷ [])))
at_param w ts _ = None

abbrev pub at_dotted : Site → List Term → Token → Option State
at_dotted w ts (t.Name x) = Some (s.After w (ts ++ (m.Prop x ∷ [])))
at_dotted w ts _ = None

abbrev pub behind_item : Body → List Item → Item → Token → Option State
behind_item b xs y t.Comma = Some (s.Needs (p.InItem b (xs ++ (y ∷ []))) [])
behind_item b xs y t.As = Some (s.Aliasing b xs y)
behind_item b xs y _ = None

-- behind the bound name alone
abbrev pub behind_name : Site → List Term → Token → Option State
behind_name (p.InItem b xs) [] x = behind_item b xs i.Whole x
behind_name _ _ x = None

abbrev pub at_owned : Site → List Term → Token → Option State
at_owned w ts t.Dot = Some (s.Dotted w ts)
at_owned w ts x = behind_name w ts x

abbrev pub behind_sum : Site → List Term → Token → Option State
behind_sum (p.InPair n ps k) ts x = behind_pair n ps (a_pair k ts) x
behind_sum (p.InSet a ps k) ts x = behind_change a (ps ++ (a_pair k ts ∷ [])) x
behind_sum (p.InItem b xs) ts x = behind_item b xs (a_sum ts) x

abbrev pub at_after : Site → List Term → Token → Option State
at_after w ts t.Plus = Some (s.Needs w ts)
at_after w ts x = behind_sum w ts x

-- ---- what is returned

-- a word at the first item: whether it is the bound name, and whether it is `count`
abbrev pub first_name : Bool → Bool → Body → Option State
first_name true true b = Some (s.Either b)
first_name true false b = Some (s.Owned (p.InItem b []) [])
first_name false true b = when (is_some b.made.name) (s.Counting b)
first_name false false b = None

abbrev pub at_returning : Body → Token → Option State
at_returning b (t.Name x) = first_name (is_bound b.made.name x) (is_count x) b
at_returning b x = at_needs (p.InItem b []) [] x

abbrev pub at_counting : Body → Token → Option State
at_counting b t.Open = Some (s.CountOpened b)
at_counting b _ = None

abbrev pub at_either : Body → Token → Option State
at_either b t.Open = Some (s.CountOpened b)
at_either b x = at_owned (p.InItem b []) [] x

abbrev pub at_count_opened : Body → Token → Option State
at_count_opened b (t.Name x) = when (is_bound b.made.name x) (s.CountOwned b)
at_count_opened b _ = None

abbrev pub at_count_owned : Body → Token → Option State
at_count_owned b t.Close = Some (s.Counted b)
at_count_owned b _ = None

abbrev pub at_counted : Body → Token → Option State
at_counted b t.As = Some (s.CountAliasing b)
at_counted b _ = None

abbrev pub at_count_aliasing : Body → Token → Option State
at_count_aliasing b (t.Name a) = Some (s.CountAliased b)
at_count_aliasing b _ = None

abbrev pub at_aliasing : Body → List Item → Item → Token → Option State
at_aliasing b xs y (t.Name a) = Some (s.Aliased b (xs ++ (y ∷ [])))
at_aliasing b xs y _ = None

abbrev pub at_aliased : Body → List Item → Token → Option State
at_aliased b xs t.Comma = Some (s.Needs (p.InItem b xs) [])
at_aliased b xs _ = None

-- ---- all

-- any token but a semicolon
unfoldable pub go : State → Token → Option State
go s.Start x = at_start x
go (s.Begun a) x = at_verb a x
go (s.Opened a) x = at_opened a x
go (s.Called a n) x = unlabelled a (Some n) x
go (s.Coloned a n) x = at_coloned a n x
go (s.Labelled n) x = at_labelled n x
go (s.Braced n) x = at_braced n x
go (s.Further n ps) x = at_further n ps x
go (s.Keyed n ps k) x = at_keyed n ps k x
go (s.Needs w ts) x = at_needs w ts x
go (s.Param w ts) x = at_param w ts x
go (s.Owned w ts) x = at_owned w ts x
go (s.Dotted w ts) x = at_dotted w ts x
go (s.After w ts) x = at_after w ts x
go (s.Closing a) x = at_closing a x
go (s.Closed a) x = at_closed a x
go (s.Setting a ps) x = at_setting a ps x
go (s.SetOwned a ps) x = at_set_owned a ps x
go (s.SetDotted a ps) x = at_set_dotted a ps x
go (s.SetKeyed a ps k) x = at_set_keyed a ps k x
go (s.Deleting a) x = at_deleting a x
go (s.Deleted a) x = at_deleted a x
go (s.DeleteReturn a) x = at_delete_return a x
go (s.Returning b) x = at_returning b x
go (s.Either b) x = at_either b x
go (s.Counting b) x = at_counting b x
go (s.CountOpened b) x = at_count_opened b x
go (s.CountOwned b) x = at_count_owned b x
go (s.Counted b) x = at_counted b x
go (s.CountAliasing b) x = at_count_aliasing b x
go (s.CountAliased b) x = None
go (s.Aliasing b xs y) x = at_aliasing b xs y x
go (s.Aliased b xs) x = at_aliased b xs x
go (s.Done x) y = None

-- MATCH alone is no statement
abbrev pub no_find : Made → Option Statement
no_find a = when (not (is_find a.head)) (a_statement (a_body a c.Keep) l.Nothing)

abbrev pub end_of_sum : Site → List Term → Option Statement
end_of_sum (p.InPair n ps k) ts = None
end_of_sum (p.InSet a ps k) ts = Some (a_statement (a_body a (c.Set (ps ++ (a_pair k ts ∷ [])))) l.Nothing)
end_of_sum (p.InItem b xs) ts = Some (a_statement b (l.Items (xs ++ (a_sum ts ∷ []))))

abbrev pub end_of_name : Site → List Term → Option Statement
end_of_name (p.InItem b xs) [] = Some (a_statement b (l.Items (xs ++ (i.Whole ∷ []))))
end_of_name _ _ = None

-- the statement that a state ends
unfoldable pub ends : State → Option Statement
ends (s.Owned w ts) = end_of_name w ts
ends (s.After w ts) = end_of_sum w ts
ends (s.Closed a) = no_find a
ends (s.Deleted a) = Some (a_statement (a_body a c.Delete) l.Nothing)
ends (s.Either b) = Some (a_statement b (l.Items (i.Whole ∷ [])))
ends (s.Counted b) = Some (a_statement b l.Count)
ends (s.CountAliased b) = Some (a_statement b l.Count)
ends (s.Aliased b xs) = Some (a_statement b (l.Items xs))
ends _ = None

abbrev pub step : State → Token → Option State
step x t.Semicolon = then_state (λ y. s.Done y) (ends x)
step x y = go x y

-- the statement at the end of the tokens
abbrev pub accepts : State → Option Statement
accepts (s.Done x) = Some x
accepts x = ends x

abbrev pub then_run : (State → Option State) → Option State → Option State
then_run f None = None
then_run f (Some x) = f x

-- the state behind tokens, where they go on
unfoldable pub run : State → List Token → Option State
run x [] = Some x
run x (y ∷ ys) = then_run (λ r. run r ys) (step x y)
