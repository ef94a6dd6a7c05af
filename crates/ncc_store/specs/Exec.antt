-- What calls do to a store: the rows of each and the store after the last, or the first fault. The meaning of Cypher's CREATE,
-- MATCH, MERGE, SET, DELETE and RETURN, by filtering a list, appending, changing and removing.
use Rattle.std.specs.Prelude.{ℕ, ℤ, pos, ◌+ℤ◌, int_lt, Bool, true, ◌&&◌, if◌then◌else◌, List}
use Rattle.std.specs.Prelude.{[], ◌∷◌, ◌++◌, map, Option, Some, None, Result, Ok, Err}
use Rattle.std.specs.List.{filter}
use Rattle.std.specs.Str.{bytes_eq}
use Rattle.ncc_pack.specs.declared.value.Value.{Value}
use Rattle.ncc_cypher.specs.declared.tree.Pair.{Pair}
use Rattle.ncc_cypher.specs.declared.tree.Head.{Head}
use Rattle.ncc_cypher.specs.declared.tree.Head.TheVariants as h
use Rattle.ncc_cypher.specs.declared.tree.Change.{Change}
use Rattle.ncc_cypher.specs.declared.tree.Change.TheVariants as c
use Rattle.ncc_cypher.specs.declared.tree.Statement.{Statement}
use Rattle.ncc_cypher.specs.declared.error.SyntaxKind.{SyntaxKind}
use Rattle.ncc_cypher.specs.Parsed.{parsed}
use Rattle.ncc_store.specs.declared.node.StoredNode.{StoredNode}
use Rattle.ncc_store.specs.declared.call.Call.{Call}
use Rattle.ncc_store.specs.declared.step.Step.{Step}
use Rattle.ncc_store.specs.declared.scalar.Scalar.{Scalar}
use Rattle.ncc_store.specs.declared.scalar.Scalar.TheVariants as s
use Rattle.ncc_store.specs.declared.fault.RunFault.TheVariants as f
use Rattle.ncc_store.specs.Scalar.{same}
use Rattle.ncc_store.specs.Props.{Name, Props, prop, put}
use Rattle.ncc_store.specs.Graph.{Graph, find, replace, without, ids, last_id}
use Rattle.ncc_store.specs.Sum.{Answer, ◌>>=◌, sum}
use Rattle.ncc_store.specs.Rows.{Row, returned}

-- ---- the nodes that a pattern takes

abbrev pub has_label : Option Name → StoredNode → Bool
has_label None n = true
has_label (Some l) n = bytes_eq l n.label

abbrev pub Wanted : Type 0
Wanted = Option (Name × Scalar)

abbrev pub has_value : Wanted → StoredNode → Bool
has_value None n = true
has_value (Some w) n = same (prop w.0 n.props) w.1

abbrev pub taken : Option Name → Wanted → StoredNode → Bool
taken l w n = has_label l n && has_value w n

-- their ids, ascending
abbrev pub matching : Option Name → Wanted → Graph → List ℤ
matching l w g = ids (filter (taken l w) g.nodes)

-- ---- the head: the store behind it, and the ids of its rows

abbrev pub Headed : Type 0
Headed = Graph × List ℤ

-- pairs from left to right, where no name is bound
unfoldable pub pairs : Props → Props → List Pair → Answer Props
pairs params ps [] = Ok ps
pairs params ps (p ∷ rest) = sum params [] p.value >>= λ x. pairs params (put ps p.key x) rest

-- a node with the next id, unless ids are spent
abbrev pub made : Name → Props → Graph → Answer Headed
made l ps g = if int_lt g.next last_id
    then Ok (record { next = g.next +ℤ pos 1; nodes = g.nodes ++ (record { id = g.next; label = l; props = ps } ∷ []) }, g.next ∷ [])
    else Err f.IdsSpent

abbrev pub wanted : Props → Option Pair → Answer Wanted
wanted params None = Ok None
wanted params (Some p) = sum params [] p.value >>= λ x. Ok (Some (p.key, x))

-- a node is made where none is taken
abbrev pub found_or_made : Name → Name → Scalar → Graph → List ℤ → Answer Headed
found_or_made l k x g [] = made l (put [] k x) g
found_or_made l k x g is = Ok (g, is)

abbrev pub merged : Name → Name → Graph → Scalar → Answer Headed
merged l k g s.Null = Err f.NullMerge
merged l k g x = found_or_made l k x g (matching (Some l) (Some (k, x)) g)

abbrev pub head : Props → Graph → Head → Answer Headed
head params g h.Alone = Ok (g, [])
head params g (h.Create l ps) = pairs params [] ps >>= λ made_of. made l made_of g
head params g (h.Find l p) = wanted params p >>= λ w. Ok (g, matching l w g)
head params g (h.Merge l p) = sum params [] p.value >>= merged l p.key g

-- ---- the change

-- the changes of SET from left to right; null takes a property out
unfoldable pub changed : Props → List Pair → Props → Answer Props
changed params [] ps = Ok ps
changed params (c ∷ cs) ps = sum params ps c.value >>= λ x. changed params cs (put ps c.key x)

abbrev pub node_set : Props → List Pair → StoredNode → Answer StoredNode
node_set params cs n = changed params cs n.props >>= λ ps. Ok (record n { props = ps })

abbrev pub set_one : Props → List Pair → Graph → Option StoredNode → Answer Graph
set_one params cs g None = Ok g
set_one params cs g (Some n) = node_set params cs n >>= λ m. Ok (record g { nodes = replace m g.nodes })

-- row by row
unfoldable pub set : Props → List Pair → Graph → List ℤ → Answer Graph
set params cs g [] = Ok g
set params cs g (id ∷ is) = set_one params cs g (find id g.nodes) >>= λ h. set params cs h is

unfoldable pub deleted : Graph → List ℤ → Graph
deleted g [] = g
deleted g (id ∷ is) = deleted (record g { nodes = without id g.nodes }) is

abbrev pub change : Props → Change → Headed → Answer Graph
change params c.Keep r = Ok r.0
change params (c.Set cs) r = set params cs r.0 r.1
change params c.Delete r = Ok (deleted r.0 r.1)

-- ---- a step, and steps one after the other

-- the nodes of the rows, as they are behind the change; a RETURN that stands alone has one row without a node
abbrev pub nodes_of : Head → Graph → List ℤ → List Row
nodes_of h.Alone g is = None ∷ []
nodes_of _ g is = map (λ id. find id g.nodes) is

pub record Ended : Type 0 where
  pub rows : List (List (List Value))
  pub graph : Graph

-- a statement with its parameters: the head, the change, and the rows
abbrev pub run : Graph → Props → Statement → Answer (List (List Value) × Graph)
run g params x = head params g x.head >>= λ r. change params x.change r >>= λ after.
    returned params x.tail (nodes_of x.head after r.1) >>= λ rows. Ok (rows, after)

-- a call whose source spells no statement does nothing and gives no row; a step is never made of one
abbrev pub run_parsed : Graph → Props → Result Statement (ℕ × SyntaxKind) → Answer (List (List Value) × Graph)
run_parsed g params (Ok x) = run g params x
run_parsed g params (Err e) = Ok ([], g)

-- a call: the statement that its source spells
abbrev pub step : Graph → Call → Answer (List (List Value) × Graph)
step g call = run_parsed g call.params (parsed call.source)

unfoldable pub exec : Graph → List Call → Answer Ended
exec g [] = Ok (record { rows = []; graph = g })
exec g (x ∷ xs) = step g x >>= λ r. exec r.1 xs >>= λ e. Ok (record { rows = r.0 ∷ e.rows; graph = e.graph })

-- rows in front of those of further calls
abbrev pub behind : List (List (List Value)) → Answer Ended → Answer Ended
behind front r = r >>= λ e. Ok (record { rows = front ++ e.rows; graph = e.graph })

-- a step as the call that it is made of
abbrev pub call_of : Step → Call
call_of s = record { source = s.source; params = s.params }
