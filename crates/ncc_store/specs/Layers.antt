-- A store, and what was written over it: a node at its id, or nothing where it was removed.
use Rattle.std.specs.Prelude.{◌≡◌, ℤ, pos, int_lt, ◌≤ℤ◌, ◌<ℤ◌, if◌then◌else◌, List, [], ◌∷◌, ◌++◌, Option, Some, None, IsSome}
use Rattle.std.specs.List.{All}
use Rattle.std.specs.List.Sorted.{IsStrictlySortedBy}
use Rattle.std.specs.Ordering.{int_cmp}
use Rattle.std.specs.Map.{lookup, keys_of}
use Rattle.std.specs.BTreeMap.{insert_entry, is_at}
use Rattle.ncc_store.specs.declared.node.StoredNode.{StoredNode}
use Rattle.ncc_store.specs.Graph.{Graph, IsGraph, IsNode, find, last_id}

-- the store below, and the store that is seen
pub record Layers : Type 0 where
  pub base : Graph
  pub graph : Graph

abbrev pub Written : Type 0
Written = List (ℤ × Option StoredNode)

abbrev pub written_at : ℤ → Written → Option (Option StoredNode)
written_at id es = lookup (is_at (int_cmp id)) es

abbrev pub one : Option StoredNode → List StoredNode
one None = []
one (Some n) = n ∷ []

-- a node of the store below as it is seen
abbrev pub seen_one : StoredNode → Option (Option StoredNode) → List StoredNode
seen_one n None = n ∷ []
seen_one n (Some o) = one o

unfoldable pub seen_below : Written → List StoredNode → List StoredNode
seen_below es [] = []
seen_below es (n ∷ ns) = seen_one n (written_at n.id es) ++ seen_below es ns

-- the nodes that were made: their ids are not below the next one of the store below
unfoldable pub fresh : ℤ → Written → List StoredNode
fresh next [] = []
fresh next (e ∷ es) = if int_lt e.0 next then fresh next es else one e.1 ++ fresh next es

abbrev pub seen : Graph → ℤ → Written → Graph
seen g next es = record { next = next; nodes = seen_below es g.nodes ++ fresh g.next es }

-- what is written once these nodes are written one by one, and then once nothing stands at these ids
abbrev pub with_put : Written → List StoredNode → Written
with_put es [] = es
with_put es (n ∷ ns) = with_put (insert_entry int_cmp es n.id (Some n)) ns

abbrev pub with_gone : Written → List ℤ → Written
with_gone es [] = es
with_gone es (id ∷ is) = with_gone (insert_entry int_cmp es id None) is

-- a node of a store stands at its own id
abbrev pub IsNodeAt : ℤ → Option StoredNode → Type 0
IsNodeAt id None = Unit {0}
IsNodeAt id (Some n) = (n.id ≡ id) × IsNode n

-- what is written stands at an id below the next one: at that of a node of the store below, or at one that was given since
abbrev pub IsWritten : Graph → ℤ → ℤ × Option StoredNode → Type 0
IsWritten g next e = (pos 0 ≤ℤ e.0) × (e.0 <ℤ next) × (e.0 <ℤ g.next → IsSome (find e.0 g.nodes)) × IsNodeAt e.0 e.1

pub record IsLayered (g : Graph) (next : ℤ) (es : Written) : Type 0 where
  pub below : IsGraph g
  pub low : g.next ≤ℤ next
  pub high : next ≤ℤ last_id
  pub ordered : IsStrictlySortedBy int_cmp (keys_of es)
  pub written : All (IsWritten g next) es
