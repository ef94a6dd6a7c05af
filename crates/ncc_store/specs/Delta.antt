-- What steps changed of a store: its next id, the nodes that were made or changed, and the ids of those that are gone.
use Rattle.std.specs.Prelude.{◌≡◌, ◌≤ℤ◌, ◌<ℤ◌, int_lt, Bool, not, ◌++◌, map, Option, Some, None, IsSome}
use Rattle.std.specs.List.{All, filter, list_any}
use Rattle.std.specs.List.Sorted.{IsStrictlySortedBy}
use Rattle.std.specs.Ordering.{int_cmp, int_eq}
use Rattle.ncc_store.specs.declared.node.StoredNode.{StoredNode}
use Rattle.ncc_store.specs.declared.ran.Delta.{Delta}
use Rattle.ncc_store.specs.Graph.{Graph, IsNode, find, ids, last_id}

abbrev pub or_else : StoredNode → Option StoredNode → StoredNode
or_else n None = n
or_else n (Some m) = m

-- a node as the delta leaves it
abbrev pub renewed : Delta → StoredNode → StoredNode
renewed d n = or_else n (find n.id d.put)

abbrev pub is_gone : Delta → StoredNode → Bool
is_gone d n = list_any (int_eq n.id) d.gone

-- the nodes without those that are gone, each as the delta has it, and then the nodes that were made
abbrev pub applied : Delta → Graph → Graph
applied d g = record {
  next = d.next;
  nodes = map (renewed d) (filter (λ n. not (is_gone d n)) g.nodes) ++ filter (λ n. not (int_lt n.id g.next)) d.put;
}

-- a node that was in the store, or a new one, with an id from the old next one on; and below the new next one
abbrev pub IsPut : Graph → Delta → StoredNode → Type 0
IsPut g d n = (n.id <ℤ d.next) × (n.id <ℤ g.next → IsSome (find n.id g.nodes))

-- What may be put over a store: the next id does not fall, what is put was there or is new, what is gone was there, and no
-- node is both.
pub record IsOver (g : Graph) (d : Delta) : Type 0 where
  pub low : g.next ≤ℤ d.next
  pub high : d.next ≤ℤ last_id
  pub put : IsStrictlySortedBy int_cmp (ids d.put)
  pub known : All (IsPut g d) d.put
  pub nodes : All IsNode d.put
  pub gone : IsStrictlySortedBy int_cmp d.gone
  pub there : All (λ id. IsSome (find id g.nodes)) d.gone
  pub apart : All (λ id. find id d.put ≡ None) d.gone

-- No node is put that the store has just so. What is over a store and least is the one delta between two stores.
abbrev pub IsLeast : Graph → Delta → Type 0
IsLeast g d = All (λ n. find n.id g.nodes ≡ Some n → ⊥) d.put
