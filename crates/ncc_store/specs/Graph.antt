-- A store as a plain list: the next id, and the nodes by ascending id. Cypher's property graph, of nodes with one label each
-- and without relationships.
use Rattle.std.specs.Prelude.{ℤ, pos, ◌≤ℤ◌, ◌<ℤ◌, ◌^◌, not, if◌then◌else◌, IsTrue, List, [], ◌∷◌, map, Option, Some, None}
use Rattle.std.specs.List.{All, filter, list_all}
use Rattle.std.specs.List.Sorted.{IsStrictlySortedBy}
use Rattle.std.specs.Ordering.{int_cmp, int_eq}
use Rattle.ncc_store.specs.declared.node.StoredNode.{StoredNode}
use Rattle.ncc_pack.specs.declared.value.Value.TheVariants as v
use Rattle.ncc_pack.specs.Fits.{fits}
use Rattle.ncc_store.specs.Props.{IsKeyed, ArePlain, pair_fits}

pub record Graph : Type 0 where
  pub next : ℤ
  pub nodes : List StoredNode

-- a store with no node
abbrev pub empty : ℤ → Graph
empty next = record { next = next; nodes = [] }

-- the node of an id
unfoldable pub find : ℤ → List StoredNode → Option StoredNode
find id [] = None
find id (n ∷ ns) = if int_eq n.id id then Some n else find id ns

-- with this node in the place of the one that has its id
unfoldable pub replace : StoredNode → List StoredNode → List StoredNode
replace m ns = map (λ n. if int_eq n.id m.id then m else n) ns

-- with each of these nodes so, one after the other
abbrev pub replaced : List StoredNode → List StoredNode → List StoredNode
replaced [] ns = ns
replaced (m ∷ ms) ns = replaced ms (replace m ns)

-- without the node of this id
unfoldable pub without : ℤ → List StoredNode → List StoredNode
without id ns = filter (λ n. not (int_eq n.id id)) ns

abbrev pub ids : List StoredNode → List ℤ
ids ns = map (λ n. n.id) ns

-- the greatest next id, which no node has
abbrev pub last_id : ℤ
last_id = pos (2 ^ 62)

-- A node of a store: its keys ascend, each property is a truth value, an integer or a text, never null, and all of it fits.
pub record IsNode (n : StoredNode) : Type 0 where
  pub keyed : IsKeyed n.props
  pub plain : ArePlain n.props
  pub pairs : IsTrue (list_all pair_fits n.props)
  pub label : IsTrue (fits (v.Text n.label))

-- ids ascend from 0 on, and are below the next one
pub record IsPlaced (g : Graph) : Type 0 where
  pub low : pos 0 ≤ℤ g.next
  pub high : g.next ≤ℤ last_id
  pub ascending : IsStrictlySortedBy int_cmp (ids g.nodes)
  pub below : All (λ n. (pos 0 ≤ℤ n.id) × (n.id <ℤ g.next)) g.nodes

-- what each store is
pub record IsGraph (g : Graph) : Type 0 where
  pub placed : IsPlaced g
  pub nodes : All IsNode g.nodes
