-- What a sum may look into: no node, a node, or one that is being changed.
use Rattle.std.specs.Prelude.{[], Option, Some, None}
use Rattle.ncc_store.specs.declared.node.StoredNode.{StoredNode}
use Rattle.ncc_store.specs.declared.sum.Bound.{Bound}
use Rattle.ncc_store.specs.declared.sum.Bound.TheVariants as b
use Rattle.ncc_store.specs.Graph.{IsNode}
use Rattle.ncc_store.specs.Props.{Props}

-- the properties of the bound node
abbrev pub props_in : Bound → Props
props_in b.Free = []
props_in (b.Node n) = n.now.props
props_in (b.PropertyMap d) = d.now

-- the node is one of a store; a draft keeps its own properties in order
abbrev pub IsReady : Bound → Type 0
IsReady (b.Node n) = IsNode n.now
IsReady _ = Unit {0}

-- the node of a row, where there is one, is one of a store
abbrev pub IsRow : Option StoredNode → Type 0
IsRow None = Unit {0}
IsRow (Some n) = IsNode n
