use Rattle.std.proofs.Common.{◌≡◌, All, map, take, option_copied}
use Rattle.ncc_store.specs.Graph.{find}
use Rattle.ncc_store.specs.Bound.{IsRow}
use Rattle.ncc_store.proofs.run.nodes_at.Given as goal

abbrev pub invariant-loop-id : goal.invariant-loop-id
invariant-loop-id l = record {
  nodes : map option_copied l.nodes.items ≡ map (λ id. find id l.overlay.graph.nodes) (take l.id-index l.ids);
  keyed : All (λ n. IsRow (option_copied n)) l.nodes.items;
}
