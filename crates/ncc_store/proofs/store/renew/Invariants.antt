use Rattle.std.proofs.Common.{◌≡◌}
use Rattle.ncc_store.specs.Graph.{replaced}
use Rattle.ncc_store.proofs.Placed.{Ascends}
use Rattle.ncc_store.proofs.store.renew.Given as goal

abbrev pub invariant-loop-node : goal.invariant-loop-node
invariant-loop-node l = record {
  rest : replaced l.node-iterator.rest.items l.nodes ≡ replaced l.fn.changed.items l.fn.nodes;
  ascends : Ascends l.nodes;
}
