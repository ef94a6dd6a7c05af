use Rattle.std.proofs.Common.{◌≡◌}
use Rattle.ncc_store.specs.Layers.{with_put}
use Rattle.ncc_store.proofs.overlay.write_put.Given as goal

abbrev pub invariant-loop-node : goal.invariant-loop-node
invariant-loop-node l = with_put l.written.entries l.node-iterator.rest.items ≡ with_put l.fn.written.entries
    l.initial.node-iterator.rest.items
