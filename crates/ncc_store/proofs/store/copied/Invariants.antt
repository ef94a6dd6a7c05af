use Rattle.std.proofs.Common.{◌≡◌, not, int_lt, filter, take}
use Rattle.std.specs.Bool.{beq}
use Rattle.ncc_store.proofs.store.copied.Given as goal

abbrev pub invariant-loop-node : goal.invariant-loop-node
invariant-loop-node l = l.copies.items ≡ filter (λ n. beq l.made (not (int_lt n.id l.next))) (take l.node-index l.nodes)
