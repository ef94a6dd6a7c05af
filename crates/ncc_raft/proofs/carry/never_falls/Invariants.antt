use Rattle.std.proofs.Common.{drop}
use Rattle.ncc_tx.proofs.Terms.{Left}
use Rattle.ncc_raft.proofs.carry.never_falls.Given as goal

abbrev pub invariant-loop-item : goal.invariant-loop-item
invariant-loop-item l = Left l.fn.least l.greatest l.last l.items (drop l.item-index l.items)
