use Rattle.std.proofs.Common.{take}
use Rattle.ncc_tx.specs.Kept.{AllAllowed}
use Rattle.ncc_raft.proofs.carry.all_allowed.Given as goal

abbrev pub invariant-loop-item : goal.invariant-loop-item
invariant-loop-item l = AllAllowed (take l.item-index l.items)
