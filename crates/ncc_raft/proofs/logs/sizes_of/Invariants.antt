use Rattle.std.proofs.Common.{◌≡◌, take}
use Rattle.std.specs.Prelude.{map}
use Rattle.ncc_raft.specs.Logs.{entry_size}
use Rattle.ncc_raft.proofs.logs.sizes_of.Given as goal

abbrev pub invariant-loop-item : goal.invariant-loop-item
invariant-loop-item l = l.sizes.items ≡ map entry_size (take l.item-index l.items)
