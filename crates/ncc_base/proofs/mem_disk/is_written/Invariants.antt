use Rattle.std.proofs.Common.{◌≡◌, take, false}
use Rattle.ncc_base.specs.MemDisk.{is_written}
use Rattle.ncc_base.proofs.mem_disk.is_written.Given as goal

abbrev pub invariant-loop-range : goal.invariant-loop-range
invariant-loop-range l = is_written l.place (take l.range-index l.ranges) ≡ false
