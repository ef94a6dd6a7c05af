use Rattle.std.proofs.Common.{◌≡◌, ◌-◌, ◌++◌}
use Rattle.ncc_base.specs.MemDisk.{drawn, seeded}
use Rattle.ncc_base.proofs.mem_disk.draw.Given as goal

-- what is drawn, and then the rest, is the whole
abbrev pub invariant-loop-place : goal.invariant-loop-place
invariant-loop-place l =
    l.left.items ++ drawn l.words l.stable l.ranges l.place (l.size - l.place) ≡ drawn (seeded l.fn.word) l.stable l.ranges 0 l.size
