use Rattle.std.proofs.Common.{◌≡◌, ◌≤◌, ℕ, drop, length, false, vec_len, vec_capacity}
use Rattle.ncc_base.specs.MemDisk.{byte_at, is_written}
use Rattle.ncc_base.proofs.mem_disk.settle.Given as goal

-- off the ranges that are left, the two agree
abbrev pub invariant-loop-range : goal.invariant-loop-range
invariant-loop-range l =
    (vec_len l.stable ≡ length l.seen)
    × (vec_capacity l.fn.stable ≤ vec_capacity l.stable)
    × ((p : ℕ) → is_written p (drop l.range-index l.ranges) ≡ false → byte_at l.stable.items p ≡ byte_at l.seen p)
