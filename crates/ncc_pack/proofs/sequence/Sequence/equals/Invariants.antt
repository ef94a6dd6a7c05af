use Rattle.std.proofs.Common.{◌≡◌, take}
use Rattle.ncc_pack.proofs.sequence.Sequence.equals.Given as goal

-- the items so far are equal
abbrev pub invariant-loop-i : goal.invariant-loop-i
invariant-loop-i g l = take l.i l.item-items ≡ take l.i l.others
