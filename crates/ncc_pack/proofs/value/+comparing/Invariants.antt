use Rattle.std.proofs.Common.{◌≡◌, take}
use Rattle.ncc_pack.proofs.value.+comparing.Given as goal

abbrev pub invariant-equal_dicts-loop-i : goal.invariant-equal_dicts-loop-i
invariant-equal_dicts-loop-i l = take l.i l.pair-items ≡ take l.i l.others

abbrev pub invariant-equal_values-loop-i : goal.invariant-equal_values-loop-i
invariant-equal_values-loop-i l = take l.i l.value-items ≡ take l.i l.others
