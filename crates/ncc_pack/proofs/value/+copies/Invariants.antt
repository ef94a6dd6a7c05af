use Rattle.std.proofs.Common.{◌≡◌, take}
use Rattle.ncc_pack.proofs.value.+copies.Given as goal

abbrev pub invariant-copied_dict-loop-pair : goal.invariant-copied_dict-loop-pair
invariant-copied_dict-loop-pair l = l.copy ≡ take l.pair-index l.pair-items

abbrev pub invariant-copied_values-loop-value : goal.invariant-copied_values-loop-value
invariant-copied_values-loop-value l = l.copy ≡ take l.value-index l.value-items
