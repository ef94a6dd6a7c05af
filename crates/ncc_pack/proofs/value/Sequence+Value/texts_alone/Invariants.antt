use Rattle.std.proofs.Common.{◌≡◌, true, take}
use Rattle.ncc_pack.specs.Texts.{texts_alone}
use Rattle.ncc_pack.proofs.value.Sequence+Value.texts_alone.Given as goal

-- the values so far are texts
abbrev pub invariant-loop-value : goal.invariant-loop-value
invariant-loop-value l = texts_alone (take l.value-index l.value-items) ≡ true
