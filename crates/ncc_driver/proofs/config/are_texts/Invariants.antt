use Rattle.std.proofs.Common.{◌≡◌, true, take}
use Rattle.ncc_driver.specs.Config.{texts_fit}
use Rattle.ncc_driver.proofs.config.are_texts.Given as goal

-- the values so far are texts that fit
abbrev pub invariant-loop-value : goal.invariant-loop-value
invariant-loop-value l = texts_fit (take l.value-index l.value-items) ≡ true
