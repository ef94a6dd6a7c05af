use Rattle.std.proofs.Common.{◌≡◌, ◌++◌, take}
use Rattle.ncc_driver.proofs.answers.add_all.Given as goal

-- the addresses so far stand behind those that were there
abbrev pub invariant-loop-value : goal.invariant-loop-value
invariant-loop-value l = l.all ≡ l.initial.all ++ take l.value-index l.value-items
