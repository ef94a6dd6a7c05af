use Rattle.std.proofs.Common.{◌≡◌, ◌++◌, min, length}
use Rattle.ncc_tx.proofs.Steps.{step_value}
use Rattle.ncc_pack.specs.Spells.{lists}
use Rattle.ncc_pack.specs.Short.{head}
use Rattle.ncc_pack.proofs.Sizes.{greatest}
use Rattle.ncc_tx.proofs.Listed.{spelled_to}
use Rattle.ncc_tx.proofs.write.steps_len.Given as goal

abbrev pub invariant-loop-step : goal.invariant-loop-step
invariant-loop-step l = l.sum ≡ min (length (head lists (length l.steps) ++ spelled_to step_value l.step-index l.step-items)) greatest
