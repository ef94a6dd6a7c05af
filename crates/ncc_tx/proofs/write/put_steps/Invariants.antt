use Rattle.std.proofs.Common.{◌≡◌, ◌≤◌, ◌++◌, length, vec_capacity}
use Rattle.ncc_tx.proofs.Steps.{step_value}
use Rattle.ncc_pack.specs.Spells.{lists}
use Rattle.ncc_pack.specs.Short.{head}
use Rattle.ncc_tx.proofs.Listed.{spelled_to}
use Rattle.ncc_tx.proofs.write.put_steps.Given as goal

abbrev pub invariant-loop-step : goal.invariant-loop-step
invariant-loop-step l = record {
  written : l.into.items ≡ l.fn.into.items ++ (head lists (length l.steps) ++ spelled_to step_value l.step-index l.step-items);
  grows : vec_capacity l.fn.into ≤ vec_capacity l.into;
}
