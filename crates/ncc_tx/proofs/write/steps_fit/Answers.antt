use Rattle.std.proofs.Common.{sym, ◌∙◌, arith}
use Rattle.ncc_tx.proofs.Listed.{none_fits, all_fit}
use Rattle.ncc_tx.proofs.Steps.{step_value, steps_are}
use Rattle.ncc_tx.proofs.write.steps_fit.Goals as goal

pub returns-then-not-step_fits : goal.returns-then-not-step_fits
returns-then-not-step_fits c =
    rw (steps_are c.args.steps.now)
    (none_fits step_value c.args.steps.now 31 c.as_slice-step-items.result.now c.loop-step.step-index c.step-item.result
    (omega arith) c.as_slice-step-items.ensures.same c.loop-step-test.true c.step-item.is (sym c.step_fits.ensures
    ∙ c.if-not-step_fits.true))

pub returns : goal.returns
returns c =
    rw (steps_are c.args.steps.now) (all_fit step_value c.args.steps.now 31 c.as_slice-step-items.result.now c.loop-step.step-index
    (omega arith) (omega (arith, c.len.ensures.length)) c.as_slice-step-items.ensures.same c.loop-step-test.false c.loop-step.invariant)
