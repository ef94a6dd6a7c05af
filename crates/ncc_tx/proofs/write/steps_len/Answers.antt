use Rattle.std.proofs.Common.{min, length, ap, ◌∙◌, arith}
use Rattle.ncc_tx.proofs.Steps.{step_value, steps_are}
use Rattle.ncc_pack.proofs.Sizes.{greatest}
use Rattle.ncc_tx.proofs.Listed.{item_fits, adds, ends}
use Rattle.ncc_tx.proofs.write.steps_len.Goals as goal

pub step_len-requires : goal.step_len-requires
step_len-requires c =
    item_fits step_value c.args.steps.now 31 c.as_slice-step-items.result.now c.loop-step.step-index c.step-item.result
    (omega arith) c.as_slice-step-items.ensures.same c.loop-step-test.true c.step-item.is (rw (← steps_are c.args.steps.now) c.requires)

pub loop-step-preserved : goal.loop-step-preserved
loop-step-preserved c =
    c.saturating_add-sum.ensures
    ∙ adds step_value c.loop-step.sum c.step_len.result
    (length c.args.steps.now) c.as_slice-step-items.result.now c.loop-step.step-index c.step-item.result c.loop-step-test.true
    c.step-item.is c.loop-step.invariant c.step_len.ensures

pub returns : goal.returns
returns c =
    rw (steps_are c.args.steps.now) (c.loop-step.invariant
    ∙ ap (λ t. min (length t) greatest)
    (ends step_value c.args.steps.now c.as_slice-step-items.result.now c.loop-step.step-index c.as_slice-step-items.ensures.same
    c.loop-step-test.false))
