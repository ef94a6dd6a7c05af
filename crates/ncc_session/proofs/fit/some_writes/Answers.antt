use Rattle.std.proofs.Common.{sym, ◌∙◌}
use Rattle.ncc_session.proofs.Written.{writes_behind, writes_here}
use Rattle.ncc_session.proofs.fit.some_writes.Goals as goal

pub returns-then-step_writes : goal.returns-then-step_writes
returns-then-step_writes c =
    writes_here c.args.steps.now c.loop-step.step-index c.step-item.result c.loop-step-test.true c.step-item.is c.loop-step.invariant
    (sym c.step_writes.ensures ∙ c.if-step_writes.true)

pub loop-step-preserved : goal.loop-step-preserved
loop-step-preserved c =
    writes_behind c.args.steps.now c.loop-step.step-index c.step-item.result c.loop-step-test.true c.step-item.is c.loop-step.invariant
    (sym c.step_writes.ensures ∙ c.if-step_writes.false)
