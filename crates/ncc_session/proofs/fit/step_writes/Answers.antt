use Rattle.std.proofs.Common.{◌∙◌}
use Rattle.ncc_session.proofs.Written.{writes_of}
use Rattle.ncc_session.proofs.fit.step_writes.Goals as goal

pub returns : goal.returns
returns c = c.writes.ensures.exact ∙ writes_of c.args.step.now
