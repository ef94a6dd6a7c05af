use Rattle.std.proofs.Common.{◌∙◌}
use Rattle.ncc_server.proofs.Ending.{over_idle, over_busy}
use Rattle.ncc_server.proofs.serving.over.Goals as goal

pub returns-then-idle-clause-so : goal.returns-then-idle-clause-so
returns-then-idle-clause-so c =
    over_idle c.args.conn.now c.idle.result c.idle.ensures.same c.if-idle.true (λ e. c.in_default.not-Shaking (c.state.ensures.state ∙
    e)) c.requires.live c.requires.none

pub returns-else-idle-clause-so : goal.returns-else-idle-clause-so
returns-else-idle-clause-so c =
    over_busy c.args.conn.now c.idle.result c.idle.ensures.same c.if-idle.false (λ e. c.in_default.not-Shaking (c.state.ensures.state ∙
    e)) c.requires.live c.requires.none
