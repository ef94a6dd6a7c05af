use Rattle.std.proofs.Common.{subst}
use Rattle.ncc_session.specs.Talk.{Talk, SaysIdle}
use Rattle.ncc_session.proofs.Idles.{says_idle}
use Rattle.ncc_session.proofs.conn.Conn.idle.Goals as goal

pub returns-else-self-clause-same : goal.returns-else-self-clause-same
returns-else-self-clause-same c =
    subst (λ (t : Talk). SaysIdle t c.is_idle.result) c.self.view_is (says_idle _ c.is_idle.result c.is_idle.ensures)
