use Rattle.std.proofs.Common.{arith, inr, ap, ◌∙◌}
use Rattle.ncc_log.proofs.Save.{one_saves}
use Rattle.ncc_raft.specs.Core.{Seated}
use Rattle.ncc_raft.specs.Member.{kept}
use Rattle.ncc_member.proofs.Opened.{free_start, long_start, never_long, never_refused, other_start}
use Rattle.ncc_member.proofs.node.Node.recover.Goals as goal

pub returns-in-Err-clause-opens : goal.returns-in-Err-clause-opens
returns-in-Err-clause-opens g c = λ told s saves short. c.in-Err.ensures.opens told s saves

pub returns-in-Err-clause-full : goal.returns-in-Err-clause-full
returns-in-Err-clause-full g c = λ told long. inr (c.in-Err.ensures.opens told long.part long.saves)

pub returns-in-Err-start-clause-opens : goal.returns-in-Err-start-clause-opens
returns-in-Err-start-clause-opens g c = λ told s saves short.
    free_start c.args.cluster c.args.id c.args.limit (g.D.Disk.seen c.args.disk) c.in-Ok.saved (c.in-Ok.ensures.saved told) s
    c.in-Err-start.error saves short c.in-Err-start.ensures.refused

pub returns-in-Err-start-clause-refused : goal.returns-in-Err-start-clause-refused
returns-in-Err-start-clause-refused g c = λ told other.
    other_start c.args.cluster c.args.id c.args.limit (g.D.Disk.seen c.args.disk) c.in-Ok.saved (c.in-Ok.ensures.saved told)
    c.in-Err-start.error c.in-Err-start.ensures.refused other

pub returns-in-Err-start-clause-exact : goal.returns-in-Err-start-clause-exact
returns-in-Err-start-clause-exact g c = λ told e refuses.
    absurd (never_refused c.args.cluster c.args.id c.args.limit (g.D.Disk.seen c.args.disk) c.in-Ok.saved
    (c.in-Ok.ensures.saved told) e (omega arith) refuses)

pub returns-in-Err-start-clause-full : goal.returns-in-Err-start-clause-full
returns-in-Err-start-clause-full g c = λ told long.
    long_start c.args.cluster c.args.id c.args.limit (g.D.Disk.seen c.args.disk) c.in-Ok.saved (c.in-Ok.ensures.saved told)
    c.in-Err-start.error c.in-Err-start.ensures.refused

pub returns-in-Ok-start-clause-opens : goal.returns-in-Ok-start-clause-opens
returns-in-Ok-start-clause-opens g c = λ told s saves short.
    ap (λ (x : Seated). kept x.member) c.in-Ok-start.ensures.started
    ∙ one_saves c.args.cluster c.args.id (g.D.Disk.seen c.args.disk) c.in-Ok.saved s (c.in-Ok.ensures.saved told) saves

pub returns-in-Ok-start-clause-full : goal.returns-in-Ok-start-clause-full
returns-in-Ok-start-clause-full g c = λ told long.
    never_long c.args.cluster c.args.id c.args.limit (g.D.Disk.seen c.args.disk) c.in-Ok.saved (c.in-Ok.ensures.saved told)
    c.in-Ok-start.ensures.kept.1 long
