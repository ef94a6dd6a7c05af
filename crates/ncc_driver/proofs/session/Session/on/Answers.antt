use Rattle.std.proofs.Common.{refl}
use Rattle.ncc_driver.specs.Work.{job_by}
use Rattle.ncc_driver.proofs.Talking.{tells_as, stays_as, tell_breaks}
use Rattle.ncc_driver.proofs.session.Session.on.Goals as goal

pub turn-requires-clause-keeps : goal.turn-requires-clause-keeps
turn-requires-clause-keeps g c = (c.self.invariant.1 c.if-self.false).0

pub turn-requires-clause-ends : goal.turn-requires-clause-ends
turn-requires-clause-ends g c = (c.self.invariant.1 c.if-self.false).1

pub returns-in-Ok-clause-ok : goal.returns-in-Ok-clause-ok
returns-in-Ok-clause-ok g c =
    tells_as _ c.args.self.now (job_by (g.W.Work.writing c.args.work.now) (g.W.Work.steps c.args.work.now)) c.args.input c.args.now
    c.turn.new.core c.turn.new.link c.turn.new.queue.items (g.W.Work.stands c.args.work.now) (g.W.Work.stands c.turn.new.work)
    c.self.view_is
    c.in-Ok.ensures.ok

pub returns-in-Ok-clause-stands : goal.returns-in-Ok-clause-stands
returns-in-Ok-clause-stands g c =
    stays_as _ c.args.self.now (job_by (g.W.Work.writing c.args.work.now) (g.W.Work.steps c.args.work.now)) c.args.input c.args.now
    c.turn.new.core c.turn.new.link c.turn.new.queue.items (g.W.Work.stands c.args.work.now) (g.W.Work.stands c.turn.new.work)
    c.self.view_is
    c.in-Ok.ensures.ok

pub returns-clause-err : goal.returns-clause-err
returns-clause-err g c =
    tell_breaks c.args.self.now (job_by (g.W.Work.writing c.args.work.now) (g.W.Work.steps c.args.work.now)) c.args.input c.args.now _ refl
