use Rattle.ncc_driver.specs.Work.{job_by}
use Rattle.ncc_driver.proofs.Talking.{work_begins_as}
use Rattle.ncc_driver.proofs.session.Session.begin_work.Goals as goal

pub returns-clause-ok : goal.returns-clause-ok
returns-clause-ok g c =
    work_begins_as _ c.args.self.now (job_by (g.W.Work.writing c.args.work.now) (g.W.Work.steps c.args.work.now)) c.args.now c.self.view_is
