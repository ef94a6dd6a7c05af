use Rattle.std.proofs.Common.{◌≡◌, true}
use Rattle.ncc_driver.specs.Hearing.{Hears}
use Rattle.ncc_driver.specs.Keeping.{core_keeps}
use Rattle.ncc_driver.specs.Fitting.{ends_fit}
use Rattle.ncc_driver.specs.Talk.{StandsAt}
use Rattle.ncc_driver.specs.Work.{job_by}
use Rattle.ncc_driver.proofs.hear.answer_all.Given as goal

-- what was answered so far, and what the work and the core keep
abbrev pub invariant-items : goal.invariant-items
invariant-items g l = record {
  gone : Hears l.config (job_by (g.W.Work.writing l.initial.work) (g.W.Work.steps l.initial.work)) l.now (g.W.Work.stands l.initial.work)
      (g.W.Work.stands l.work) l.initial.core l.initial.link l.initial.queue.items l.core l.link l.queue.items true;
  keeps : core_keeps l.core ≡ true;
  ends : ends_fit l.queue.items ≡ true;
  stands : StandsAt l.core.stage (g.W.Work.stands l.work);
  writing : g.W.Work.writing l.work ≡ g.W.Work.writing l.initial.work;
  steps : g.W.Work.steps l.work ≡ g.W.Work.steps l.initial.work;
}
