use Rattle.std.proofs.Common.{ap, sym, ◌∙◌, ℤ, true, rules}
use Rattle.ncc_driver.specs.Work.{job_by}
use Rattle.ncc_driver.specs.Works.{add_steps}
use Rattle.ncc_client.specs.Words.{job_of}
use Rattle.ncc_client.proofs.Joining.{same_job}
use Rattle.ncc_client.proofs.Ending.{as_job}
use Rattle.ncc_client.proofs.working.run_task.Goals as goal

pub returns-in-Add : goal.returns-in-Add
returns-in-Add g c = record {
  fits = c.run.ensures.fits;
  worked = as_job _ _ _ _ _ _ _
      (same_job _ _ _ _ c.new-work.ensures.writes c.new-work.ensures.steps
      ∙ ap (λ (z : ℤ). job_by true (add_steps c.in-Add.key z)) (search rules) ∙ ap job_of (sym c.in-Add.is))
      c.run.ensures.worked;
}

pub returns-in-Put : goal.returns-in-Put
returns-in-Put g c = record {
  fits = c.run-in-Put.ensures.fits;
  worked = as_job _ _ _ _ _ _ _
      (same_job _ _ _ _ c.new-work-in-Put.ensures.writes c.new-work-in-Put.ensures.steps ∙ ap job_of (sym c.in-Put.is))
      c.run-in-Put.ensures.worked;
}

pub returns-in-Get : goal.returns-in-Get
returns-in-Get g c = record {
  fits = c.run-in-Get.ensures.fits;
  worked = as_job _ _ _ _ _ _ _
      (same_job _ _ _ _ c.new-work-in-Get.ensures.reads c.new-work-in-Get.ensures.steps ∙ ap job_of (sym c.in-Get.is))
      c.run-in-Get.ensures.worked;
}
