use Rattle.std.proofs.Common.{true, sym, refl, ◌∙◌, inr}
use Rattle.ncc_driver.specs.Work.{job_by}
use Rattle.ncc_driver.specs.Works.{put_steps}
use Rattle.ncc_client.proofs.Named.{not_both}
use Rattle.ncc_client.proofs.words.triple_task.Goals as goal

pub returns-in_err-put_task-in-put-clause-memory : goal.returns-in_err-put_task-in-put-clause-memory
returns-in_err-put_task-in-put-clause-memory c = λ _.
    (job_by true (put_steps c.args.key.now c.args.more.now), inr (sym c.as_str.ensures.same ∙ c.in-put.is, refl))

pub returns-in-add-clause-bad : goal.returns-in-add-clause-bad
returns-in-add-clause-bad c = λ e job h.
    not_both c.args.verb.now _ _ (sym c.as_str.ensures.same ∙ c.in-add.is) (λ k. c.add_task.ensures.bad e job k) h

pub returns-in_ok-put_task-in-put-clause-ok : goal.returns-in_ok-put_task-in-put-clause-ok
returns-in_ok-put_task-in-put-clause-ok c = inr (sym c.as_str.ensures.same ∙ c.in-put.is, c.in_ok-put_task-in-put.ensures.ok)
