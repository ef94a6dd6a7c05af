use Rattle.std.proofs.Common.{◌∙◌, ℕ, ℤ, List, ap, sym, subst, true, false, w64}
use Rattle.std.proofs.lemmas.Int.{to_z-of_z}
use Rattle.ncc_driver.specs.declared.work.WorkStep.{WorkStep}
use Rattle.ncc_driver.specs.Work.{Row, job_by}
use Rattle.ncc_driver.specs.Works.{add_steps, put_steps, get_steps}
use Rattle.ncc_world.specs.declared.event.Job.TheVariants.{Add}
use Rattle.ncc_world.specs.Events.{MayBegin}
use Rattle.ncc_world.specs.Happening.{meant}
use Rattle.ncc_world.proofs.Jobs.{has_bits}
use Rattle.ncc_world.proofs.tasks.task.Goals as goal

pub returns-in_ok-copy-in-Add : goal.returns-in_ok-copy-in-Add
returns-in_ok-copy-in-Add c =
    let key = c.in_ok-copy-in-Add.field-0 in
    let may : MayBegin (Add c.in-Add.key c.in-Add.by) = subst MayBegin c.in-Add.is c.requires.may in
    record {
      exact = ap (λ (f : List (List Row) → WorkStep). job_by true f) c.new.ensures.steps
          ∙ ap (λ (z : ℤ). job_by true (add_steps key z)) (to_z-of_z w64 c.in-Add.by (has_bits c.in-Add.by may.1))
          ∙ ap (λ (k : List ℕ). job_by true (add_steps k c.in-Add.by)) c.in_ok-copy-in-Add.ensures.equal ∙ sym (ap meant c.in-Add.is);
    }

pub returns-in_ok-copy-in-Put-2 : goal.returns-in_ok-copy-in-Put-2
returns-in_ok-copy-in-Put-2 c = record {
  exact = ap (λ (f : List (List Row) → WorkStep). job_by true f) c.new-in-Put.ensures.steps
      ∙ ap (λ (k : List ℕ). job_by true (put_steps k c.in_ok-copy-in-Put-2.field-0)) c.in_ok-copy-in-Put.ensures.equal
      ∙ ap (λ (v : List ℕ). job_by true (put_steps c.in-Put.key v)) c.in_ok-copy-in-Put-2.ensures.equal ∙ sym (ap meant c.in-Put.is);
}

pub returns-in_ok-copy-in-Get : goal.returns-in_ok-copy-in-Get
returns-in_ok-copy-in-Get c = record {
  exact = ap (λ (f : List (List Row) → WorkStep). job_by false f) c.new-in-Get.ensures.steps
      ∙ ap (λ (k : List ℕ). job_by false (get_steps k)) c.in_ok-copy-in-Get.ensures.equal ∙ sym (ap meant c.in-Get.is);
}
