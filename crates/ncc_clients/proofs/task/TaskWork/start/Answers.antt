use Rattle.std.proofs.Common.{sym, ap, ◌∙◌}
use Rattle.ncc_clients.specs.Task.{steps}
use Rattle.ncc_clients.proofs.task.TaskWork.start.Goals as goal

pub returns-in-Add-clause-steps : goal.returns-in-Add-clause-steps
returns-in-Add-clause-steps c = c.start.ensures.steps ∙ ap steps (sym c.in-Add.is)

pub returns-in-Put-clause-steps : goal.returns-in-Put-clause-steps
returns-in-Put-clause-steps c = c.start-in-Put.ensures.steps ∙ ap steps (sym c.in-Put.is)

pub returns-in-Get-clause-steps : goal.returns-in-Get-clause-steps
returns-in-Get-clause-steps c = c.start-in-Get.ensures.steps ∙ ap steps (sym c.in-Get.is)
