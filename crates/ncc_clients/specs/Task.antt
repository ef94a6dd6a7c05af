-- The works that a session may be given, by what they mean.
use Rattle.std.specs.Prelude.{Bool, true, false, List, IsTrue}
use Rattle.std.specs.List.{list_all}
use Rattle.ncc_driver.specs.declared.work.WorkStep.{WorkStep}
use Rattle.ncc_driver.specs.Work.{Row, Job, job_by, rows_fit, step_fits}
use Rattle.ncc_driver.specs.Works.{add_steps, put_steps, get_steps, AddStands, RanStands}
use Rattle.ncc_driver.specs.WorksFit.{add_fits, put_fits, get_fits}
use Rattle.ncc_clients.specs.declared.task.Task.{Task}
use Rattle.ncc_clients.specs.declared.task.Task.TheVariants.{Add, Put, Get}

abbrev pub writing : Task → Bool
writing (Add add) = true
writing (Put put) = true
writing (Get get) = false

abbrev pub steps : Task → List (List Row) → WorkStep
steps (Add add) = add_steps add.key add.by
steps (Put put) = put_steps put.key put.value
steps (Get get) = get_steps get.key

-- It stands behind these rows.
abbrev pub stands : Task → List (List Row) → Type 0
stands (Add add) told = AddStands add.steps add.found told
stands (Put put) told = RanStands put.ran told
stands (Get get) told = RanStands get.ran told

-- the work that it is
abbrev pub job_of : Task → Job
job_of task = job_by (writing task) (steps task)

pub task_fits : (task : Task) (told : List (List Row)) → IsTrue (list_all rows_fit told) → IsTrue (step_fits (steps task told))
task_fits (Add add) told h = add_fits add.key add.by told add.keep add.by_keep h
task_fits (Put put) told h = put_fits put.key put.value told put.keep put.value_keep
task_fits (Get get) told h = get_fits get.key told get.keep
