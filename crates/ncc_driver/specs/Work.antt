-- Works: what they are told, and which rows and steps have a spelling.
use Rattle.std.specs.Prelude.{Bool, true, ◌&&◌, List, map}
use Rattle.ncc_pack.specs.declared.value.Value.{Value}
use Rattle.ncc_pack.specs.declared.value.Value.TheVariants as v
use Rattle.ncc_pack.specs.Fits.{fits}
use Rattle.ncc_driver.specs.declared.work.WorkStep.{WorkStep}
use Rattle.ncc_driver.specs.declared.work.WorkStep.TheVariants.{Run, Commit}

-- a row of values
abbrev pub Row : Type 0
Row = List Value

-- The rows of a step fit as one list of rows.
abbrev pub rows_fit : List Row → Bool
rows_fit rows = fits (v.List (map v.List rows))

-- A statement and its parameters have a spelling.
abbrev pub step_fits : WorkStep → Bool
step_fits (Run query params) = fits (v.Text query) && fits (v.Dict params)
step_fits Commit = true

-- A work by what it means: whether it writes, and its step behind each list of rows.
pub record Job : Type 0 where
  pub writes : Bool
  pub steps : List (List Row) → WorkStep

abbrev pub job_by : Bool → (List (List Row) → WorkStep) → Job
job_by writes steps = record { writes = writes; steps = steps }
