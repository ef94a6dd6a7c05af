use Rattle.ncc_world.proofs.Kept_by.{keeps, one}
use Rattle.ncc_world.proofs.laws.every_run_keeps.Goals as goal

pub returns : goal.returns
returns c = record { headline = keeps; one = one }
