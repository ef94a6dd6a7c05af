use Rattle.std.proofs.Common.{refl}
use Rattle.ncc_base.proofs.Runs.{draws_00, draws_A8}
use Rattle.ncc_log.proofs.Stopping.{third_of}
use Rattle.ncc_log.proofs.law.worked_stops.Goals as goal

pub returns-clause-drawn : goal.returns-clause-drawn
returns-clause-drawn c = (draws_A8, draws_00)

pub returns-clause-third : goal.returns-clause-third
returns-clause-third c s t = third_of s t

pub returns-clause-second : goal.returns-clause-second
returns-clause-second c word s t = refl
