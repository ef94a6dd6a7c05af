use Rattle.ncc_world.proofs.Worked.{waits_at_deadline, late_past_it, enters_at_once}
use Rattle.ncc_world.proofs.laws.worked_waits.Goals as goal

pub returns : goal.returns
returns c = record { at_deadline = waits_at_deadline; past = late_past_it; reached = enters_at_once }
