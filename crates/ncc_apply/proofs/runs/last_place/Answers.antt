use Rattle.ncc_apply.proofs.Unrolled.{last_none, last_some}
use Rattle.ncc_apply.proofs.runs.last_place.Goals as goal

pub returns-in-None : goal.returns-in-None
returns-in-None c = last_none c.args.runs.now c.in-None.ensures.value

pub returns-in-Some : goal.returns-in-Some
returns-in-Some c = last_some c.args.runs.now c.in-Some.run'.now c.in-Some.ensures.value
