use Rattle.ncc_wait.specs.Room.{next}
use Rattle.ncc_wait.proofs.Orders.{found_one}
use Rattle.ncc_wait.proofs.tree.judged.Goals as goal

pub returns-in-NotYet : goal.returns-in-NotYet
unfolding next
returns-in-NotYet c = rw (← c.outcome.ensures.value, c.in-NotYet.is)

pub returns-in_default : goal.returns-in_default
returns-in_default c = found_one c.args.at c.args.now c.args.parked.now c.outcome.result c.outcome.ensures.value c.in_default.not-NotYet
