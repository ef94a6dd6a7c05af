use Rattle.ncc_driver.proofs.LawsLast.{waits_by_last, goes_on_behind_awaited}
use Rattle.ncc_driver.proofs.laws.waits_by_last.Goals as goal

pub returns : goal.returns
returns c = record { last = waits_by_last; goes_on = goes_on_behind_awaited }
