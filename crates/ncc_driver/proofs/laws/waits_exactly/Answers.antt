use Rattle.ncc_driver.proofs.LawsWaits.{others_change_nothing, lost_while_linked}
use Rattle.ncc_driver.proofs.laws.waits_exactly.Goals as goal

pub returns-clause-others : goal.returns-clause-others
returns-clause-others c = others_change_nothing

pub returns-clause-lost : goal.returns-clause-lost
returns-clause-lost c = lost_while_linked
