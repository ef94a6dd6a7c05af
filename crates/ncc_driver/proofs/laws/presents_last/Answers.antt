use Rattle.ncc_driver.proofs.LawsPresenting.{presents_last, keeps_last}
use Rattle.ncc_driver.proofs.laws.presents_last.Goals as goal

pub returns : goal.returns
returns c = record { presents = presents_last; keeps = keeps_last }
