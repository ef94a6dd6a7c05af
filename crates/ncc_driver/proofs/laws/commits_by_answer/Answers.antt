use Rattle.ncc_driver.proofs.LawsLegs.{commits_by_answer}
use Rattle.ncc_driver.proofs.laws.commits_by_answer.Goals as goal

pub returns : goal.returns
returns c = record { commits = commits_by_answer }
