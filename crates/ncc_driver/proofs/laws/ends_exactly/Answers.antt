use Rattle.ncc_driver.proofs.LawsMoments.{acts_by_moments}
use Rattle.ncc_driver.proofs.LawsSane.{ends_exactly}
use Rattle.ncc_driver.proofs.laws.ends_exactly.Goals as goal

pub returns : goal.returns
returns c = record { acts = acts_by_moments; ends = ends_exactly }
