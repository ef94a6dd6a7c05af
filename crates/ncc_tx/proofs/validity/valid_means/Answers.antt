use Rattle.ncc_tx.proofs.Meant.{means}
use Rattle.ncc_tx.proofs.validity.valid_means.Goals as goal

pub returns : goal.returns
returns c = record { means = means }
