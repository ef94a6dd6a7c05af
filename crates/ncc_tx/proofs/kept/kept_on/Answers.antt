use Rattle.ncc_tx.proofs.Changes.{kept}
use Rattle.ncc_tx.proofs.kept.kept_on.Goals as goal

pub returns : goal.returns
returns c = record { kept = kept }
