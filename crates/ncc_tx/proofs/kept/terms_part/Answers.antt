use Rattle.ncc_tx.proofs.Changes.{parted_by_terms}
use Rattle.ncc_tx.proofs.kept.terms_part.Goals as goal

pub returns : goal.returns
returns c = record { parted = parted_by_terms }
