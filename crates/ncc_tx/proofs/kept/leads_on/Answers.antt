use Rattle.ncc_tx.proofs.Changes.{leads_after}
use Rattle.ncc_tx.proofs.kept.leads_on.Goals as goal

pub returns : goal.returns
returns c = record { leads = leads_after }
