use Rattle.ncc_tx.proofs.Changes.{leads}
use Rattle.ncc_tx.proofs.kept.change_leads.Goals as goal

pub returns : goal.returns
returns c = record { after = leads }
