use Rattle.ncc_tx.proofs.Changes.{one}
use Rattle.ncc_tx.proofs.kept.one_change.Goals as goal

pub returns : goal.returns
returns c = record { one = one }
