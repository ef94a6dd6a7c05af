use Rattle.ncc_tx.proofs.Entries.{noop_is}
use Rattle.ncc_tx.proofs.write.noop_allowed.Goals as goal

pub returns : goal.returns
returns c = record { allowed = noop_is }
