use Rattle.ncc_tx.proofs.Entries.{one_entry}
use Rattle.ncc_tx.proofs.read.one_spelling.Goals as goal

pub returns : goal.returns
returns c = record { one = one_entry }
