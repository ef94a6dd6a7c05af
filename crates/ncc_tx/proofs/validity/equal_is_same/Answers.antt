use Rattle.ncc_tx.proofs.Decided.{lists_decided}
use Rattle.ncc_tx.proofs.validity.equal_is_same.Goals as goal

pub returns : goal.returns
returns c = record { same = lists_decided }
