use Rattle.ncc_tx.proofs.ItemRead.{one_begins}
use Rattle.ncc_tx.proofs.items.one_item.Goals as goal

pub returns : goal.returns
returns c = record { one = λ greatest bytes i j few a b. one_begins c.one_spelling.ensures.one 0 greatest bytes i j few a b }
