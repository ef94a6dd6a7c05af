use Rattle.ncc_tx.proofs.ItemRead.{one_counted}
use Rattle.ncc_tx.proofs.items.one_list.Goals as goal

pub returns : goal.returns
returns c = record { one = λ is js r s a b e. one_counted c.one_spelling.ensures.one is js r s a b e }
