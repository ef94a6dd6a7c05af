use Rattle.std.proofs.lemmas.Bool.Decides.{same_from_decides}
use Rattle.ncc_tx.specs.Equal.{equal_lists}
use Rattle.ncc_tx.proofs.Decided.{lists_decided}
use Rattle.ncc_tx.proofs.validity.are_equal.Goals as goal

pub returns : goal.returns
returns c = same_from_decides c.equals.result (equal_lists c.args.told.now c.args.rows.now) c.equals.ensures.exact
    (lists_decided c.args.told.now c.args.rows.now)
