use Rattle.std.proofs.Common.{min, length, ap, ◌∙◌, arith}
use Rattle.ncc_tx.specs.Spelled.{rows_value}
use Rattle.ncc_pack.proofs.Sizes.{greatest}
use Rattle.ncc_tx.proofs.Listed.{item_fits, adds, ends}
use Rattle.ncc_tx.proofs.write.told_len.Goals as goal

pub rows_len-requires : goal.rows_len-requires
rows_len-requires c =
    item_fits rows_value c.args.told.now 31 c.as_slice-rows-items.result.now c.loop-rows.rows-index c.rows-item.result
    (omega arith) c.as_slice-rows-items.ensures.same c.loop-rows-test.true c.rows-item.is c.requires

pub loop-rows-preserved : goal.loop-rows-preserved
loop-rows-preserved c =
    c.saturating_add-sum.ensures
    ∙ adds rows_value c.loop-rows.sum c.rows_len.result
    (length c.args.told.now) c.as_slice-rows-items.result.now c.loop-rows.rows-index c.rows-item.result c.loop-rows-test.true
    c.rows-item.is c.loop-rows.invariant c.rows_len.ensures

pub returns : goal.returns
returns c =
    c.loop-rows.invariant ∙ ap (λ t. min (length t) greatest)
    (ends rows_value c.args.told.now c.as_slice-rows-items.result.now c.loop-rows.rows-index c.as_slice-rows-items.ensures.same
    c.loop-rows-test.false)
