use Rattle.std.proofs.Common.{min, length, ap, ◌∙◌, arith}
use Rattle.ncc_pack.specs.declared.value.Value.TheVariants as v
use Rattle.ncc_pack.proofs.Sizes.{greatest}
use Rattle.ncc_tx.proofs.Listed.{item_fits, adds, ends}
use Rattle.ncc_tx.proofs.Pairs.{whole_by}
use Rattle.ncc_tx.proofs.write.rows_len.Goals as goal

pub values_len-requires : goal.values_len-requires
values_len-requires c = record {
  fits =
      whole_by c.fits_deeper.ensures.deeper (v.List c.row-item.result)
      (item_fits v.List c.args.rows.now 30 c.as_slice-row-items.result.now c.loop-row.row-index c.row-item.result
      (omega arith) c.as_slice-row-items.ensures.same c.loop-row-test.true c.row-item.is c.requires);
}

pub loop-row-preserved : goal.loop-row-preserved
loop-row-preserved c =
    c.saturating_add-sum.ensures
    ∙ adds v.List c.loop-row.sum c.values_len.result
    (length c.args.rows.now) c.as_slice-row-items.result.now c.loop-row.row-index c.row-item.result c.loop-row-test.true
    c.row-item.is c.loop-row.invariant c.values_len.ensures.length

pub returns : goal.returns
returns c =
    c.loop-row.invariant ∙ ap (λ t. min (length t) greatest)
    (ends v.List c.args.rows.now c.as_slice-row-items.result.now c.loop-row.row-index c.as_slice-row-items.ensures.same
    c.loop-row-test.false)
