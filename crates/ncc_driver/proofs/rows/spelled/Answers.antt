use Rattle.ncc_driver.proofs.RowTexts.{row_alone, spelled_more, spelled_all}
use Rattle.ncc_driver.proofs.rows.spelled.Goals as goal

pub encode_values-requires : goal.encode_values-requires
encode_values-requires c = record {
  fits = row_alone _ _ _ _ c.as_slice-row-items.ensures.same c.loop-row-test.true c.row-item.is c.requires.fits;
}

pub loop-row-preserved : goal.loop-row-preserved
loop-row-preserved c =
    spelled_more _ _ _ _ _ _ c.loop-row-test.true c.row-item.is c.loop-row.invariant c.in_ok-encode_values.ensures.ok

pub returns : goal.returns
returns c = spelled_all _ _ _ _ c.as_slice-row-items.ensures.same c.loop-row-test.false c.loop-row.invariant
