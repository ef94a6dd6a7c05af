use Rattle.std.proofs.Common.{sym, ◌∙◌}
use Rattle.ncc_driver.proofs.RowTexts.{row_unfit, all_rows_fit}
use Rattle.ncc_driver.proofs.rows.rows_fit.Goals as goal

pub returns-then-not-values_fit_within : goal.returns-then-not-values_fit_within
returns-then-not-values_fit_within c = record {
  exact = sym (row_unfit _ _ _ _ c.as_slice-row-items.ensures.same c.loop-row-test.true c.row-item.is
      (sym c.values_fit_within.ensures.exact ∙ c.if-not-values_fit_within.true));
}

pub returns : goal.returns
returns c = record {
  exact = sym (all_rows_fit _ _ _ _ c.as_slice-row-items.ensures.same c.len.ensures.length c.if-len-gt-MAX_SIZE.false c.loop-row-test.false
      c.loop-row.invariant);
}
