use Rattle.std.proofs.Common.{sym, ◌∙◌, arith}
use Rattle.ncc_pack.specs.declared.value.Value.TheVariants as v
use Rattle.ncc_tx.proofs.Listed.{none_fits, all_fit}
use Rattle.ncc_tx.proofs.write.rows_fit.Goals as goal

pub returns-then-not-values_fit_within : goal.returns-then-not-values_fit_within
returns-then-not-values_fit_within c =
    none_fits v.List c.args.rows.now 30 c.as_slice-row-items.result.now c.loop-row.row-index c.row-item.result
    (omega arith) c.as_slice-row-items.ensures.same c.loop-row-test.true c.row-item.is (sym c.values_fit_within.ensures.exact
    ∙ c.if-not-values_fit_within.true)

pub returns : goal.returns
returns c =
    all_fit v.List c.args.rows.now 30 c.as_slice-row-items.result.now c.loop-row.row-index (omega arith) (omega (
      arith,
      c.len.ensures.length,
    )) c.as_slice-row-items.ensures.same c.loop-row-test.false c.loop-row.invariant
