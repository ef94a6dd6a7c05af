use Rattle.std.proofs.Common.{sym, ◌∙◌, arith}
use Rattle.ncc_tx.specs.Spelled.{rows_value}
use Rattle.ncc_tx.proofs.Listed.{none_fits, all_fit}
use Rattle.ncc_tx.proofs.write.told_fits.Goals as goal

pub returns-then-not-rows_fit : goal.returns-then-not-rows_fit
returns-then-not-rows_fit c =
    none_fits rows_value c.args.told.now 31 c.as_slice-rows-items.result.now c.loop-rows.rows-index c.rows-item.result
    (omega arith) c.as_slice-rows-items.ensures.same c.loop-rows-test.true c.rows-item.is (sym c.rows_fit.ensures ∙ c.if-not-rows_fit.true)

pub returns : goal.returns
returns c =
    all_fit rows_value c.args.told.now 31 c.as_slice-rows-items.result.now c.loop-rows.rows-index (omega arith) (omega (
      arith,
      c.len.ensures.length,
    )) c.as_slice-rows-items.ensures.same c.loop-rows-test.false c.loop-rows.invariant
