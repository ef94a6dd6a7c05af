use Rattle.std.proofs.Common.{◌<◌, ◌-◌, sym, ◌∙◌, arith}
use Rattle.ncc_pack.specs.Fits.{fits_within}
use Rattle.ncc_pack.proofs.Fitting.{one_fails, all_pass, list_more, and_false, small_enough}
use Rattle.ncc_pack.proofs.fit.+fitting.Goals as goal

pub list_fits-returns-then-not-value_fits : goal.list_fits-returns-then-not-value_fits
list_fits-returns-then-not-value_fits t c =
    let lt : 0 < c.args.depth = omega arith in
    let none = one_fails (λ x. fits_within x (c.args.depth - 1)) c.args.values.now c.as_slice-value-items.result.now
    c.loop-value.value-index c.value-item.result c.as_slice-value-items.ensures.same c.loop-value-test.true c.value-item.is
    (sym c.value_fits.ensures ∙ c.if-not-value_fits.true) in
    sym (list_more c.args.values.now c.args.depth lt ∙ rw none (and_false _))

pub list_fits-returns : goal.list_fits-returns
list_fits-returns t c =
    let lt : 0 < c.args.depth = omega arith in
    let all = all_pass (λ x. fits_within x (c.args.depth - 1)) c.args.values.now c.as_slice-value-items.result.now
    c.loop-value.value-index c.as_slice-value-items.ensures.same c.loop-value-test.false c.loop-value.invariant in
    sym (list_more c.args.values.now c.args.depth lt ∙ rw all (small_enough _ (omega (arith, c.len.ensures.length))))
