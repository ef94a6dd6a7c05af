use Rattle.std.proofs.lemmas.Result.{err_from_is_err_and}
use Rattle.ncc_store.proofs.Sums.{term_fails, plus_fails, goes_on, ended}
use Rattle.ncc_store.proofs.sum.added.Goals as goal

pub returns-in_err-value : goal.returns-in_err-value
returns-in_err-value c =
    let p = err_from_is_err_and c.from_residual.result c.from_residual.ensures.1 in
    rw (p.1, p.2) (term_fails _ _ c.args.terms.now c.loop-next.next-index c.next-item.result c.loop-next.total _ c.loop-next-test.true
    c.next-item.is c.loop-next.invariant c.in_err-value.field-0.0 c.in_err-value.ensures)

pub returns-in_err-total : goal.returns-in_err-total
returns-in_err-total c =
    let p = err_from_is_err_and c.from_residual-in_err-total.result c.from_residual-in_err-total.ensures.1 in
    rw (p.1, p.2) (plus_fails _ _ c.args.terms.now c.loop-next.next-index c.next-item.result c.loop-next.total _ c.loop-next-test.true
    c.next-item.is c.loop-next.invariant c.in_ok-value.value c.in_err-total.field-0.0 c.in_ok-value.ensures c.in_err-total.ensures)

pub loop-next-preserved : goal.loop-next-preserved
loop-next-preserved c = goes_on _ _ c.args.terms.now c.loop-next.next-index c.next-item.result c.loop-next.total _ c.loop-next-test.true
    c.next-item.is c.loop-next.invariant c.in_ok-value.value c.in_ok-total.total c.in_ok-value.ensures c.in_ok-total.ensures

pub returns : goal.returns
returns c = ended _ _ c.args.terms.now c.loop-next.next-index c.loop-next.total _ c.loop-next-test.false c.loop-next.invariant
