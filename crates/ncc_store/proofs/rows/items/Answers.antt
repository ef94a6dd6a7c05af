use Rattle.std.proofs.lemmas.Result.{err_from_is_err_and}
use Rattle.ncc_store.proofs.Returns.{item_fails, next_item, all_items}
use Rattle.ncc_store.proofs.rows.items.Goals as goal

pub returns-in_err-item : goal.returns-in_err-item
returns-in_err-item c =
    let p = err_from_is_err_and c.from_residual.result c.from_residual.ensures.1 in
    rw (p.1, p.2) (item_fails _ _ c.as_slice-next-items.result.now c.loop-next.next-index c.next-item.result c.loop-next.values _
    c.loop-next-test.true c.next-item.is c.loop-next.invariant c.in_err-item.field-0.0 c.in_err-item.ensures)

pub loop-next-preserved : goal.loop-next-preserved
loop-next-preserved c =
    rw c.in_ok-push.ensures.ok (next_item _ _ c.as_slice-next-items.result.now c.loop-next.next-index c.next-item.result
    c.loop-next.values _ c.loop-next-test.true c.next-item.is c.loop-next.invariant c.in_ok-item.field-0 c.in_ok-item.ensures)

pub returns : goal.returns
returns c = all_items _ _ c.as_slice-next-items.result.now c.loop-next.next-index c.loop-next.values _ c.loop-next-test.false
    c.loop-next.invariant
