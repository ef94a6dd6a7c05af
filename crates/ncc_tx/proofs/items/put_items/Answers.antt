use Rattle.std.proofs.Common.{◌≡◌, ◌<◌, ◌+◌, length, vec_capacity}
use Rattle.ncc_tx.specs.Items.{items_bytes}
use Rattle.ncc_tx.proofs.ItemBytes.{any_error, full_on}
use Rattle.ncc_tx.proofs.items.put_items.Goals as goal

pub returns-in_err-put_item-clause-full : goal.returns-in_err-put_item-clause-full
returns-in_err-put_item-clause-full c =
    let init = c.args.into.now in
    let now = c.loop-item.into in
    any_error c.from_residual.result (vec_capacity init < length init.items + length (items_bytes c.args.items.now))
    (full_on c.args.items.now c.loop-item.item-index c.item-item.result init.items now.items (vec_capacity init) (vec_capacity now)
    c.loop-item-test.true c.item-item.is c.loop-item.invariant.written c.loop-item.invariant.grows c.in_err-put_item.ensures.full)
