use Rattle.std.proofs.Common.{◌<◌, ◌≡◌, ◌+◌, ◌++◌, length, map, vec_capacity, refl, ap, sym, ◌∙◌, arith}
use Rattle.ncc_tx.specs.Spelled.{rows_value, told_value}
use Rattle.ncc_pack.specs.Short.{short}
use Rattle.ncc_tx.specs.Items.{Begins}
use Rattle.ncc_tx.proofs.ItemBytes.{any_error, begins_on}
use Rattle.ncc_tx.proofs.Listed.{ends, full_head, full_item, item_fits, one_put}
use Rattle.ncc_tx.proofs.write.put_told.Goals as goal

pub returns-in_err-put_head-clause-full : goal.returns-in_err-put_head-clause-full
returns-in_err-put_head-clause-full c =
    any_error c.from_residual.result (vec_capacity c.args.into.now < length c.args.into.now.items + length
    (short (told_value c.args.told.now)))
    (full_head rows_value c.args.told.now c.args.told.now refl c.len.result (vec_capacity c.args.into.now)
    (length c.args.into.now.items) c.len.ensures.length c.in_err-put_head.ensures.full)

pub put_rows-requires : goal.put_rows-requires
put_rows-requires c =
    item_fits rows_value c.args.told.now 31 c.as_slice-rows-items.result.now c.loop-rows.rows-index c.rows-item.result
    (omega arith) c.as_slice-rows-items.ensures.same c.loop-rows-test.true c.rows-item.is c.requires

pub returns-in_err-put_rows-clause-full : goal.returns-in_err-put_rows-clause-full
returns-in_err-put_rows-clause-full c =
    any_error c.from_residual-in_err-put_rows.result (vec_capacity c.args.into.now < length c.args.into.now.items + length
    (short (told_value c.args.told.now)))
    (full_item rows_value c.args.told.now c.as_slice-rows-items.result.now c.as_slice-rows-items.ensures.same c.loop-rows.rows-index
    c.rows-item.result c.args.into.now.items c.loop-rows.into.items (vec_capacity c.args.into.now) (vec_capacity c.loop-rows.into)
    c.loop-rows-test.true c.rows-item.is c.loop-rows.invariant.written c.loop-rows.invariant.grows c.in_err-put_rows.ensures.full)

pub loop-rows-preserved : goal.loop-rows-preserved
loop-rows-preserved c = record {
  written = one_put rows_value c.args.into.now.items c.loop-rows.into.items c.put_rows.new.into.items _
      c.as_slice-rows-items.result.now c.loop-rows.rows-index c.rows-item.result c.loop-rows-test.true c.rows-item.is
      c.loop-rows.invariant.written c.in_ok-put_rows.ensures.ok;
  grows = omega (arith, c.loop-rows.invariant.grows, c.put_rows.ensures.grows);
}

pub returns-clause-ok : goal.returns-clause-ok
returns-clause-ok c =
    c.loop-rows.invariant.written
    ∙ ap (λ t. c.args.into.now.items ++ t)
    (ends rows_value c.args.told.now c.as_slice-rows-items.result.now c.loop-rows.rows-index c.as_slice-rows-items.ensures.same
    c.loop-rows-test.false)

pub returns-in_err-put_rows-clause-err : goal.returns-in_err-put_rows-clause-err
returns-in_err-put_rows-clause-err c =
    any_error c.from_residual-in_err-put_rows.result (Begins c.args.into.now.items c.put_rows.new.into.items)
    (begins_on c.args.into.now.items c.loop-rows.into.items c.put_rows.new.into.items _ c.loop-rows.invariant.written
    c.in_err-put_rows.ensures.err)
