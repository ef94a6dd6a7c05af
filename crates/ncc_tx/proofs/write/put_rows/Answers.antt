use Rattle.std.proofs.Common.{◌<◌, ◌≡◌, ◌+◌, ◌++◌, length, map, vec_capacity, refl, ap, sym, ◌∙◌, arith}
use Rattle.ncc_pack.specs.declared.value.Value.TheVariants as v
use Rattle.ncc_tx.proofs.Pairs.{whole_by}
use Rattle.ncc_tx.specs.Spelled.{rows_value}
use Rattle.ncc_pack.specs.Short.{short}
use Rattle.ncc_tx.specs.Items.{Begins}
use Rattle.ncc_tx.proofs.ItemBytes.{any_error, begins_on}
use Rattle.ncc_tx.proofs.Listed.{ends, full_head, full_item, item_fits, one_put}
use Rattle.ncc_tx.proofs.write.put_rows.Goals as goal

pub returns-in_err-put_head-clause-full : goal.returns-in_err-put_head-clause-full
returns-in_err-put_head-clause-full c =
    any_error c.from_residual.result (vec_capacity c.args.into.now < length c.args.into.now.items + length
    (short (rows_value c.args.rows.now)))
    (full_head v.List c.args.rows.now c.args.rows.now refl c.len.result (vec_capacity c.args.into.now)
    (length c.args.into.now.items) c.len.ensures.length c.in_err-put_head.ensures.full)

pub put_values-requires : goal.put_values-requires
put_values-requires c =
    whole_by c.fits_deeper.ensures.deeper (v.List c.row-item.result)
    (item_fits v.List c.args.rows.now 30 c.as_slice-row-items.result.now c.loop-row.row-index c.row-item.result
    (omega arith) c.as_slice-row-items.ensures.same c.loop-row-test.true c.row-item.is c.requires)

pub returns-in_err-put_values-clause-full : goal.returns-in_err-put_values-clause-full
returns-in_err-put_values-clause-full c =
    any_error c.from_residual-in_err-put_values.result (vec_capacity c.args.into.now < length c.args.into.now.items + length
    (short (rows_value c.args.rows.now)))
    (full_item v.List c.args.rows.now c.as_slice-row-items.result.now c.as_slice-row-items.ensures.same c.loop-row.row-index
    c.row-item.result c.args.into.now.items c.loop-row.into.items (vec_capacity c.args.into.now) (vec_capacity c.loop-row.into)
    c.loop-row-test.true c.row-item.is c.loop-row.invariant.written c.loop-row.invariant.grows c.in_err-put_values.ensures.full)

pub loop-row-preserved : goal.loop-row-preserved
loop-row-preserved c = record {
  written = one_put v.List c.args.into.now.items c.loop-row.into.items c.put_values.new.into.items _ c.as_slice-row-items.result.now
      c.loop-row.row-index c.row-item.result c.loop-row-test.true c.row-item.is c.loop-row.invariant.written
      c.in_ok-put_values.ensures.ok;
  grows = omega (arith, c.loop-row.invariant.grows, c.put_values.ensures.grows);
}

pub returns-clause-ok : goal.returns-clause-ok
returns-clause-ok c =
    c.loop-row.invariant.written
    ∙ ap (λ t. c.args.into.now.items ++ t)
    (ends v.List c.args.rows.now c.as_slice-row-items.result.now c.loop-row.row-index c.as_slice-row-items.ensures.same
    c.loop-row-test.false)

pub returns-in_err-put_values-clause-err : goal.returns-in_err-put_values-clause-err
returns-in_err-put_values-clause-err c =
    any_error c.from_residual-in_err-put_values.result (Begins c.args.into.now.items c.put_values.new.into.items)
    (begins_on c.args.into.now.items c.loop-row.into.items c.put_values.new.into.items _ c.loop-row.invariant.written
    c.in_err-put_values.ensures.err)
