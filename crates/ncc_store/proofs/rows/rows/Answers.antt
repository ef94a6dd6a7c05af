use Rattle.std.proofs.Common.{arith}
use Rattle.std.proofs.lemmas.Result.{err_from_is_err_and}
use Rattle.ncc_store.proofs.Returns.{not_few, row_fails, too_many, next_row, all_rows}
use Rattle.ncc_store.proofs.rows.rows.Goals as goal

pub returns-in_err-values : goal.returns-in_err-values
returns-in_err-values c =
    let p = err_from_is_err_and c.from_residual.result c.from_residual.ensures.1 in
    rw (p.1, p.2) (row_fails _ _ c.args.nodes.now c.loop-node.node-index c.node-item.result c.loop-node.rows c.loop-node.count
    c.loop-node.bytes _ c.loop-node-test.true c.node-item.is c.loop-node.invariant.same c.in_err-values.field-0.0
    c.in_err-values.ensures.row)

pub returns-then-count-gt-MAX_ROWS : goal.returns-then-count-gt-MAX_ROWS
returns-then-count-gt-MAX_ROWS c =
    too_many _ _ c.args.nodes.now c.loop-node.node-index c.node-item.result c.loop-node.rows c.loop-node.count c.loop-node.bytes _
    c.loop-node-test.true c.node-item.is c.loop-node.invariant.same c.in_ok-values.values c.in_ok-values.len c.in_ok-values.ensures.row
    c.in_ok-values.ensures.len.0 (not_few _ _ c.then-count-gt-MAX_ROWS.either)

pub loop-node-preserved : goal.loop-node-preserved
loop-node-preserved c = record {
  few = omega arith;
  short = omega arith;
  same = rw c.in_ok-push.ensures.ok (next_row _ _ c.args.nodes.now c.loop-node.node-index c.node-item.result c.loop-node.rows
      c.loop-node.count c.loop-node.bytes _ c.loop-node-test.true c.node-item.is c.loop-node.invariant.same c.in_ok-values.values
      c.in_ok-values.len c.in_ok-values.ensures.row c.in_ok-values.ensures.len.0 (omega arith) (omega arith));
}

pub returns : goal.returns
returns c = all_rows _ _ c.args.nodes.now c.loop-node.node-index c.loop-node.rows c.loop-node.count c.loop-node.bytes _
    c.loop-node-test.false c.loop-node.invariant.same
