use Rattle.ncc_session.proofs.Shares.{all_counted}
use Rattle.ncc_session.proofs.facts.rows_bytes.Goals as goal

pub returns : goal.returns
returns c =
    all_counted c.loop-row.sum c.loop-row.row-index c.args.rows.now c.loop-row-test.false c.loop-row.invariant.small
    c.loop-row.invariant.bytes
