use Rattle.std.proofs.Common.{◌∙◌}
use Rattle.ncc_bolt.specs.declared.message.Response.TheVariants as s
use Rattle.ncc_session.specs.Replies.{reply}
use Rattle.ncc_store.specs.Rows.{row_keeps}
use Rattle.ncc_session.proofs.Keeping.{keeps_at}
use Rattle.ncc_session.proofs.Shares.{record_more}
use Rattle.ncc_session.proofs.pulls.put_rows.Goals as goal

pub put_row-requires : goal.put_row-requires
put_row-requires c =
    keeps_at row_keeps c.args.rows.now c.loop-row.row-index c.row-item.result c.loop-row-test.true c.row-item.is c.requires

pub loop-row-preserved : goal.loop-row-preserved
loop-row-preserved c =
    c.in_ok-put_row.ensures.ok ∙ record_more c.loop-row.out c.args.out.now (λ row. reply (s.Row row)) c.args.rows.now
    c.loop-row.row-index c.row-item.result c.loop-row-test.true c.row-item.is c.loop-row.invariant
