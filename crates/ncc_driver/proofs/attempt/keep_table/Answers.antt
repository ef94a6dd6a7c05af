use Rattle.std.proofs.lemmas.Result.{on_ok_weaker}
use Rattle.ncc_driver.proofs.Joining.{table_kept}
use Rattle.ncc_driver.proofs.attempt.keep_table.Goals as goal

pub returns : goal.returns
returns c = record {
  ok = on_ok_weaker c.join_server.result
      (table_kept c.args.writes c.args.now c.args.core.now _ c.args.table _ _ _ _ c.in_ok-close.ensures.ok c.in_ok-core.ensures.equal)
      c.join_server.ensures.ok;
}
