use Rattle.std.proofs.lemmas.Result.{on_ok_weaker}
use Rattle.ncc_driver.proofs.Joining.{router_some}
use Rattle.ncc_driver.proofs.attempt.join_router.Goals as goal

pub returns-in-Some : goal.returns-in-Some
returns-in-Some c = record {
  ok = on_ok_weaker c.connect.result
      (router_some c.args.config.now c.args.core.now _ _ _ _ _ _ _ c.routers.ensures c.in_ok-router.ensures c.in-Some.is
      c.saturating_add-core.ensures)
      c.connect.ensures.ok;
}
