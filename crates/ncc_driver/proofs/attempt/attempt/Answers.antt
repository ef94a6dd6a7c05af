use Rattle.std.proofs.lemmas.Result.{on_ok_weaker}
use Rattle.ncc_driver.proofs.Joining.{server_keeps, router_keeps}
use Rattle.ncc_driver.proofs.attempt.attempt.Goals as goal

pub returns-then-is_fresh-clause-keeps : goal.returns-then-is_fresh-clause-keeps
returns-then-is_fresh-clause-keeps c =
    on_ok_weaker c.join_server.result
    (server_keeps c.args.writes c.args.now c.args.core.now _ _ _ _ _ c.new.ensures.empty c.requires.keeps) c.join_server.ensures.ok

pub returns-else-is_fresh-clause-keeps : goal.returns-else-is_fresh-clause-keeps
returns-else-is_fresh-clause-keeps c =
    on_ok_weaker c.join_router.result
    (router_keeps c.args.config.now c.args.core.now _ _ _ _ _ c.new.ensures.empty c.requires.allowed c.requires.keeps)
    c.join_router.ensures.ok
