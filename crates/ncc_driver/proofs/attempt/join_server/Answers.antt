use Rattle.std.proofs.lemmas.Result.{on_ok_weaker}
use Rattle.ncc_driver.proofs.Joining.{server_some, server_none}
use Rattle.ncc_driver.proofs.attempt.join_server.Goals as goal

pub returns-in-Some : goal.returns-in-Some
returns-in-Some c = record {
  ok = on_ok_weaker c.connect.result
      (server_some c.args.writes c.args.now c.args.core.now _ _ _ _ _ _ _ _ c.role_of-role.ensures c.next_word-word.ensures
      c.in_ok-address.ensures c.in-Some.is)
      c.connect.ensures.ok;
}

pub returns-in-None : goal.returns-in-None
returns-in-None c = record {
  ok = on_ok_weaker c.retry.result
      (server_none c.args.writes c.args.now c.args.core.now _ _ _ _ _ _ _ c.role_of-role.ensures c.next_word-word.ensures
      c.in_ok-address.ensures c.in-None.is)
      c.retry.ensures.ok;
}
