use Rattle.std.proofs.Common.{sym, ◌∙◌}
use Rattle.std.proofs.lemmas.Result.{on_ok_weaker}
use Rattle.ncc_driver.proofs.Turning.{spent_retries, slept_retries}
use Rattle.ncc_driver.proofs.ends.retry.Goals as goal

pub returns-then-is_spent : goal.returns-then-is_spent
returns-then-is_spent c = record {
  ok = on_ok_weaker c.finish.result
      (spent_retries c.args.core.now _ c.args.now c.args.last _ _ (sym c.is_spent.ensures ∙ c.if-is_spent.true))
      c.finish.ensures.ok;
}

pub returns : goal.returns
returns c = record {
  ok = on_ok_weaker c.sleep.result
      (slept_retries c.args.core.now _ c.args.now c.args.last _ _ (sym c.is_spent.ensures ∙ c.if-is_spent.false))
      c.sleep.ensures.ok;
}
