use Rattle.std.proofs.Common.{sym, ◌∙◌}
use Rattle.std.proofs.lemmas.Result.{on_ok_weaker}
use Rattle.ncc_driver.proofs.Turning.{refused}
use Rattle.ncc_driver.proofs.ends.fail.Goals as goal

pub returns : goal.returns
returns c = record {
  ok = on_ok_weaker c.finish.result
      (refused c.args.core.now _ c.args.now c.args.code _ _ _ (sym c.is_transient.ensures ∙ c.if-is_transient.false)
      (sym c.is_no_leader.ensures ∙ c.if-is_no_leader.false) c.in_ok-close.ensures.ok)
      c.finish.ensures.ok;
}
