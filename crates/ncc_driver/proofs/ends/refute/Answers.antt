use Rattle.std.proofs.Common.{Err}
use Rattle.ncc_driver.specs.declared.action.WorkError.TheVariants as e
use Rattle.ncc_driver.specs.Attempts.{finishes}
use Rattle.std.proofs.lemmas.Result.{on_ok_weaker}
use Rattle.ncc_driver.proofs.Turning.{closed}
use Rattle.ncc_driver.proofs.ends.refute.Goals as goal

pub returns : goal.returns
returns c = record {
  ok = on_ok_weaker c.finish.result
      (closed (λ p. finishes p (Err (e.BadReply c.args.message))) c.args.core.now _ _ _ _ c.in_ok-close.ensures.ok)
      c.finish.ensures.ok;
}
