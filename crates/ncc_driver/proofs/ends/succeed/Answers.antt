use Rattle.std.proofs.lemmas.Result.{on_ok_weaker}
use Rattle.ncc_driver.proofs.Turning.{succeeded}
use Rattle.ncc_driver.proofs.ends.succeed.Goals as goal

pub returns : goal.returns
returns c = record {
  ok = on_ok_weaker c.finish.result
      (succeeded c.args.core.now _ _ _ _ _ _ _ _ _ _ _ c.in_ok-close.ensures.ok c.bookmark-2.view_is c.new-bookmarks.ensures.empty
      c.in_ok-copy.ensures.equal
      c.in_ok-push.ensures.ok c.in_ok-place_of.ensures c.in_ok-copy-2.ensures.equal)
      c.finish.ensures.ok;
}
