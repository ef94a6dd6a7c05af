use Rattle.std.proofs.Common.{refl}
use Rattle.std.proofs.lemmas.Result.{on_ok_weaker}
use Rattle.ncc_driver.proofs.Linking.{fed_line}
use Rattle.ncc_driver.proofs.link.Link.feed.Goals as goal

pub returns : goal.returns
returns c = record {
  ok = on_ok_weaker c.feed.result
      (λ f. fed_line _ _ _ _ _ _ _ _ _ c.self.view_is c.min.ensures c.saturating_sub-want.ensures c.len.ensures.length
      c.split_at.ensures.front c.split_at.ensures.back c.in_ok-extend.ensures.ok f refl)
      c.feed.ensures.ok;
}
