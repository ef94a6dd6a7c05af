use Rattle.ncc_driver.proofs.Linking.{takes_some, takes_none}
use Rattle.ncc_driver.proofs.link.Link.take.Goals as goal

pub returns-in-Some : goal.returns-in-Some
returns-in-Some c = record {
  ok = takes_some _ _ _ _ c.in-Some.item c.self.view_is (rw c.in-Some.is at c.in_ok-item.ensures.first)
      (rw c.in-Some.is at c.in_ok-item.ensures.later) c.saturating_add-self-inside.ensures;
}

pub returns-in-None : goal.returns-in-None
returns-in-None c = record {
  ok = takes_none _ _ _ c.self.view_is (rw c.in-None.is at c.in_ok-item.ensures.first) (rw c.in-None.is at c.in_ok-item.ensures.later);
}
