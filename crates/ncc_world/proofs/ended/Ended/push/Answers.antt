use Rattle.std.proofs.Common.{IsTrue}
use Rattle.std.proofs.lemmas.List.Elements.{All-push}
use Rattle.ncc_driver.specs.Fitting.{end_fits}
use Rattle.ncc_world.specs.declared.seen.WorkSeen.{WorkSeen}
use Rattle.ncc_world.proofs.ended.Ended.push.Goals as goal

pub invariant_of-self-2 : goal.invariant_of-self-2
invariant_of-self-2 c = rw c.in_ok-push.ensures.ok (All-push (λ (w : WorkSeen). IsTrue (end_fits w.result)) _ _ c.self.invariant c.requires.fits)
