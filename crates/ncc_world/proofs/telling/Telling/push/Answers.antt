use Rattle.std.proofs.Common.{IsTrue}
use Rattle.std.proofs.lemmas.List.Elements.{All-push}
use Rattle.ncc_clients.specs.declared.told.Told.{Told}
use Rattle.ncc_world.specs.Spellable.{rows_fit}
use Rattle.ncc_world.proofs.telling.Telling.push.Goals as goal

pub invariant_of-self-2 : goal.invariant_of-self-2
invariant_of-self-2 c = rw c.in_ok-push.ensures.ok (All-push (λ (t : Told). IsTrue (rows_fit t.fact)) _ _ c.self.invariant c.requires.fits)
