use Rattle.std.proofs.Common.{◌∙◌, ap}
use Rattle.ncc_world.specs.World.{Kept}
use Rattle.ncc_world.proofs.Keeping.{seen_all}
use Rattle.ncc_world.proofs.world.World.conns.Goals as goal

pub returns : goal.returns
returns c = record {
  conns = λ r k. ap (λ (w : Kept). w.run.clients.seen) c.self.view_is ∙ seen_all c.args.self.now.setup _ _ r.clients k.runs_as.clients.each;
}
