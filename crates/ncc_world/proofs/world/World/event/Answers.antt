use Rattle.std.proofs.Common.{sym, subst, refl}
use Rattle.ncc_world.specs.Happening.{Happens}
use Rattle.ncc_world.specs.World.{Kept, Stands}
use Rattle.ncc_world.specs.Inner.{kept_of}
use Rattle.ncc_world.proofs.Stepping.{all_stands}
use Rattle.ncc_world.proofs.world.World.event.Goals as goal

pub returns-in-Ok-clause-ok : goal.returns-in-Ok-clause-ok
returns-in-Ok-clause-ok c = λ r k.
    let stands : Stands (kept_of c.self.inside) r = subst (λ (x : Kept). Stands x r) (sym c.self.view_is) k in
    let done = c.in-Ok.ensures.ok r (all_stands c.self.inside r stands) in (
      done.0,
      subst (λ (x : Kept). Happens x.setup c.args.line c.args.event.now r done.0) c.self.view_is done.1,
      record { goes_on = refl; runs_as = done.2.runs_as; drives = done.2.drives; members = done.2.members },
    )
