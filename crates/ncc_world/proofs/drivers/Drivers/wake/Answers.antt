use Rattle.std.proofs.Common.{◌-◌, arith}
use Rattle.ncc_world.specs.Parts.{drivers_in}
use Rattle.ncc_world.proofs.Sessions.{was_at, woken_kept}
use Rattle.ncc_world.proofs.drivers.Drivers.wake.Goals as goal

pub returns-clause-ok : goal.returns-clause-ok
returns-clause-ok c = λ s now driving d pending there w.
    let k = drivers_in c.args.self.now in
    let old = c.index_mut.result.now in
    let was = was_at k.list (c.args.number - 1) old (omega (arith, c.requires.there.0, c.requires.there.1)) c.index_mut.ensures.value in
    woken_kept s c.args.number pending k now driving old c.wake.new.self d c.requires.there.0 was c.wake.ensures.woken there w
