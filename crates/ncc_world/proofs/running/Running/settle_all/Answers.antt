use Rattle.std.proofs.Common.{ap, length}
use Rattle.std.proofs.lemmas.Result.{on_ok_weaker}
use Rattle.ncc_world.specs.declared.drivers.Drivers.{Drivers}
use Rattle.ncc_world.proofs.Aside.{settles_aside, mid_from}
use Rattle.ncc_world.proofs.running.Running.settle_all.Goals as goal

pub returns-clause-ok : goal.returns-clause-ok
returns-clause-ok c = on_ok_weaker c.settle.result (λ f at left pending r k.
    let s = c.args.setup.now in
    let t = f r k.runs_as in (
      t.0,
      t.1,
      mid_from s at left pending c.args.self.now c.settle.new.self r t.0 k t.2 c.settle.ensures.drivers
          (settles_aside s c.args.line r t.0 t.1),
    )) c.settle.ensures.ok

pub returns-clause-count : goal.returns-clause-count
returns-clause-count c = ap (λ (d : Drivers). length d.list.items) c.settle.ensures.drivers
