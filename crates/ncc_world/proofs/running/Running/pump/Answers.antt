use Rattle.std.proofs.Common.{◌∙◌, ℕ, [], Option, arith, subst}
use Rattle.ncc_world.specs.Parts.{MovesOnce}
use Rattle.ncc_world.proofs.Doing.{within_list}
use Rattle.ncc_world.proofs.Emptying.{has_done, moves_end, moves_step}
use Rattle.ncc_world.proofs.running.Running.pump.Goals as goal

pub pump_once-requires-clause-live : goal.pump_once-requires-clause-live
pump_once-requires-clause-live c =
    let s = c.args.setup.now in
    let at = c.args.index in
    let l = c.requires.live in
    let x = c.loop.invariant.on c.requires.all.run c.requires.all.runs_all in
    let lt = within_list s at [] l.pending c.args.self.now l.run at l.driver l.runs_mid l.there in
    has_done s at c.loop.self x.run x.runs_all (omega (arith, lt, c.loop.invariant.count))

pub returns-in-None : goal.returns-in-None
returns-in-None c = record {
  ok = λ r h.
      let s = c.args.setup.now in
      let x = c.loop.invariant.on r h in
      let m = subst (λ (o : Option (Option ℕ)). MovesOnce s c.args.line c.args.index c.loop.limit x.run o c.pump_once.new.self) c.in-None.is
      (c.in_ok-next.ensures.ok x.run x.runs_all) in
      moves_end s c.args.line c.args.index c.loop.counter c.args.requests c.loop.limit r c.loop.self c.pump_once.new.self x m;
}

pub loop-preserved : goal.loop-preserved
loop-preserved c = record {
  count = c.in_ok-next.ensures.count ∙ c.loop.invariant.count;
  on = λ r h.
      let s = c.args.setup.now in
      let x = c.loop.invariant.on r h in
      let m = subst (λ (o : Option (Option ℕ)). MovesOnce s c.args.line c.args.index c.loop.limit x.run o c.pump_once.new.self) c.in-Some.is
      (c.in_ok-next.ensures.ok x.run x.runs_all) in
      moves_step s c.args.line c.args.index c.loop.counter c.args.requests c.loop.limit c.in-Some.next r c.loop.self c.pump_once.new.self x m;
}
