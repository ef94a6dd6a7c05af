use Rattle.std.proofs.Common.{◌≡◌, ◌-◌, ◌∙◌, ap, sym, Some, arith}
use Rattle.std.specs.Prelude.{slice_get}
use Rattle.std.proofs.lemmas.Option.{slice_get_within}
use Rattle.ncc_clients.specs.Turn.{acts}
use Rattle.ncc_world.specs.Setting.{cluster_of}
use Rattle.ncc_world.specs.Parts.{run_in}
use Rattle.ncc_world.proofs.Turning.{counted}
use Rattle.ncc_world.proofs.Firsts.{found_first, found_none}
use Rattle.ncc_world.proofs.running.Running.turn.Goals as goal

pub returns-in_default-clause-ok : goal.returns-in_default-clause-ok
returns-in_default-clause-ok c = λ r k. (found_none (acts (cluster_of c.args.setup.now) r) r.clients (sym (c.in_default.ensures.first r k)), k)

pub overflow_sub-number : goal.overflow_sub-number
overflow_sub-number c =
    let k = c.requires.live.runs_as in
    let r = c.requires.live.run in
    let f = found_first (acts (cluster_of c.args.setup.now) r) 1 r.clients c.in-Some.number k.clients.numbered (sym (c.in-Some.ensures.first r k)) in
    omega (arith, f.number)

pub answer-requires-clause-there : goal.answer-requires-clause-there
answer-requires-clause-there c =
    let k = c.requires.live.runs_as in
    let r = c.requires.live.run in
    let f = found_first (acts (cluster_of c.args.setup.now) r) 1 r.clients c.in-Some.number k.clients.numbered (sym (c.in-Some.ensures.first r k)) in
    let n = counted c.args.setup.now (run_in c.args.self.now) r k in
    omega (arith, f.number, n.table, slice_get_within r.clients f.index f.client f.there)

pub returns : goal.returns
returns c = record {
  ok = λ r k.
      let f = found_first (acts (cluster_of c.args.setup.now) r) 1 r.clients c.in-Some.number k.clients.numbered (sym (c.in-Some.ensures.first r k)) in
      let same : f.index ≡ c.in-Some.number - 1 = omega (arith, f.number) in
      let there : slice_get r.clients (c.in-Some.number - 1) ≡ Some f.client =
      ap (λ i. slice_get r.clients i) (sym same) ∙ f.there in
      let d = c.in_ok-answer.ensures.ok r f.client k there f.passes in (
        d.0,
        record {
          index = c.in-Some.number - 1;
          client = f.client;
          first = f.first ∙ ap (λ i. Some i) same;
          there = there;
          does = d.1;
        },
        d.2,
      );
  lowers = λ more.
      let k = c.requires.live.runs_as in
      let r = c.requires.live.run in
      let f = found_first (acts (cluster_of c.args.setup.now) r) 1 r.clients c.in-Some.number k.clients.numbered (sym (c.in-Some.ensures.first r k)) in
      let same : f.index ≡ c.in-Some.number - 1 = omega (arith, f.number) in
      c.in_ok-answer.ensures.lowers r f.client k (ap (λ i. slice_get r.clients i) (sym same) ∙ f.there) f.passes;
  drivers = c.in_ok-answer.ensures.drivers;
}
