use Rattle.std.proofs.Common.{[]}
use Rattle.std.proofs.lemmas.Result.{on_ok_weaker}
use Rattle.ncc_world.proofs.running.Running.happen.Goals as goal

pub settle_all-requires : goal.settle_all-requires
settle_all-requires c =
    let h = c.in_ok-step.ensures.ok c.requires.live.run c.requires.live.runs_all in
    record { live = record { run = h.0; runs_as = h.2.runs_as } }

pub returns : goal.returns
returns c = record {
  ok = on_ok_weaker c.settle_all.result (λ f r k.
      let h = c.in_ok-step.ensures.ok r k in
      let t = f 0 [] [] h.0 h.2 in
      (t.0, record { allowed = c.requires.taken r k; stepped = h.0; steps = h.1; settles = t.1 }, t.2)) c.settle_all.ensures.ok;
}
