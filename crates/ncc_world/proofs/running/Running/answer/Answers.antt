use Rattle.std.proofs.Common.{◌<◌, ◌∙◌, sym, length, subst}
use Rattle.std.proofs.lemmas.Result.{on_ok_weaker}
use Rattle.indexmap.specs.IndexMap.{values}
use Rattle.ncc_world.specs.declared.clients.Clients.{Clients}
use Rattle.ncc_world.specs.Parts.{left_in}
use Rattle.ncc_world.proofs.running.Running.answer.Goals as goal

pub answer_with-requires : goal.answer_with-requires
answer_with-requires c =
    let r = c.requires.live.run in
    let k = c.take_earlier-earlier.ensures.runs r c.requires.live.runs_as in
    record {
      live = record { run = r; runs_as = k };
      there = subst (λ (x : Clients). c.args.index < length (values x.table)) (sym c.take_earlier-earlier.ensures.clients) c.requires.there;
      kept = (r, k, c.take_earlier-earlier.ensures.kept r c.requires.live.runs_as);
    }

pub returns : goal.returns
returns c = record {
  ok = on_ok_weaker c.answer_with.result (λ f r d k there acting. f r d (c.take_earlier-earlier.ensures.runs r k) there acting) c.answer_with.ensures.ok;
  lowers = on_ok_weaker c.answer_with.result (λ f r d k there acting.
      subst (λ (x : Clients). left_in c.answer_with.new.self.clients < left_in x) c.take_earlier-earlier.ensures.clients
      (f r d (c.take_earlier-earlier.ensures.runs r k) there acting)) c.answer_with.ensures.lowers;
  drivers = c.answer_with.ensures.drivers ∙ c.take_earlier-earlier.ensures.drivers;
}
