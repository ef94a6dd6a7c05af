use Rattle.std.proofs.Common.{◌∙◌, ap, sym, refl, subst}
use Rattle.std.proofs.lemmas.Result.{on_ok_weaker}
use Rattle.ncc_clients.specs.Run.{Reply, told_to}
use Rattle.ncc_clients.specs.Turn.{Does}
use Rattle.ncc_world.specs.declared.answer.Reply as declared
use Rattle.ncc_world.specs.Setting.{cluster_of}
use Rattle.ncc_world.specs.Parts.{run_in, reply_in, DoesTo}
use Rattle.ncc_world.proofs.Proposing.{sits}
use Rattle.ncc_world.proofs.Fitting.{told_fits}
use Rattle.ncc_world.proofs.running.Running.answer_with.Goals as goal

pub tell-requires-clause-fits : goal.tell-requires-clause-fits
tell-requires-clause-fits c = λ v e.
    let s = c.args.setup.now in
    let k = c.requires.live.runs_as in
    let r = c.requires.live.run in
    let h = sits s (run_in c.args.self.now) r c.args.index v k c.requires.there e in
    told_fits s r v h.seen h.client c.in-Tells.fact h.is
    (sym (c.in_ok-reply_at.ensures.exact r h.client k h.there) ∙ ap (λ (a : declared.Reply). reply_in a) c.in-Tells.is)

pub returns-in-Tells : goal.returns-in-Tells
returns-in-Tells c = record {
  ok = on_ok_weaker c.tell.result (λ f r d k there acting.
      let s = c.args.setup.now in
      let t = told_to c.args.line r c.args.index d c.in-Tells.fact in
      let same = ap (λ (a : declared.Reply). reply_in a) (sym c.in-Tells.is) ∙ c.in_ok-reply_at.ensures.exact r d k there in
      (t, subst (λ (p : Reply). Does (cluster_of s) c.args.line r c.args.index d p t) same refl, f r d k there)) c.tell.ensures.ok;
  lowers = on_ok_weaker c.tell.result (λ l r d k there acting. l) c.tell.ensures.lowers;
  drivers = c.tell.ensures.drivers;
}

pub returns-in-Proposes : goal.returns-in-Proposes
returns-in-Proposes c = record {
  ok = on_ok_weaker c.propose.result (λ f r d k there acting.
      let s = c.args.setup.now in
      let same = ap (λ (a : declared.Reply). reply_in a) (sym c.in-Proposes.is) ∙ c.in_ok-reply_at.ensures.exact r d k there in
      subst (λ (p : Reply). DoesTo s c.args.line r c.args.index d p (run_in c.propose.new.self)) same (f r d k there)) c.propose.ensures.ok;
  lowers = on_ok_weaker c.propose.result (λ l r d k there acting. l) c.propose.ensures.lowers;
  drivers = c.propose.ensures.drivers;
}
