use Rattle.std.proofs.Common.{◌∙◌, ap, sym, get_or, ◌-◌, Bool, List, []}
use Rattle.std.proofs.lemmas.Result.{IfOk-weaker}
use Rattle.ncc_tx.specs.declared.entry.Item.{Item}
use Rattle.ncc_session.specs.declared.ask.Ask.{Ask}
use Rattle.ncc_session.specs.declared.ask.Fact.TheVariants.{Routed}
use Rattle.ncc_session.specs.Core.{question_of}
use Rattle.ncc_store.specs.Exec.{call_of}
use Rattle.std.proofs.Common.{map, subst}
use Rattle.ncc_clients.specs.Run.{answers, runs, tells}
use Rattle.ncc_world.specs.Setting.{lists_of, cluster_of, list_at}
use Rattle.ncc_world.specs.Parts.{LeftIn}
use Rattle.ncc_world.proofs.Rerunning.{keeps_nothing}
use Rattle.ncc_world.proofs.answer.answered.Goals as goal

pub rows-requires : goal.rows-requires
rows-requires c = record {
  from = (
    list_at (lists_of c.requires.from.0) c.args.member,
    c.shelf-shelf.ensures.stands c.args.setup.now c.requires.from.0 c.requires.from.1 c.requires.from.2,
    c.requires.from.3 (map call_of c.in-Run.steps) (ap question_of c.in-Run.is),
  );
}

pub returns-in-Run : goal.returns-in-Run
returns-in-Run c = record {
  left = IfOk-weaker c.rows.result _ _ (λ a f seats h k.
      subst (λ (q : Ask). LeftIn (list_at (lists_of seats) c.args.member) (question_of q) a) (sym c.in-Run.is)
      (f (list_at (lists_of seats) c.args.member) (c.shelf-shelf.ensures.stands c.args.setup.now seats h k))) c.rows.ensures.left;
  exact = IfOk-weaker c.rows.result _ _ (λ a f r d k asks.
      let none : List Item = [] in
      f (get_or (lists_of r.members) (c.args.member - 1) none) (c.shelf-shelf.ensures.stands c.args.setup.now r.members r.history k)
      ∙ ap (λ (b : Bool). runs b (get_or (lists_of r.members) (c.args.member - 1) none) (map call_of c.in-Run.steps))
      (c.leads.ensures.leads c.args.setup.now r.members r.history k)
      ∙ ap (λ m. runs ((cluster_of c.args.setup.now).leads r.members m) (get_or (lists_of r.members) (m - 1) none) (map call_of c.in-Run.steps)) asks.member_is
      ∙ ap (λ (q : Ask). answers (cluster_of c.args.setup.now) r d (question_of q)) (sym c.in-Run.is)) c.rows.ensures.exact;
}

pub returns-in-Enter-clause-left : goal.returns-in-Enter-clause-left
returns-in-Enter-clause-left c = λ seats h k. keeps_nothing (list_at (lists_of seats) c.args.member) _ _ c.enter.ensures.nothing

pub returns-in-Leave-clause-left : goal.returns-in-Leave-clause-left
returns-in-Leave-clause-left c = λ seats h k. keeps_nothing (list_at (lists_of seats) c.args.member) _ _ c.leave.ensures.nothing

pub returns-in-Route : goal.returns-in-Route
returns-in-Route c = record {
  left = λ seats h k. tt;
  exact = λ r d k asks.
      ap (λ n. tells (Routed n)) (c.leader.ensures.leader r.members r.history k)
      ∙ ap (λ m. tells (Routed ((cluster_of c.args.setup.now).leader r.members m))) asks.member_is
      ∙ ap (λ (q : Ask). answers (cluster_of c.args.setup.now) r d (question_of q)) (sym c.in-Route.is);
}
