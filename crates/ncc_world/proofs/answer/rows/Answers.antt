use Rattle.std.proofs.Common.{◌∙◌, ap, sym, Bool, cond, length, map}
use Rattle.std.proofs.lemmas.Result.{IfOk-weaker}
use Rattle.ncc_store.specs.Exec.{call_of, exec}
use Rattle.ncc_tx.specs.State.{state}
use Rattle.ncc_session.specs.declared.ask.Fact.TheVariants.{Elsewhere}
use Rattle.ncc_clients.specs.Run.{tells, ran}
use Rattle.ncc_world.proofs.answer.rows.Goals as goal

pub returns-then-is_refused : goal.returns-then-is_refused
returns-then-is_refused c = record {
  exact = λ h k.
      ap (λ (b : Bool). cond b (tells Elsewhere) (tells (ran (length h) (exec (state h) (map call_of c.args.steps.now)))))
      (sym c.if-is_refused.true ∙ c.is_refused.ensures);
  left = λ h k. tt;
}

pub returns-clause-exact : goal.returns-clause-exact
returns-clause-exact c = IfOk-weaker c.run.result _ _ (λ a f h k.
    f h k
    ∙ ap (λ (b : Bool). cond b (tells Elsewhere) (tells (ran (length h) (exec (state h) (map call_of c.args.steps.now)))))
    (sym c.if-is_refused.false ∙ c.is_refused.ensures)) c.run.ensures.exact
