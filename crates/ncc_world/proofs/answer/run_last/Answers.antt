use Rattle.std.proofs.Common.{◌≡◌, List, [], ◌∷◌, ◌++◌, map, sym, subst}
use Rattle.ncc_store.specs.declared.step.Step.{Step}
use Rattle.ncc_store.specs.Exec.{call_of}
use Rattle.ncc_store.specs.Graph.{Graph}
use Rattle.ncc_tx.specs.State.{state}
use Rattle.ncc_world.specs.Earlier.{Left}
use Rattle.ncc_world.proofs.Rerunning.{last_runs, same_state}
use Rattle.ncc_world.proofs.answer.run_last.Goals as goal

pub run_on-requires : goal.run_on-requires
run_on-requires c =
    let l = c.requires.left in
    record { over = (l.0, l.1, l.5.over) }

pub returns : goal.returns
returns c = record {
  ran = λ h k.
      let l = c.requires.left in
      let here : Left (state h) l.2 c.args.earlier =
      subst (λ (g : Graph). Left g l.2 c.args.earlier) (same_state c.args.shelf.now l.0 h l.1 k) l.5 in
      last_runs (state h) _ l.2 (map call_of c.args.steps.now) (map call_of c.in_ok-last.last) l.3 c.run_on.result l.4
      (c.in_ok-last.ensures l.2 l.3 (subst (λ (ss : List Step). map call_of ss ≡ l.2 ++ l.3 ∷ []) (sym c.as_slice.ensures.same) l.4))
      here
      (c.run_on.ensures.exact h k) (c.run_on.ensures.over h k) (c.run_on.ensures.all h k);
}
