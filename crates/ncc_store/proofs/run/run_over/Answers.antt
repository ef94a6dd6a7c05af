use Rattle.std.proofs.Common.{List, ◌+◌, drop, map, Ok, sym, ap, ◌∙◌}
use Rattle.std.proofs.lemmas.Result.{err_from_is_err_and}
use Rattle.ncc_pack.specs.declared.value.Value.{Value}
use Rattle.ncc_store.specs.declared.ran.Ran.{Ran}
use Rattle.ncc_store.specs.Delta.{applied}
use Rattle.ncc_store.specs.Graph.{Graph}
use Rattle.ncc_store.specs.Exec.{call_of, behind, exec}
use Rattle.ncc_store.proofs.Running.{steps_end, steps_more, steps_done}
use Rattle.ncc_store.proofs.run.run_over.Goals as goal

pub returns-in_err-step-clause-exact : goal.returns-in_err-step-clause-exact
returns-in_err-step-clause-exact c =
    let p = err_from_is_err_and c.from_residual.result c.from_residual.ensures.1 in
    rw (p.1, p.2)
    (steps_end c.loop-next.rows c.loop-next.overlay.graph c.as_slice-next-items.result.now c.loop-next.next-index c.next-item.result _
    c.loop-next-test.true c.next-item.is c.loop-next.invariant.so_far
    {X = List (List Value)} {Y = Ran} (λ rows. (rows, c.step.new.overlay.graph)) (λ r. record {
      rows = r.rows;
      graph =
          applied r.delta c.args.begin.base;
    }) c.in_err-step.field-0.0 c.in_err-step.ensures.step)

pub loop-next-preserved : goal.loop-next-preserved
loop-next-preserved c = record {
  so_far =
      ap (λ (rows : List (List (List Value))). behind rows (exec c.step.new.overlay.graph
      (map call_of (drop (c.loop-next.next-index + 1) c.as_slice-next-items.result.now)))) c.in_ok-push.ensures.ok
      ∙ steps_more c.loop-next.rows c.loop-next.overlay.graph c.as_slice-next-items.result.now c.loop-next.next-index c.next-item.result
      _ c.loop-next-test.true c.next-item.is c.loop-next.invariant.so_far
      c.in_ok-step.field-0 c.step.new.overlay.graph c.in_ok-step.ensures.step;
  base = c.step.ensures.base ∙ c.loop-next.invariant.base;
}

pub returns-clause-exact : goal.returns-clause-exact
returns-clause-exact c =
    steps_done c.loop-next.rows c.loop-next.overlay.graph c.as_slice-next-items.result.now c.loop-next.next-index _
    c.loop-next-test.false c.loop-next.invariant.so_far
    ∙ ap (λ (g : Graph). Ok (record { rows = c.loop-next.rows; graph = g })) (sym c.in_ok-delta.ensures.applied
    ∙ ap (applied c.in_ok-delta.delta) c.loop-next.invariant.base)
