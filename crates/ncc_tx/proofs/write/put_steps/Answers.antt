use Rattle.std.proofs.Common.{◌<◌, ◌≡◌, ◌+◌, ◌++◌, length, map, vec_capacity, refl, ap, sym, ◌∙◌, arith}
use Rattle.ncc_tx.proofs.Steps.{step_value, steps_are}
use Rattle.ncc_store.specs.Exec.{call_of}
use Rattle.ncc_tx.specs.Spelled.{calls_value}
use Rattle.ncc_pack.specs.Short.{short}
use Rattle.ncc_tx.specs.Items.{Begins}
use Rattle.ncc_tx.proofs.ItemBytes.{any_error, begins_on}
use Rattle.ncc_tx.proofs.Listed.{ends, full_head, full_item, item_fits, one_put}
use Rattle.ncc_tx.proofs.write.put_steps.Goals as goal

pub returns-in_err-put_head-clause-full : goal.returns-in_err-put_head-clause-full
returns-in_err-put_head-clause-full c =
    any_error c.from_residual.result (vec_capacity c.args.into.now < length c.args.into.now.items + length
    (short (calls_value (map call_of c.args.steps.now))))
    (rw (steps_are c.args.steps.now) (full_head step_value c.args.steps.now c.args.steps.now refl c.len.result
    (vec_capacity c.args.into.now)
    (length c.args.into.now.items) c.len.ensures.length c.in_err-put_head.ensures.full))

pub put_step-requires : goal.put_step-requires
put_step-requires c =
    item_fits step_value c.args.steps.now 31 c.as_slice-step-items.result.now c.loop-step.step-index c.step-item.result
    (omega arith) c.as_slice-step-items.ensures.same c.loop-step-test.true c.step-item.is (rw (← steps_are c.args.steps.now) c.requires)

pub returns-in_err-put_step-clause-full : goal.returns-in_err-put_step-clause-full
returns-in_err-put_step-clause-full c =
    any_error c.from_residual-in_err-put_step.result (vec_capacity c.args.into.now < length c.args.into.now.items + length
    (short (calls_value (map call_of c.args.steps.now))))
    (rw (steps_are c.args.steps.now)
    (full_item step_value c.args.steps.now c.as_slice-step-items.result.now c.as_slice-step-items.ensures.same c.loop-step.step-index
    c.step-item.result c.args.into.now.items c.loop-step.into.items (vec_capacity c.args.into.now)
    (vec_capacity c.loop-step.into) c.loop-step-test.true c.step-item.is c.loop-step.invariant.written
    c.loop-step.invariant.grows c.in_err-put_step.ensures.full))

pub loop-step-preserved : goal.loop-step-preserved
loop-step-preserved c = record {
  written = one_put step_value c.args.into.now.items c.loop-step.into.items c.put_step.new.into.items _
      c.as_slice-step-items.result.now c.loop-step.step-index c.step-item.result c.loop-step-test.true c.step-item.is
      c.loop-step.invariant.written c.in_ok-put_step.ensures.ok;
  grows = omega (arith, c.loop-step.invariant.grows, c.put_step.ensures.grows);
}

pub returns-clause-ok : goal.returns-clause-ok
returns-clause-ok c =
    rw (steps_are c.args.steps.now) (c.loop-step.invariant.written
    ∙ ap (λ t. c.args.into.now.items ++ t)
    (ends step_value c.args.steps.now c.as_slice-step-items.result.now c.loop-step.step-index c.as_slice-step-items.ensures.same
    c.loop-step-test.false))

pub returns-in_err-put_step-clause-err : goal.returns-in_err-put_step-clause-err
returns-in_err-put_step-clause-err c =
    any_error c.from_residual-in_err-put_step.result (Begins c.args.into.now.items c.put_step.new.into.items)
    (begins_on c.args.into.now.items c.loop-step.into.items c.put_step.new.into.items _ c.loop-step.invariant.written
    c.in_err-put_step.ensures.err)
