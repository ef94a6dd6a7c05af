use Rattle.std.proofs.Common.{rules, ℤ, pos, get_or, SFits, to_z-of_z, w64, refl, ◌∙◌}
use Rattle.std.proofs.lemmas.Result.{err_from_is_err_and}
use Rattle.ncc_store.proofs.Running.{set_end, set_more, set_done}
use Rattle.ncc_store.proofs.run.set.Goals as goal

pub returns-in_err-set_one-clause-set : goal.returns-in_err-set_one-clause-set
returns-in_err-set_one-clause-set c =
    let id : ℤ = get_or c.args.ids.now c.loop-id.id-index (pos 0) in
    let fits : SFits w64 id = search rules in
    let p = err_from_is_err_and c.from_residual.result c.from_residual.ensures.1 in
    rw (p.1, p.2)
    (set_end {Y = Unit {0}} (λ _. c.set_one.new.overlay.graph) (λ _. c.set_one.new.overlay.graph) c.args.params.now c.args.changes.now
    c.loop-id.overlay.graph c.args.ids.now c.loop-id.id-index _ id _ c.in_err-set_one.field-0.0 c.loop-id-test.true refl
    (to_z-of_z fits) c.loop-id.invariant.so_far c.in_err-set_one.ensures.set)

pub loop-id-preserved : goal.loop-id-preserved
loop-id-preserved c =
    let id : ℤ = get_or c.args.ids.now c.loop-id.id-index (pos 0) in
    let fits : SFits w64 id = search rules in
    record {
      so_far = set_more c.args.params.now c.args.changes.now c.loop-id.overlay.graph c.set_one.new.overlay.graph c.args.ids.now
          c.loop-id.id-index _ id _ c.loop-id-test.true refl (to_z-of_z fits) c.loop-id.invariant.so_far c.in_ok-set_one.ensures.set;
      base = c.set_one.ensures.base ∙ c.loop-id.invariant.base;
    }

pub returns-clause-set : goal.returns-clause-set
returns-clause-set c = set_done c.args.params.now c.args.changes.now c.loop-id.overlay.graph c.args.ids.now c.loop-id.id-index _
    c.loop-id-test.false c.loop-id.invariant.so_far
