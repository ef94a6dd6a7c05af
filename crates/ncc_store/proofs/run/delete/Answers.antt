use Rattle.std.proofs.Common.{rules, ℤ, pos, get_or, SFits, to_z-of_z, w64, refl, ◌∙◌}
use Rattle.ncc_store.proofs.Running.{deleted_more, deleted_done}
use Rattle.ncc_store.proofs.run.delete.Goals as goal

pub loop-id-preserved : goal.loop-id-preserved
loop-id-preserved c =
    let id : ℤ = get_or c.args.ids.now c.loop-id.id-index (pos 0) in
    let fits : SFits w64 id = search rules in
    record {
      so_far = deleted_more c.loop-id.overlay.graph c.delete_one.new.overlay.graph _ c.args.ids.now c.loop-id.id-index _ id
          c.loop-id-test.true refl (to_z-of_z fits) c.in_ok-delete_one.ensures.deleted c.loop-id.invariant.so_far;
      base = c.delete_one.ensures.base ∙ c.loop-id.invariant.base;
    }

pub returns-clause-deleted : goal.returns-clause-deleted
returns-clause-deleted c = deleted_done c.loop-id.overlay.graph _ c.args.ids.now c.loop-id.id-index c.loop-id-test.false
    c.loop-id.invariant.so_far
