use Rattle.std.proofs.Common.{sym, ap, ◌∙◌}
use Rattle.ncc_pack.proofs.Fitting.{has, not_in_set, is_fresh, one_key_more}
use Rattle.ncc_pack.proofs.fit.differ_by_set.Goals as goal

pub loop-pair-preserved : goal.loop-pair-preserved
loop-pair-preserved c =
    let is = c.as_str.ensures.same ∙ ap (λ (p : _ × _). p.0) c.pair-item.is in
    let absent = not_in_set c.in_ok-insert.field-0 (has c.loop-pair.seen c.as_str.result.now) c.if-not-branch.false
    c.in_ok-insert.ensures.added in
    let new_key = rw is at (sym (c.loop-pair.invariant.1 c.as_str.result.now) ∙ absent) in (
      is_fresh _ _ _ c.loop-pair-test.true c.loop-pair.invariant.0 new_key,
      one_key_more c.loop-pair.seen c.insert.new.self c.as_str.result
          _ _ _ c.loop-pair-test.true is c.in_ok-insert.ensures.updates c.loop-pair.invariant.1,
    )
