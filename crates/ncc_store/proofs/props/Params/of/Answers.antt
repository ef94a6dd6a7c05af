use Rattle.std.proofs.Common.{ap, ◌∙◌}
use Rattle.ncc_store.proofs.Found.{none_yet, one_more, all_held}
use Rattle.ncc_store.proofs.props.Params.of.Goals as goal

pub loop-pair-init : goal.loop-pair-init
loop-pair-init c = none_yet _ _ c.new-places.ensures.empty

pub loop-pair-preserved : goal.loop-pair-preserved
loop-pair-preserved c =
    let fit = rw (← c.as_slice-pair-items.ensures.same) at c.requires in
    let is_key = c.as_str.ensures.same ∙ ap (λ (p : _ × _). p.0) c.pair-item.is in
    one_more c.loop-pair.places c.insert.new.self c.as_str.result _ _ _ c.pair-item.result fit c.loop-pair-test.true is_key
    (ap (λ (p : _ × _). p.1) c.pair-item.is) c.in_ok-insert.ensures.updates c.loop-pair.invariant

pub invariant_of-result : goal.invariant_of-result
invariant_of-result c = rw (← c.as_slice-pair-items.ensures.same) (all_held c.loop-pair.places c.as_slice-pair-items.result.now
    c.loop-pair.pair-index c.loop-pair-test.false c.loop-pair.invariant)
