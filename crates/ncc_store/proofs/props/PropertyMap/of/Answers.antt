use Rattle.std.proofs.Common.{ap, ◌∙◌}
use Rattle.ncc_store.proofs.Drafts.{one_more}
use Rattle.ncc_store.proofs.props.PropertyMap.of.Goals as goal

pub loop-pair-preserved : goal.loop-pair-preserved
loop-pair-preserved c =
    let keyed = rw (← c.as_slice-pair-items.ensures.same) at c.requires in
    let is_key = c.as_str.ensures.same ∙ ap (λ (p : _ × _). p.0) c.pair-item.is in
    let is_value = c.in_ok-copy.ensures.equal ∙ ap (λ (p : _ × _). p.1) c.pair-item.is in
    one_more c.as_slice-pair-items.result.now c.loop-pair.pair-index c.pair-item.result c.loop-pair.pairs.entries
    c.insert.new.self.entries c.as_str.result c.in_ok-copy.field-0 keyed c.loop-pair-test.true is_key is_value
    c.in_ok-insert.ensures.entries c.loop-pair.invariant
