use Rattle.std.proofs.Common.{rules, SFits, to_z-of_z, w64, ◌∙◌, take_all}
use Rattle.ncc_store.proofs.Legal.{legal_same}
use Rattle.ncc_store.proofs.store.Store.copy.Goals as goal

pub invariant_of-result : goal.invariant_of-result
invariant_of-result c =
    let f : SFits w64 c.self.inside.next = search rules in
    legal_same _ _ _ _ (to_z-of_z f) (c.loop-node.invariant ∙ take_all _ _ c.loop-node-test.false ∙ c.as_slice-node-items.ensures.value)
    c.self.invariant
