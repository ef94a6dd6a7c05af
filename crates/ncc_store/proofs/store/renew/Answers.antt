use Rattle.std.proofs.Common.{◌≡◌, ◌∷◌, List, ap, sym, subst, ◌∙◌}
use Rattle.ncc_store.specs.declared.node.StoredNode.{StoredNode}
use Rattle.ncc_store.specs.Graph.{replace, replaced}
use Rattle.ncc_store.proofs.Placed.{Ascends, ascends_replace}
use Rattle.ncc_store.proofs.store.renew.Goals as goal

one_more : (m : StoredNode) (items rest ns new all : List StoredNode) → items ≡ m ∷ rest → new ≡ replace m ns → replaced items ns ≡ all
    → replaced rest new ≡ all
one_more m items rest ns new all e f h = ap (replaced rest) f ∙ ap (λ (ms : List StoredNode). replaced ms ns) (sym e) ∙ h

pub loop-node-preserved : goal.loop-node-preserved
loop-node-preserved c = record {
  rest = one_more c.in-Some.node c.loop-node.node-iterator.rest.items c.next.new.self.rest.items c.loop-node.nodes c.renew_one.new.nodes
      _ c.in-Some.ensures.steps.0 c.renew_one.ensures c.loop-node.invariant.rest;
  ascends = subst Ascends (sym c.renew_one.ensures) (ascends_replace c.in-Some.node c.loop-node.nodes c.loop-node.invariant.ascends);
}
