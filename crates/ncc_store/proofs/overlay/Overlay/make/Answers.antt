use Rattle.std.proofs.Common.{rules, ◌≡◌, pos, ◌+ℤ◌, ◌<ℤ◌, SFits, to_z, of_z, to_z-of_z, w64, ap, sym, ◌∙◌, arith}
use Rattle.std.proofs.lemmas.Int.{ints}
use Rattle.ncc_store.specs.declared.node.StoredNode.{StoredNode}
use Rattle.ncc_store.specs.Exec.{made}
use Rattle.ncc_store.specs.Graph.{last_id}
use Rattle.ncc_store.proofs.Writes.{makes, makes_stays}
use Rattle.ncc_store.proofs.overlay.Overlay.make.Goals as goal

pub invariant_of-self-2 : goal.invariant_of-self-2
invariant_of-self-2 c =
    let fits : SFits w64 c.self.inside.next = search rules in
    let lt : c.self.inside.next <ℤ last_id = omega (arith, ints) in
    let more : to_z w64 (of_z w64 (to_z w64 (of_z w64 c.self.inside.next) +ℤ pos 1)) ≡ c.self.inside.next +ℤ pos 1 = omega (arith, ints) in
    makes_stays c.self.inside.base.now c.self.inside.next c.self.inside.written.entries c.insert.new.self.entries c.args.self.now
    c.self.invariant c.self.view_is _ _ c.in_ok-node.node (to_z-of_z fits) more lt (ap (λ (n : StoredNode). n.id)
    c.in_ok-node.ensures.same ∙ to_z-of_z fits) c.in_ok-node.ensures.is_node c.in_ok-insert.ensures.entries c.insert.ensures.ordered

pub returns-clause-made : goal.returns-clause-made
returns-clause-made c =
    let fits : SFits w64 c.self.inside.next = search rules in
    let lt : c.self.inside.next <ℤ last_id = omega (arith, ints) in
    let more : to_z w64 (of_z w64 (to_z w64 (of_z w64 c.self.inside.next) +ℤ pos 1)) ≡ c.self.inside.next +ℤ pos 1 = omega (arith, ints) in
    ap (λ (n : StoredNode). made n.label n.props c.args.self.now.graph) (sym c.in_ok-node.ensures.same)
    ∙ makes c.self.inside.base.now c.self.inside.next c.self.inside.written.entries c.insert.new.self.entries c.args.self.now
    c.self.invariant c.self.view_is _ _ c.in_ok-node.node (to_z-of_z fits) more lt (ap (λ (n : StoredNode). n.id)
    c.in_ok-node.ensures.same ∙ to_z-of_z fits) c.in_ok-node.ensures.is_node c.in_ok-insert.ensures.entries c.insert.ensures.ordered
    (λ q. c.in_ok-insert.ensures.updates.0 q)
