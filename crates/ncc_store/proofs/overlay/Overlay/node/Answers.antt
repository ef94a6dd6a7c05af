use Rattle.std.proofs.Common.{to_z-of_z, option_copied}
use Rattle.ncc_store.proofs.Seen.{found_below, found_over, node_over, nodes_at}
use Rattle.ncc_store.proofs.overlay.Overlay.node.Goals as goal

pub returns-in-None-clause-found : goal.returns-in-None-clause-found
returns-in-None-clause-found c =
    found_below c.self.inside.base.now c.self.inside.next c.self.inside.written.entries c.args.self.now c.self.invariant c.self.view_is
    _ c.args.id (to_z-of_z c.ranges.id)
    (option_copied c.node.result) c.in-None.ensures.value c.node.ensures.found

pub returns-in-Some-clause-found : goal.returns-in-Some-clause-found
returns-in-Some-clause-found c =
    found_over c.self.inside.base.now c.self.inside.next c.self.inside.written.entries c.args.self.now c.self.invariant c.self.view_is _
    c.args.id (to_z-of_z c.ranges.id)
    (option_copied c.as_ref.result) _ c.in-Some.ensures.value c.as_ref.ensures.value

pub returns-in-Some-clause-node : goal.returns-in-Some-clause-node
returns-in-Some-clause-node c =
    node_over c.self.inside.written.entries _ _ c.as_ref.result (nodes_at c.self.inside.base.now c.self.inside.next
    c.self.inside.written.entries c.self.invariant) c.in-Some.ensures.value c.as_ref.ensures.value
