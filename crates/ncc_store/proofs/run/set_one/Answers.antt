use Rattle.std.proofs.Common.{ap, sym, ◌∙◌}
use Rattle.std.proofs.Common.{is_some}
use Rattle.ncc_store.specs.Graph.{find}
use Rattle.ncc_store.proofs.Placed.{found_id}
use Rattle.ncc_store.proofs.run.set_one.Goals as goal

pub replace-requires-clause-there : goal.replace-requires-clause-there
replace-requires-clause-there c =
    let same = c.in_ok-node-in-Some.ensures.id ∙ found_id _ c.args.overlay.now.graph.nodes c.in-Some.node.now
    (sym c.in-Some.ensures.found) in
    ap is_some (ap (λ i. find i c.args.overlay.now.graph.nodes) same ∙ sym c.in-Some.ensures.found)
