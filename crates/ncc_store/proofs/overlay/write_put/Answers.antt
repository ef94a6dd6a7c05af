use Rattle.std.proofs.Common.{rules, SFits, to_z-of_z, w64}
use Rattle.ncc_store.proofs.Earlier.{put_on}
use Rattle.ncc_store.proofs.overlay.write_put.Goals as goal

pub loop-node-preserved : goal.loop-node-preserved
loop-node-preserved c =
    let fits : SFits w64 c.in-Some.node.id = search rules in
    put_on c.loop-node.written.entries c.insert.new.self.entries _ c.loop-node.node-iterator.rest.items c.next.new.self.rest.items
    c.in-Some.node _ c.in-Some.ensures.steps.0 (to_z-of_z fits) c.in_ok-insert.ensures.entries c.loop-node.invariant
