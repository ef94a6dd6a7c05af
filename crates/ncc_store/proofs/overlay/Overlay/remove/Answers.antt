use Rattle.std.proofs.Common.{to_z-of_z}
use Rattle.ncc_store.proofs.Writes.{removes, removes_stays}
use Rattle.ncc_store.proofs.overlay.Overlay.remove.Goals as goal

pub invariant_of-self-2 : goal.invariant_of-self-2
invariant_of-self-2 c =
    removes_stays c.self.inside.base.now c.self.inside.next c.self.inside.written.entries c.insert.new.self.entries c.args.self.now
    c.self.invariant c.self.view_is _ c.args.id (to_z-of_z c.ranges.id) c.requires.there c.in_ok-insert.ensures.entries
    c.insert.ensures.ordered

pub returns-clause-removed : goal.returns-clause-removed
returns-clause-removed c =
    removes c.self.inside.base.now c.self.inside.next c.self.inside.written.entries c.insert.new.self.entries c.args.self.now
    c.self.invariant c.self.view_is _ c.args.id (to_z-of_z c.ranges.id) c.requires.there c.in_ok-insert.ensures.entries
    c.insert.ensures.ordered
    (λ q. c.in_ok-insert.ensures.updates.0 q)
