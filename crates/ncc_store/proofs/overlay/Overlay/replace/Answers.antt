use Rattle.std.proofs.Common.{rules, SFits, to_z-of_z, w64}
use Rattle.ncc_store.proofs.Writes.{replaces, replaces_stays}
use Rattle.ncc_store.proofs.overlay.Overlay.replace.Goals as goal

pub invariant_of-self-2 : goal.invariant_of-self-2
invariant_of-self-2 c =
    let fits : SFits w64 c.args.node.id = search rules in
    replaces_stays c.self.inside.base.now c.self.inside.next c.self.inside.written.entries c.insert.new.self.entries c.args.self.now
    c.self.invariant c.self.view_is _ c.args.node (to_z-of_z fits) c.requires.there c.requires.node c.in_ok-insert.ensures.entries
    c.insert.ensures.ordered

pub returns-clause-replaced : goal.returns-clause-replaced
returns-clause-replaced c =
    let fits : SFits w64 c.args.node.id = search rules in
    replaces c.self.inside.base.now c.self.inside.next c.self.inside.written.entries c.insert.new.self.entries c.args.self.now
    c.self.invariant c.self.view_is _ c.args.node (to_z-of_z fits) c.requires.there c.requires.node c.in_ok-insert.ensures.entries
    c.insert.ensures.ordered
    (λ q. c.in_ok-insert.ensures.updates.0 q)
