use Rattle.std.proofs.Common.{ap, subst}
use Rattle.ncc_raft.specs.Member.{Member}
use Rattle.ncc_member.specs.Answers.{GoesOn}
use Rattle.ncc_member.specs.Event.{meant}
use Rattle.ncc_member.specs.Journaled.{Journaled}
use Rattle.ncc_member.proofs.Turning.{goes_on}
use Rattle.ncc_member.proofs.node.Node.event.Goals as goal

pub returns-in-Ok-clause-applied : goal.returns-in-Ok-clause-applied
returns-in-Ok-clause-applied g c =
    let agrees = c.self.invariant.up c.if-self.false in
    subst (λ (m : Member). GoesOn m c.turn.new.core.member)
    (ap (λ (n : Journaled g.row.D.Denot). n.member) c.self.view_is)
    (goes_on c.self.inside.core (meant c.args.event) c.turn.new.core.member agrees.core c.requires.comes c.in-Ok.ensures.member)

pub returns-in-Err-Fault-clause-applied : goal.returns-in-Err-Fault-clause-applied
returns-in-Err-Fault-clause-applied g c =
    let agrees = c.self.invariant.up c.if-self.false in
    subst (λ (m : Member). GoesOn m c.turn.new.core.member)
    (ap (λ (n : Journaled g.row.D.Denot). n.member) c.self.view_is)
    (goes_on c.self.inside.core (meant c.args.event) c.turn.new.core.member agrees.core c.requires.comes
    (c.turn.ensures.fault (cc)).1)
