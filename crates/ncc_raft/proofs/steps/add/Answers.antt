use Rattle.ncc_raft.proofs.Rules.{added_made, added_sound}
use Rattle.ncc_raft.proofs.steps.add.Goals as goal

pub returns-clause-ok : goal.returns-clause-ok
returns-clause-ok c =
    added_made c.args.seat c.args.state.now c.on_propose.new.state c.settle.new.state c.args.entry c.in_ok-step.step
    c.in_ok-step.ensures.ok c.settle.ensures.settled

pub settle-requires-clause-sound : goal.settle-requires-clause-sound
settle-requires-clause-sound c =
    added_sound c.args.seat c.args.state.now c.on_propose.new.state c.args.entry c.in_ok-step.step c.in_ok-step.ensures.ok c.requires.seat
    c.requires.sound c.requires.allowed
