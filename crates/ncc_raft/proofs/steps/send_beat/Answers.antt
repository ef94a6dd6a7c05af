use Rattle.ncc_raft.proofs.Rules.{beaten_made, beaten_sound}
use Rattle.ncc_raft.proofs.steps.send_beat.Goals as goal

pub returns-clause-ok : goal.returns-clause-ok
returns-clause-ok c =
    beaten_made c.args.seat c.args.state.now c.on_beat.new.state c.settle.new.state c.in_ok-step.step c.in_ok-step.ensures.ok
    c.settle.ensures.settled

pub settle-requires-clause-sound : goal.settle-requires-clause-sound
settle-requires-clause-sound c =
    beaten_sound c.args.seat c.args.state.now c.on_beat.new.state c.in_ok-step.step c.in_ok-step.ensures.ok c.requires.sound
