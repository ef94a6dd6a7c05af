use Rattle.ncc_raft.proofs.Rules.{timed_out_made, timed_out_sound}
use Rattle.ncc_raft.proofs.steps.time_out.Goals as goal

pub returns-clause-ok : goal.returns-clause-ok
returns-clause-ok c =
    timed_out_made c.args.seat c.args.state.now c.on_timeout.new.state c.settle.new.state c.in_ok-step.step c.in_ok-step.ensures.ok
    c.settle.ensures.settled

pub settle-requires-clause-sound : goal.settle-requires-clause-sound
settle-requires-clause-sound c =
    timed_out_sound c.args.seat c.args.state.now c.on_timeout.new.state c.in_ok-step.step c.in_ok-step.ensures.ok c.requires.seat
    c.requires.sound
