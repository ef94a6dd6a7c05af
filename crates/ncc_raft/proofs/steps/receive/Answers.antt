use Rattle.ncc_raft.proofs.Rules.{received_made, received_sound, unheard_made}
use Rattle.ncc_raft.proofs.steps.receive.Goals as goal

pub returns-then-not-heard-clause-ok : goal.returns-then-not-heard-clause-ok
returns-then-not-heard-clause-ok c =
    unheard_made c.args.seat c.args.state.now c.quiet.new.state c.args.envelope.now c.heard.result c.quiet.result c.quiet.ensures.stood
    c.heard.ensures.exact c.if-not-heard.true

pub settle-requires-clause-sound : goal.settle-requires-clause-sound
settle-requires-clause-sound c =
    received_sound c.args.seat c.lifted-standing.result c.args.state.now c.on_body.new.state c.args.envelope.now c.heard.result
    c.in_ok-step.step c.in_ok-step.ensures.ok c.lifted-standing.ensures.lifted c.requires.seat c.requires.sound c.requires.carried
    c.heard.ensures.exact c.if-not-heard.false

pub returns-clause-ok : goal.returns-clause-ok
returns-clause-ok c =
    received_made c.args.seat c.lifted-standing.result c.args.state.now c.on_body.new.state c.settle.new.state c.args.envelope.now
    c.heard.result c.in_ok-step.step c.in_ok-step.ensures.ok c.lifted-standing.ensures.lifted c.settle.ensures.settled
    c.heard.ensures.exact c.if-not-heard.false
