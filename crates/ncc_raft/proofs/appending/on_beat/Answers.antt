use Rattle.ncc_raft.proofs.Appended.{beat_leads_made, beat_not_made}
use Rattle.ncc_raft.proofs.appending.on_beat.Goals as goal

pub returns-in_ok-out-clause-ok : goal.returns-in_ok-out-clause-ok
returns-in_ok-out-clause-ok c =
    beat_leads_made c.args.seat c.args.state.now c.stand.new.state c.in_ok-out.out c.stand.result c.is_leader.result c.stand.ensures.stood
    c.in_ok-out.ensures.letters c.is_leader.ensures.exact c.if-is_leader.true

pub returns-else-is_leader-clause-ok : goal.returns-else-is_leader-clause-ok
returns-else-is_leader-clause-ok c =
    beat_not_made c.args.seat c.args.state.now c.quiet.new.state c.quiet.result c.is_leader.result c.quiet.ensures.stood
    c.is_leader.ensures.exact c.if-is_leader.false
