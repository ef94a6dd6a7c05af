use Rattle.ncc_raft.proofs.Electing.{timeout_leads_made, timeout_made, timeout_spent_made}
use Rattle.ncc_raft.proofs.election.on_timeout.Goals as goal

pub returns-then-is_leader-clause-ok : goal.returns-then-is_leader-clause-ok
returns-then-is_leader-clause-ok c =
    timeout_leads_made c.args.seat c.args.state.now c.quiet.new.state c.quiet.result c.is_leader.result c.quiet.ensures.stood
    c.is_leader.ensures.exact c.if-is_leader.true

pub returns-then-was-gt-TERM_LIMIT-clause-ok : goal.returns-then-was-gt-TERM_LIMIT-clause-ok
returns-then-was-gt-TERM_LIMIT-clause-ok c =
    timeout_spent_made c.args.seat c.args.state.now c.quiet-then-was-gt-TERM_LIMIT.new.state c.quiet-then-was-gt-TERM_LIMIT.result
    c.is_leader.result c.quiet-then-was-gt-TERM_LIMIT.ensures.stood c.is_leader.ensures.exact c.if-is_leader.false
    c.if-was-gt-TERM_LIMIT.true

pub returns-clause-ok : goal.returns-clause-ok
returns-clause-ok c =
    timeout_made c.args.seat c.args.state.now c.stand.new.state c.stand.result c.is_leader.result c.in_ok-votes.votes c.in_ok-out.out
    c.stand.ensures.stood c.in_ok-votes.ensures.none c.in_ok-out.ensures.letters c.is_leader.ensures.exact c.if-is_leader.false
    c.if-was-gt-TERM_LIMIT.false
