use Rattle.ncc_raft.proofs.Electing.{vote_no_made, vote_yes_made}
use Rattle.ncc_raft.proofs.election.on_vote_ask.Goals as goal

pub returns-then-yes-clause-ok : goal.returns-then-yes-clause-ok
returns-then-yes-clause-ok c =
    vote_yes_made c.args.seat c.args.standing c.args.state.now c.stand.new.state c.args.from c.args.term c.args.place c.args.last
    c.stand.result c.may_vote-yes.result c.in_ok-out.out c.stand.ensures.stood c.in_ok-out.ensures.letter
    c.may_vote-yes.ensures.exact c.if-yes.true

pub returns-else-yes-clause-ok : goal.returns-else-yes-clause-ok
returns-else-yes-clause-ok c =
    vote_no_made c.args.seat c.args.standing c.args.state.now c.stand-else-yes.new.state c.args.from c.args.term c.args.place c.args.last
    c.stand-else-yes.result c.may_vote-yes.result c.in_ok-out.out c.stand-else-yes.ensures.stood c.in_ok-out.ensures.letter
    c.may_vote-yes.ensures.exact c.if-yes.false
