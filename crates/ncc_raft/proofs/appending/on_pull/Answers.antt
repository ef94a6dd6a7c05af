use Rattle.ncc_raft.proofs.Appended.{pull_made}
use Rattle.ncc_raft.proofs.appending.on_pull.Goals as goal

pub returns-clause-ok : goal.returns-clause-ok
returns-clause-ok c =
    pull_made c.args.seat c.args.standing c.args.state.now c.stand.new.state c.args.from c.args.have c.in_ok-items.items c.in_ok-out.out
    c.stand.result c.stand.ensures.stood c.in_ok-items.ensures.front c.in_ok-out.ensures.letter
