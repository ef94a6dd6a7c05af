use Rattle.std.proofs.lemmas.Result.{IfOk-weaker}
use Rattle.ncc_raft.proofs.Electing.{reply_counts_made, reply_other_made, reply_wins_made}
use Rattle.ncc_raft.proofs.election.on_vote_reply.Goals as goal

pub returns-then-not-counts-clause-ok : goal.returns-then-not-counts-clause-ok
returns-then-not-counts-clause-ok c =
    reply_other_made c.args.seat c.args.standing c.args.state.now c.quiet.new.state c.args.from c.args.term c.args.yes c.counts.result
    c.quiet.result c.quiet.ensures.stood c.counts.ensures.exact c.if-not-counts.true

pub returns-then-elects-clause-ok : goal.returns-then-elects-clause-ok
returns-then-elects-clause-ok c =
    IfOk-weaker c.win.result _ _
    (λ s x. reply_wins_made c.args.seat c.args.standing c.args.state.now c.win.new.state c.args.from c.args.term c.args.yes
    c.counts.result c.elects.result s x c.requires.sound c.counts.ensures.exact c.if-not-counts.false c.elects.ensures.exact
    c.if-elects.true) c.win.ensures.ok

pub returns-clause-ok : goal.returns-clause-ok
returns-clause-ok c =
    reply_counts_made c.args.seat c.args.standing c.args.state.now c.quiet-2.new.state c.args.from c.args.term c.args.yes
    c.counts.result c.elects.result c.count.new.self c.quiet-2.result c.quiet-2.ensures.stood c.count.ensures.counted
    c.requires.sound c.counts.ensures.exact c.if-not-counts.false c.elects.ensures.exact c.if-elects.false
