use Rattle.std.proofs.lemmas.Result.{IfOk-weaker}
use Rattle.ncc_raft.proofs.Rules.{answer_made, ask_made, batch_made, offer_made, reply_made}
use Rattle.ncc_raft.proofs.steps.on_body.Goals as goal

pub returns-in-VoteAsk-clause-ok : goal.returns-in-VoteAsk-clause-ok
returns-in-VoteAsk-clause-ok c =
    IfOk-weaker c.on_vote_ask.result _ _
    (λ s x. ask_made c.args.seat c.args.standing c.args.state.now c.on_vote_ask.new.state c.args.from _ _ _ c.args.body.now s x
    c.in-VoteAsk.is) c.on_vote_ask.ensures.ok

pub returns-in-VoteReply-clause-ok : goal.returns-in-VoteReply-clause-ok
returns-in-VoteReply-clause-ok c =
    IfOk-weaker c.on_vote_reply.result _ _
    (λ s x. reply_made c.args.seat c.args.standing c.args.state.now c.on_vote_reply.new.state c.args.from _ _ c.args.body.now s x
    c.in-VoteReply.is) c.on_vote_reply.ensures.ok

pub returns-in-Append-clause-ok : goal.returns-in-Append-clause-ok
returns-in-Append-clause-ok c =
    IfOk-weaker c.on_append.result _ _
    (λ s x. offer_made c.args.seat c.args.standing c.args.state.now c.on_append.new.state c.args.from _ _ _ _ _ c.args.body.now s x
    c.in-Append.is) c.on_append.ensures.ok

pub returns-in-AppendReply-clause-ok : goal.returns-in-AppendReply-clause-ok
returns-in-AppendReply-clause-ok c =
    IfOk-weaker c.on_append_reply.result _ _
    (λ s x. answer_made c.args.seat c.args.standing c.args.state.now c.on_append_reply.new.state c.args.from _ _ _ c.args.body.now s x
    c.in-AppendReply.is) c.on_append_reply.ensures.ok

pub returns-in-Batch-clause-ok : goal.returns-in-Batch-clause-ok
returns-in-Batch-clause-ok c =
    batch_made c.args.seat c.args.standing c.args.state.now c.quiet.new.state c.args.from _ _ c.args.body.now c.quiet.result
    c.quiet.ensures.stood c.in-Batch.is
