use Rattle.std.proofs.lemmas.Result.{err_from_is_err_and}
use Rattle.ncc_wire.specs.declared.kind.Kind.TheVariants as k
use Rattle.ncc_wire.proofs.Bodies.{no_fields_of, plain_of}
use Rattle.ncc_wire.proofs.body.body_at.Goals as goal

pub returns-in_err-vote_ask-in-VoteAsk : goal.returns-in_err-vote_ask-in-VoteAsk
returns-in_err-vote_ask-in-VoteAsk c =
    let p = err_from_is_err_and c.from_residual.result c.from_residual.ensures.1 in
    no_fields_of k.VoteAsk c.args.kind c.args.frame.now c.from_residual.result p.0 c.in_err-vote_ask-in-VoteAsk.field-0.0 c.in-VoteAsk.is
    p.1 p.2
    c.in_err-vote_ask-in-VoteAsk.ensures

pub returns-in_ok-vote_ask-in-VoteAsk : goal.returns-in_ok-vote_ask-in-VoteAsk
returns-in_ok-vote_ask-in-VoteAsk c = plain_of k.VoteAsk c.args.kind c.args.frame.now c.in_ok-vote_ask-in-VoteAsk.field-0 c.in-VoteAsk.is
    c.in_ok-vote_ask-in-VoteAsk.ensures

pub returns-in_err-vote_reply-in-VoteReply : goal.returns-in_err-vote_reply-in-VoteReply
returns-in_err-vote_reply-in-VoteReply c =
    let p = err_from_is_err_and c.from_residual-in_err-vote_reply-in-VoteReply.result
    c.from_residual-in_err-vote_reply-in-VoteReply.ensures.1 in
    no_fields_of k.VoteReply c.args.kind c.args.frame.now c.from_residual-in_err-vote_reply-in-VoteReply.result p.0
    c.in_err-vote_reply-in-VoteReply.field-0.0 c.in-VoteReply.is p.1 p.2
    c.in_err-vote_reply-in-VoteReply.ensures

pub returns-in_ok-vote_reply-in-VoteReply : goal.returns-in_ok-vote_reply-in-VoteReply
returns-in_ok-vote_reply-in-VoteReply c = plain_of k.VoteReply c.args.kind c.args.frame.now c.in_ok-vote_reply-in-VoteReply.field-0
    c.in-VoteReply.is c.in_ok-vote_reply-in-VoteReply.ensures

pub returns-in_err-append_reply-in-AppendReply : goal.returns-in_err-append_reply-in-AppendReply
returns-in_err-append_reply-in-AppendReply c =
    let p = err_from_is_err_and c.from_residual-in_err-append_reply-in-AppendReply.result
    c.from_residual-in_err-append_reply-in-AppendReply.ensures.1 in
    no_fields_of k.AppendReply c.args.kind c.args.frame.now c.from_residual-in_err-append_reply-in-AppendReply.result p.0
    c.in_err-append_reply-in-AppendReply.field-0.0 c.in-AppendReply.is p.1 p.2
    c.in_err-append_reply-in-AppendReply.ensures

pub returns-in_ok-append_reply-in-AppendReply : goal.returns-in_ok-append_reply-in-AppendReply
returns-in_ok-append_reply-in-AppendReply c =
    plain_of k.AppendReply c.args.kind c.args.frame.now c.in_ok-append_reply-in-AppendReply.field-0 c.in-AppendReply.is
    c.in_ok-append_reply-in-AppendReply.ensures

pub returns-in_err-pull-in-Pull : goal.returns-in_err-pull-in-Pull
returns-in_err-pull-in-Pull c =
    let p = err_from_is_err_and c.from_residual-in_err-pull-in-Pull.result c.from_residual-in_err-pull-in-Pull.ensures.1 in
    no_fields_of k.Pull c.args.kind c.args.frame.now c.from_residual-in_err-pull-in-Pull.result p.0 c.in_err-pull-in-Pull.field-0.0
    c.in-Pull.is p.1 p.2
    c.in_err-pull-in-Pull.ensures

pub returns-in_ok-pull-in-Pull : goal.returns-in_ok-pull-in-Pull
returns-in_ok-pull-in-Pull c = plain_of k.Pull c.args.kind c.args.frame.now c.in_ok-pull-in-Pull.field-0 c.in-Pull.is
    c.in_ok-pull-in-Pull.ensures
