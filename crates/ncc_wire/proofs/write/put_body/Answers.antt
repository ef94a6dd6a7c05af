use Rattle.std.proofs.lemmas.Result.{on_ok_weaker}
use Rattle.ncc_wire.proofs.Sizes.{answers_put, appends_put, asks_put, gives_put, pulls_put, votes_put}
use Rattle.ncc_wire.proofs.write.put_body.Goals as goal

pub returns-in_ok-put_number-in-VoteAsk-2-clause-ok : goal.returns-in_ok-put_number-in-VoteAsk-2-clause-ok
returns-in_ok-put_number-in-VoteAsk-2-clause-ok c =
    on_ok_weaker c.put_number-in-VoteAsk-2.result
    (λ e. asks_put c.args.body.now _ _ _ c.args.into.now.items c.put_number.new.into.items c.put_number-in-VoteAsk.new.into.items
    c.put_number-in-VoteAsk-2.new.into.items c.in-VoteAsk.is c.in_ok-put_number-in-VoteAsk.ensures.ok
    c.in_ok-put_number-in-VoteAsk-2.ensures.ok e)
    c.put_number-in-VoteAsk-2.ensures.ok

pub returns-in_ok-put_number-in-VoteReply-clause-ok : goal.returns-in_ok-put_number-in-VoteReply-clause-ok
returns-in_ok-put_number-in-VoteReply-clause-ok c =
    on_ok_weaker c.put_flag.result
    (λ e. votes_put c.args.body.now _ _ c.args.into.now.items c.put_number-in-VoteReply.new.into.items c.put_flag.new.into.items
    c.in-VoteReply.is c.in_ok-put_number-in-VoteReply.ensures.ok e)
    c.put_flag.ensures.ok

pub returns-in_ok-put_number-in-Append-4-clause-ok : goal.returns-in_ok-put_number-in-Append-4-clause-ok
returns-in_ok-put_number-in-Append-4-clause-ok c =
    on_ok_weaker c.put_items.result
    (λ e. appends_put c.args.body.now _ _ _ _ _ c.args.into.now.items c.put_number-in-Append.new.into.items
    c.put_number-in-Append-2.new.into.items c.put_number-in-Append-3.new.into.items c.put_number-in-Append-4.new.into.items
    c.put_items.new.into.items c.in-Append.is c.in_ok-put_number-in-Append.ensures.ok c.in_ok-put_number-in-Append-2.ensures.ok
    c.in_ok-put_number-in-Append-3.ensures.ok c.in_ok-put_number-in-Append-4.ensures.ok e)
    c.put_items.ensures.ok

pub returns-in_ok-put_flag-in-AppendReply-clause-ok : goal.returns-in_ok-put_flag-in-AppendReply-clause-ok
returns-in_ok-put_flag-in-AppendReply-clause-ok c =
    on_ok_weaker c.put_number-in-AppendReply-2.result
    (λ e. answers_put c.args.body.now _ _ _ c.args.into.now.items c.put_number-in-AppendReply.new.into.items
    c.put_flag-in-AppendReply.new.into.items c.put_number-in-AppendReply-2.new.into.items c.in-AppendReply.is
    c.in_ok-put_number-in-AppendReply.ensures.ok c.in_ok-put_flag-in-AppendReply.ensures.ok e)
    c.put_number-in-AppendReply-2.ensures.ok

pub returns-in-Pull-clause-ok : goal.returns-in-Pull-clause-ok
returns-in-Pull-clause-ok c =
    on_ok_weaker c.put_number-in-Pull.result
    (λ e. pulls_put c.args.body.now _ c.args.into.now.items c.put_number-in-Pull.new.into.items c.in-Pull.is e)
    c.put_number-in-Pull.ensures.ok

pub returns-in_ok-put_number-in-Batch-clause-ok : goal.returns-in_ok-put_number-in-Batch-clause-ok
returns-in_ok-put_number-in-Batch-clause-ok c =
    on_ok_weaker c.put_items-in-Batch.result
    (λ e. gives_put c.args.body.now _ _ c.args.into.now.items c.put_number-in-Batch.new.into.items c.put_items-in-Batch.new.into.items
    c.in-Batch.is c.in_ok-put_number-in-Batch.ensures.ok e)
    c.put_items-in-Batch.ensures.ok
