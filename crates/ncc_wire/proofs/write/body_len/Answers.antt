use Rattle.std.proofs.Common.{arith}
use Rattle.ncc_wire.proofs.Sizes.{answers_long, append_items, appends_long, asks_long, batch_items, gives_long, pulls_long, votes_long}
use Rattle.ncc_wire.proofs.write.body_len.Goals as goal

pub counted_len-requires : goal.counted_len-requires
counted_len-requires c =
    let f = append_items _ _ _ _ _ _ c.in-Append.is c.requires in
    record { allowed = f.entries; short = omega (arith, f.bytes) }

pub counted_len-requires-in-Batch : goal.counted_len-requires-in-Batch
counted_len-requires-in-Batch c =
    let f = batch_items _ _ _ c.in-Batch.is c.requires in
    record { allowed = f.entries; short = omega (arith, f.bytes) }

pub returns-in-VoteAsk-clause-exact : goal.returns-in-VoteAsk-clause-exact
returns-in-VoteAsk-clause-exact c = asks_long _ _ _ _ c.in-VoteAsk.is

pub returns-in-VoteReply-clause-exact : goal.returns-in-VoteReply-clause-exact
returns-in-VoteReply-clause-exact c = votes_long _ _ _ c.in-VoteReply.is

pub returns-in-Append-clause-exact : goal.returns-in-Append-clause-exact
returns-in-Append-clause-exact c = appends_long _ _ _ _ _ _ _ c.in-Append.is c.counted_len.ensures

pub returns-in-AppendReply-clause-exact : goal.returns-in-AppendReply-clause-exact
returns-in-AppendReply-clause-exact c = answers_long _ _ _ _ c.in-AppendReply.is

pub returns-in-Pull-clause-exact : goal.returns-in-Pull-clause-exact
returns-in-Pull-clause-exact c = pulls_long _ _ c.in-Pull.is

pub returns-in-Batch-clause-exact : goal.returns-in-Batch-clause-exact
returns-in-Batch-clause-exact c = gives_long _ _ _ _ c.in-Batch.is c.counted_len-in-Batch.ensures
