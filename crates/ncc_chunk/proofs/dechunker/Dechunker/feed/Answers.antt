use Rattle.ncc_chunk.proofs.Handing.{past_stopped}
use Rattle.ncc_chunk.proofs.dechunker.Dechunker.feed.Goals as goal

pub returns-in-Ok-clause-past_limit : goal.returns-in-Ok-clause-past_limit
returns-in-Ok-clause-past_limit c past = c.in-Ok.ensures.stopped (past_stopped c.args.self.now past)
