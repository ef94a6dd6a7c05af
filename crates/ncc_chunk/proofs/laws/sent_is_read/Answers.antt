use Rattle.ncc_chunk.proofs.Pieces.{chunks_whole, reads_back}
use Rattle.ncc_chunk.proofs.laws.sent_is_read.Goals as goal

pub returns : goal.returns
returns c = record { chunks = chunks_whole; read = reads_back }
