use Rattle.ncc_chunk.proofs.Reading.{reading}
use Rattle.ncc_chunk.proofs.laws.every_stream_reads.Goals as goal

pub returns : goal.returns
returns c = record { reads = reading }
