use Rattle.ncc_chunk.proofs.Handing.{stands_new}
use Rattle.ncc_chunk.proofs.dechunker.Dechunker.new.Goals as goal

pub returns : goal.returns
returns c = record { made = simp (c.new.ensures.items, c.new-2.ensures.items) stands_new }
