use Rattle.ncc_chunk.proofs.Shaking.{goes_on}
use Rattle.ncc_chunk.proofs.laws.handshake_goes_on.Goals as goal

pub returns : goal.returns
returns c = record { go_on = goes_on }
