use Rattle.ncc_chunk.proofs.Framing.{too_long_on}
use Rattle.ncc_chunk.proofs.laws.too_long_stays.Goals as goal

pub returns : goal.returns
returns c = record { stays = too_long_on }
