use Rattle.ncc_pack.proofs.Deeper.{deeper}
use Rattle.ncc_pack.proofs.alone.fits_deeper.Goals as goal

pub returns : goal.returns
returns c = record { deeper = deeper }
