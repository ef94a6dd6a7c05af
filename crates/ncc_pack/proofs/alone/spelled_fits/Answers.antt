use Rattle.ncc_pack.proofs.Fitted.{spelled_fits}
use Rattle.ncc_pack.proofs.alone.spelled_fits.Goals as goal

pub returns : goal.returns
returns c = record { fitting = spelled_fits 32 }
