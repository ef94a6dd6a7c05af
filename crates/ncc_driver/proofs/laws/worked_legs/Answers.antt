use Rattle.std.proofs.Common.{refl}
use Rattle.ncc_driver.proofs.laws.worked_legs.Goals as goal

pub returns : goal.returns
returns c = record { broken = refl; put = refl; router = (refl, refl) }
