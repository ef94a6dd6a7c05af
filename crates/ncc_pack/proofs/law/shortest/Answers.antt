use Rattle.ncc_pack.proofs.Least.{shortest}
use Rattle.ncc_pack.proofs.law.shortest.Goals as goal

pub returns : goal.returns
returns c = record { least = shortest 32 }
