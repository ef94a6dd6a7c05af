use Rattle.ncc_pack.proofs.Offences.{placed_never, stands}
use Rattle.ncc_pack.proofs.law.placed_refusals.Goals as goal

pub returns-clause-never : goal.returns-clause-never
returns-clause-never c = placed_never

pub returns-clause-stands : goal.returns-clause-stands
returns-clause-stands c = stands
