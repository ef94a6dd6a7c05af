use Rattle.ncc_pack.proofs.Offences.{exactly, none_yet, may}
use Rattle.ncc_pack.proofs.law.short_refusals.Goals as goal

pub returns-clause-exactly : goal.returns-clause-exactly
returns-clause-exactly c = exactly

pub returns-clause-none_yet : goal.returns-clause-none_yet
returns-clause-none_yet c = none_yet

pub returns-clause-may : goal.returns-clause-may
returns-clause-may c = may
