use Rattle.ncc_wire.proofs.Causes as causes
use Rattle.ncc_wire.proofs.Ones as ones
use Rattle.ncc_wire.proofs.law.one_refusal.Goals as goal

pub returns : goal.returns
returns c = record { one = ones.one_refusal; never = causes.never }
