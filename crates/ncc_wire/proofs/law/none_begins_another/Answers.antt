use Rattle.ncc_wire.proofs.Alone.{none_begins}
use Rattle.ncc_wire.proofs.law.none_begins_another.Goals as goal

pub returns : goal.returns
returns c = record { none = none_begins }
