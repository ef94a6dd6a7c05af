use Rattle.ncc_wire.proofs.Wholes.{framed}
use Rattle.ncc_wire.proofs.law.one_frame.Goals as goal

pub returns : goal.returns
returns c = record { one = λ cluster e bytes f. (framed cluster e bytes f).same }
