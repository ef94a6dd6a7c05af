use Rattle.ncc_wire.proofs.Alone.{asked_cut, asked_frame, asked_kind, asked_other}
use Rattle.ncc_wire.proofs.law.worked_frame.Goals as goal

pub returns-clause-frame : goal.returns-clause-frame
returns-clause-frame c = asked_frame

pub returns-clause-kind : goal.returns-clause-kind
returns-clause-kind c = asked_kind

pub returns-clause-cut : goal.returns-clause-cut
returns-clause-cut c = asked_cut

pub returns-clause-other : goal.returns-clause-other
returns-clause-other c = asked_other
