use Rattle.ncc_wire.proofs.Answered.{not_refused}
use Rattle.ncc_wire.proofs.law.frame_or_refusal.Goals as goal

pub returns : goal.returns
returns c = record { apart = not_refused }
