use Rattle.ncc_log.proofs.Refusals.{apart}
use Rattle.ncc_log.proofs.law.part_or_refusal.Goals as goal

pub returns : goal.returns
returns c = record { apart = apart }
