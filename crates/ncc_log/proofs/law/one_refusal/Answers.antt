use Rattle.ncc_log.proofs.Refusals.{one_refusal}
use Rattle.ncc_log.proofs.law.one_refusal.Goals as goal

pub returns : goal.returns
returns c = record { one = one_refusal }
