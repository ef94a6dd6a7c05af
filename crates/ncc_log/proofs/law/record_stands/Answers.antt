use Rattle.ncc_log.proofs.Rows.{stands_on}
use Rattle.ncc_log.proofs.law.record_stands.Goals as goal

pub returns : goal.returns
returns c = record { stands = stands_on }
