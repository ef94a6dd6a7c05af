use Rattle.ncc_log.proofs.Rows.{saves_kept}
use Rattle.ncc_log.proofs.law.part_may_be_kept.Goals as goal

pub returns : goal.returns
returns c = record { kept = saves_kept }
