use Rattle.ncc_log.proofs.Save.{one_saves}
use Rattle.ncc_log.proofs.law.one_part.Goals as goal

pub returns : goal.returns
returns c = record { one = one_saves }
