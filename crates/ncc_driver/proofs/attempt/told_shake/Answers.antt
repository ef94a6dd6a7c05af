use Rattle.ncc_driver.proofs.Picking.{not_shake}
use Rattle.ncc_driver.proofs.attempt.told_shake.Goals as goal

pub returns-in_default : goal.returns-in_default
returns-in_default c = not_shake c.args.asked _ c.in_default.not-Shake
