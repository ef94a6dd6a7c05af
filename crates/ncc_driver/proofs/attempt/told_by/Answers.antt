use Rattle.ncc_driver.proofs.Picking.{shaken_told}
use Rattle.ncc_driver.proofs.attempt.told_by.Goals as goal

pub returns-in-Shaken-clause-exact : goal.returns-in-Shaken-clause-exact
returns-in-Shaken-clause-exact c =
    shaken_told c.args.asked c.args.now c.args.core.now.rows _ _ _ _ c.told_shake.ensures c.as_slice.ensures.same c.in-Shaken.is
