use Rattle.ncc_driver.proofs.Picking.{table_alone}
use Rattle.ncc_driver.proofs.attempt.picked.Goals as goal

pub pick-requires : goal.pick-requires
pick-requires c = record { texts = table_alone _ _ c.in-Some.is c.requires.fits }
