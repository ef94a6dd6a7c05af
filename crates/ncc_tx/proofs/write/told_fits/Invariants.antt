use Rattle.std.proofs.Common.{◌≡◌, true, take}
use Rattle.std.specs.List.{list_all}
use Rattle.ncc_pack.specs.Fits.{fits_within}
use Rattle.ncc_tx.specs.Spelled.{rows_value}
use Rattle.ncc_tx.proofs.write.told_fits.Given as goal

abbrev pub invariant-loop-rows : goal.invariant-loop-rows
invariant-loop-rows l = list_all (λ rows. fits_within (rows_value rows) 30) (take l.rows-index l.rows-items) ≡ true
