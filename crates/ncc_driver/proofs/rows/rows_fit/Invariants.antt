use Rattle.std.proofs.Common.{◌≡◌, true, take}
use Rattle.std.specs.List.{list_all}
use Rattle.ncc_driver.proofs.RowTexts.{row_fits}
use Rattle.ncc_driver.proofs.rows.rows_fit.Given as goal

-- the rows so far fit
abbrev pub invariant-loop-row : goal.invariant-loop-row
invariant-loop-row l = list_all row_fits (take l.row-index l.row-items) ≡ true
