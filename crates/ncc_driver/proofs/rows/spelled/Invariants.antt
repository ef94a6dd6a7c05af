use Rattle.std.proofs.Common.{◌≡◌, ◌++◌, length, map, take}
use Rattle.ncc_pack.specs.Short.{concat, head}
use Rattle.ncc_pack.specs.Spells.{lists}
use Rattle.ncc_driver.proofs.RowTexts.{short_row}
use Rattle.ncc_driver.proofs.rows.spelled.Given as goal

-- the head, and the rows so far
abbrev pub invariant-loop-row : goal.invariant-loop-row
invariant-loop-row l = l.bytes ≡ head lists (length l.rows) ++ concat (map short_row (take l.row-index l.row-items))
