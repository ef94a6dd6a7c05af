use Rattle.std.proofs.Common.{◌≡◌, ◌++◌, min, length}
use Rattle.ncc_tx.specs.Spelled.{rows_value}
use Rattle.ncc_pack.specs.Spells.{lists}
use Rattle.ncc_pack.specs.Short.{head}
use Rattle.ncc_pack.proofs.Sizes.{greatest}
use Rattle.ncc_tx.proofs.Listed.{spelled_to}
use Rattle.ncc_tx.proofs.write.told_len.Given as goal

abbrev pub invariant-loop-rows : goal.invariant-loop-rows
invariant-loop-rows l = l.sum ≡ min (length (head lists (length l.told) ++ spelled_to rows_value l.rows-index l.rows-items)) greatest
