use Rattle.std.proofs.Common.{◌≡◌, ◌++◌, min, length}
use Rattle.ncc_pack.specs.declared.value.Value.TheVariants as v
use Rattle.ncc_pack.specs.Spells.{lists}
use Rattle.ncc_pack.specs.Short.{head}
use Rattle.ncc_pack.proofs.Sizes.{greatest}
use Rattle.ncc_tx.proofs.Listed.{spelled_to}
use Rattle.ncc_tx.proofs.write.rows_len.Given as goal

abbrev pub invariant-loop-row : goal.invariant-loop-row
invariant-loop-row l = l.sum ≡ min (length (head lists (length l.rows) ++ spelled_to v.List l.row-index l.row-items)) greatest
