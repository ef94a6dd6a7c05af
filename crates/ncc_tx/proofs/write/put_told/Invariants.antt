use Rattle.std.proofs.Common.{◌≡◌, ◌≤◌, ◌++◌, length, vec_capacity}
use Rattle.ncc_tx.specs.Spelled.{rows_value}
use Rattle.ncc_pack.specs.Spells.{lists}
use Rattle.ncc_pack.specs.Short.{head}
use Rattle.ncc_tx.proofs.Listed.{spelled_to}
use Rattle.ncc_tx.proofs.write.put_told.Given as goal

abbrev pub invariant-loop-rows : goal.invariant-loop-rows
invariant-loop-rows l = record {
  written : l.into.items ≡ l.fn.into.items ++ (head lists (length l.told) ++ spelled_to rows_value l.rows-index l.rows-items);
  grows : vec_capacity l.fn.into ≤ vec_capacity l.into;
}
