use Rattle.std.proofs.Common.{◌≡◌, ◌≤◌, ◌++◌, length, vec_capacity}
use Rattle.ncc_pack.specs.declared.value.Value.TheVariants as v
use Rattle.ncc_pack.specs.Spells.{lists}
use Rattle.ncc_pack.specs.Short.{head}
use Rattle.ncc_tx.proofs.Listed.{spelled_to}
use Rattle.ncc_tx.proofs.write.put_rows.Given as goal

abbrev pub invariant-loop-row : goal.invariant-loop-row
invariant-loop-row l = record {
  written : l.into.items ≡ l.fn.into.items ++ (head lists (length l.rows) ++ spelled_to v.List l.row-index l.row-items);
  grows : vec_capacity l.fn.into ≤ vec_capacity l.into;
}
