use Rattle.std.proofs.Common.{◌≡◌, ◌≤◌, ◌+◌, ◌-◌, ◌^◌, min, drop, true}
use Rattle.std.specs.List.{list_all}
use Rattle.ncc_store.specs.Rows.{row_keeps, rows_len}
use Rattle.ncc_session.proofs.facts.rows_bytes.Given as goal

abbrev pub invariant-loop-row : goal.invariant-loop-row
invariant-loop-row l = record {
  small : l.sum ≤ 2 ^ 64 - 1;
  good : list_all row_keeps (drop l.row-index l.rows) ≡ true;
  bytes : min (l.sum + rows_len (drop l.row-index l.rows)) (2 ^ 64 - 1) ≡ min (rows_len l.rows) (2 ^ 64 - 1);
}
