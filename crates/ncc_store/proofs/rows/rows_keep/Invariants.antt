use Rattle.std.proofs.Common.{◌≡◌, ◌+◌, ◌*◌, ◌≤◌, ◌&&◌, true, take, drop}
use Rattle.std.specs.List.{list_all}
use Rattle.ncc_store.specs.Rows.{row_keeps, rows_len, max_row}
use Rattle.ncc_store.proofs.rows.rows_keep.Given as goal

abbrev pub invariant-loop-row : goal.invariant-loop-row
invariant-loop-row l = record {
  so_far : list_all row_keeps (drop l.row-index l.row-items) ≡ list_all row_keeps l.rows;
  bytes : l.bytes + rows_len (drop l.row-index l.row-items) ≡ rows_len l.rows;
  small : l.bytes ≤ l.row-index * max_row;
}
