use Rattle.std.proofs.Common.{◌≡◌, ◌≤◌, drop, map}
use Rattle.std.specs.Option.{option_copied}
use Rattle.ncc_store.specs.Rows.{rows, max_rows, max_bytes}
use Rattle.ncc_store.proofs.Returns.{with_front}
use Rattle.ncc_store.proofs.rows.rows.Given as goal

-- the rows so far are within the limits, and with the rest they are all
abbrev pub invariant-loop-node : goal.invariant-loop-node
invariant-loop-node l = record {
  few : l.count ≤ max_rows;
  short : l.bytes ≤ max_bytes;
  same : with_front l.rows (rows l.params l.list l.count l.bytes (map option_copied (drop l.node-index l.nodes)))
      ≡ rows l.params l.list 0 0 (map option_copied l.nodes);
}
