use Rattle.std.proofs.Common.{◌≡◌, ◌≤◌, ◌++◌, take, vec_capacity}
use Rattle.ncc_tx.specs.Items.{items_bytes}
use Rattle.ncc_tx.proofs.items.put_items.Given as goal

abbrev pub invariant-loop-item : goal.invariant-loop-item
invariant-loop-item l = record {
  written : l.into.items ≡ l.initial.into.items ++ items_bytes (take l.item-index l.items);
  grows : vec_capacity l.initial.into ≤ vec_capacity l.into;
}
