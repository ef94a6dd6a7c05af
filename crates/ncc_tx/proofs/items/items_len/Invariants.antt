use Rattle.std.proofs.Common.{◌≡◌, ◌+◌, min, length, take}
use Rattle.ncc_tx.specs.Items.{items_bytes}
use Rattle.ncc_tx.proofs.ItemBytes.{greatest}
use Rattle.ncc_tx.proofs.items.items_len.Given as goal

abbrev pub invariant-loop-item : goal.invariant-loop-item
invariant-loop-item l = l.sum ≡ min (4 + length (items_bytes (take l.item-index l.items))) greatest
