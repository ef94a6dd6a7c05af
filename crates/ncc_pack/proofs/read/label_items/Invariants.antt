use Rattle.std.proofs.Common.{◌≡◌, ◌-◌}
use Rattle.ncc_pack.specs.Reading.{items_at, label_at}
use Rattle.ncc_pack.proofs.Lists.{with_front}
use Rattle.ncc_pack.proofs.read.label_items.Given as goal

abbrev pub invariant-loop : goal.invariant-loop
invariant-loop l = record {
  total : l.cursor.total ≡ l.fn.cursor.total;
  read : with_front l.labels.items (items_at (label_at l.fn.cursor.total) (l.count - l.counter) l.cursor.rest.now)
      ≡ items_at (label_at l.fn.cursor.total) l.count l.fn.cursor.rest.now;
}
