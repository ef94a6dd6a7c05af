use Rattle.std.proofs.Common.{◌≡◌, ◌+◌, ◌*◌, ◌-◌, ℕ, List, []}
use Rattle.std.specs.List.{list_any}
use Rattle.std.specs.Str.{bytes_eq}
use Rattle.ncc_pack.specs.Reading.{items_at, pairs_at, value_at}
use Rattle.ncc_pack.proofs.Lists.{with_front}
use Rattle.ncc_pack.proofs.Keyed.{keys, has}
use Rattle.ncc_pack.proofs.read.+reading.Given as goal

abbrev pub invariant-items_of-loop : goal.invariant-items_of-loop
invariant-items_of-loop l = record {
  total : l.cursor.total ≡ l.fn.cursor.total;
  read : with_front l.items.items (items_at (value_at l.fn.cursor.total l.levels) (l.count - l.counter) l.cursor.rest.now)
      ≡ items_at (value_at l.fn.cursor.total l.levels) l.count l.fn.cursor.rest.now;
}

abbrev pub invariant-few_pairs_of-loop : goal.invariant-few_pairs_of-loop
invariant-few_pairs_of-loop l = record {
  total : l.cursor.total ≡ l.fn.cursor.total;
  read : with_front l.pairs.items (pairs_at l.fn.cursor.total (value_at l.fn.cursor.total l.levels) (keys l.pairs.items)
      (l.count - l.counter) l.cursor.rest.now)
      ≡ pairs_at l.fn.cursor.total (value_at l.fn.cursor.total l.levels) [] l.count l.fn.cursor.rest.now;
}

-- the set holds the keys so far
abbrev pub invariant-many_pairs_of-loop : goal.invariant-many_pairs_of-loop
invariant-many_pairs_of-loop l = record {
  total : l.cursor.total ≡ l.fn.cursor.total;
  read : with_front l.pairs.items (pairs_at l.fn.cursor.total (value_at l.fn.cursor.total l.levels) (keys l.pairs.items)
      (l.count - l.counter) l.cursor.rest.now)
      ≡ pairs_at l.fn.cursor.total (value_at l.fn.cursor.total l.levels) [] l.count l.fn.cursor.rest.now;
  seen : (q : List ℕ) → has l.seen q ≡ list_any (bytes_eq q) (keys l.pairs.items);
}

abbrev pub decreases-value_of : goal.decreases-value_of
decreases-value_of l = 6 * l.levels + 4

abbrev pub decreases-node_of : goal.decreases-node_of
decreases-node_of l = 6 * l.levels + 3

abbrev pub decreases-fields_of : goal.decreases-fields_of
decreases-fields_of l = 6 * l.levels + 3

abbrev pub decreases-props_of : goal.decreases-props_of
decreases-props_of l = 6 * l.levels + 2

abbrev pub decreases-dict_of : goal.decreases-dict_of
decreases-dict_of l = 6 * l.levels + 1

abbrev pub decreases-list_of : goal.decreases-list_of
decreases-list_of l = 6 * l.levels + 1

abbrev pub decreases-pairs_of : goal.decreases-pairs_of
decreases-pairs_of l = 6 * l.levels + 6

abbrev pub decreases-items_of : goal.decreases-items_of
decreases-items_of l = 6 * l.levels + 6

abbrev pub decreases-few_pairs_of : goal.decreases-few_pairs_of
decreases-few_pairs_of l = 6 * l.levels + 5

abbrev pub decreases-many_pairs_of : goal.decreases-many_pairs_of
decreases-many_pairs_of l = 6 * l.levels + 5
