use Rattle.std.proofs.Common.{◌≡◌, ℕ, List, [], take, drop}
use Rattle.std.specs.List.{list_any}
use Rattle.std.specs.Str.{bytes_eq}
use Rattle.std.specs.Ordering.{nat_cmp}
use Rattle.std.specs.Cmp.Lexicographic.{slice_cmp}
use Rattle.std.specs.BTreeSet as sorted
use Rattle.ncc_pack.specs.Keys.{keys, distinct}
use Rattle.ncc_pack.proofs.fit.differ_by_set.Given as goal

abbrev pub invariant-loop-pair : goal.invariant-loop-pair
invariant-loop-pair l = (distinct [] l.pair-items ≡ distinct (keys (take l.pair-index l.pair-items)) (drop l.pair-index l.pair-items))
    × ((q : List ℕ) → sorted.contains_by (λ k. slice_cmp nat_cmp q k.now) l.seen
    ≡ list_any (bytes_eq q) (keys (take l.pair-index l.pair-items)))
