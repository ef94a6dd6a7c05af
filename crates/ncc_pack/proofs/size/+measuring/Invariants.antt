use Rattle.std.proofs.Common.{◌≡◌, ◌++◌, min, length, map, take}
use Rattle.ncc_pack.specs.Spells.{lists, dicts}
use Rattle.ncc_pack.specs.Short.{head, concat, pairs, short, short_pair}
use Rattle.ncc_pack.proofs.Sizes.{greatest}
use Rattle.ncc_pack.proofs.size.+measuring.Given as goal

abbrev pub invariant-values_len-loop-value : goal.invariant-values_len-loop-value
invariant-values_len-loop-value l = l.sum ≡ min (length (head lists (length l.values) ++ concat
    (map short (take l.value-index l.value-items)))) greatest

abbrev pub invariant-dict_len-loop-pair : goal.invariant-dict_len-loop-pair
invariant-dict_len-loop-pair l = l.sum ≡ min (length (head dicts (length l.pairs) ++ pairs
    (map short_pair (take l.pair-index l.pair-items)))) greatest
