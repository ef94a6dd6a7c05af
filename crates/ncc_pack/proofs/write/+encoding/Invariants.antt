use Rattle.std.proofs.Common.{◌≡◌, ◌+◌, ◌≤◌, ◌++◌, length, take, map}
use Rattle.std.specs.Prelude.{vec_len, vec_capacity}
use Rattle.ncc_pack.specs.Short.{concat, pairs, short, short_pair}
use Rattle.ncc_pack.proofs.write.+encoding.Given as goal

abbrev pub invariant-put_values-loop-value : goal.invariant-put_values-loop-value
invariant-put_values-loop-value l = let done = concat (map short (take l.value-index l.value-items)) in
    (l.into.items ≡ l.initial.into.items ++ done) × (vec_len l.into ≡ vec_len l.initial.into + length done)
    × (vec_capacity l.initial.into ≤ vec_capacity l.into)

abbrev pub invariant-put_dict-loop-pair : goal.invariant-put_dict-loop-pair
invariant-put_dict-loop-pair l = let done = pairs (map short_pair (take l.pair-index l.pair-items)) in
    (l.into.items ≡ l.initial.into.items ++ done) × (vec_len l.into ≡ vec_len l.initial.into + length done)
    × (vec_capacity l.initial.into ≤ vec_capacity l.into)
