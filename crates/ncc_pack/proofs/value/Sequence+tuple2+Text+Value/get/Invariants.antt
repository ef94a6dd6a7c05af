use Rattle.std.proofs.Common.{◌≡◌, drop}
use Rattle.std.specs.Map.{lookup}
use Rattle.std.specs.Str.{bytes_eq}
use Rattle.ncc_pack.proofs.value.Sequence+tuple2+Text+Value.get.Given as goal

-- no pair so far has the key
abbrev pub invariant-loop-pair : goal.invariant-loop-pair
invariant-loop-pair l = lookup (bytes_eq l.key) l.self ≡ lookup (bytes_eq l.key) (drop l.pair-index l.pair-items)
