use Rattle.std.proofs.Common.{◌≡◌, false, take}
use Rattle.std.specs.List.{list_any}
use Rattle.std.specs.Str.{bytes_eq}
use Rattle.ncc_pack.specs.Keys.{keys}
use Rattle.ncc_pack.proofs.fit.has_key.Given as goal

abbrev pub invariant-loop-pair : goal.invariant-loop-pair
invariant-loop-pair l = list_any (bytes_eq l.key) (keys (take l.pair-index l.pairs)) ≡ false
