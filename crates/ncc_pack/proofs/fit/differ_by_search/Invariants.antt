use Rattle.std.proofs.Common.{◌≡◌, [], take, drop}
use Rattle.ncc_pack.specs.Keys.{keys, distinct}
use Rattle.ncc_pack.proofs.fit.differ_by_search.Given as goal

abbrev pub invariant-loop-i : goal.invariant-loop-i
invariant-loop-i l = distinct [] l.pairs ≡ distinct (keys (take l.i l.pairs)) (drop l.i l.pairs)
