use Rattle.std.proofs.Common.{◌≡◌, [], drop}
use Rattle.ncc_store.specs.Exec.{pairs}
use Rattle.ncc_store.proofs.run.pairs.Given as goal

abbrev pub invariant-loop-pair : goal.invariant-loop-pair
invariant-loop-pair l = pairs l.params l.draft (drop l.pair-index l.list) ≡ pairs l.params [] l.list
