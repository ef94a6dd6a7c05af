use Rattle.std.proofs.Common.{◌≡◌, drop}
use Rattle.std.specs.List.{list_all}
use Rattle.ncc_store.specs.Props.{pair_fits}
use Rattle.ncc_store.proofs.node.pairs_fit.Given as goal

abbrev pub invariant-loop-pair : goal.invariant-loop-pair
invariant-loop-pair l = list_all pair_fits (drop l.pair-index l.pairs) ≡ list_all pair_fits l.pairs
