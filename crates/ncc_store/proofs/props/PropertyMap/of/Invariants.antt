use Rattle.std.proofs.Common.{◌≡◌, take}
use Rattle.ncc_store.specs.Views.{owned}
use Rattle.ncc_store.proofs.props.PropertyMap.of.Given as goal

abbrev pub invariant-loop-pair : goal.invariant-loop-pair
invariant-loop-pair l = owned l.pairs.entries ≡ take l.pair-index l.pair-items
