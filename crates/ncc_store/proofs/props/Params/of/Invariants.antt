use Rattle.ncc_store.proofs.Found.{Holds}
use Rattle.ncc_store.proofs.props.Params.of.Given as goal

abbrev pub invariant-loop-pair : goal.invariant-loop-pair
invariant-loop-pair l = Holds l.places l.pair-items l.pair-index
