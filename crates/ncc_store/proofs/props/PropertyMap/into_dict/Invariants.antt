use Rattle.std.proofs.Common.{◌≡◌, ◌++◌}
use Rattle.ncc_store.specs.Views.{owned}
use Rattle.ncc_store.proofs.props.PropertyMap.into_dict.Given as goal

abbrev pub invariant-loop-key : goal.invariant-loop-key
invariant-loop-key l = l.dict ++ owned l.key-iterator ≡ l.fn.self
