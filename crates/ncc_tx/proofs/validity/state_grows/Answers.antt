use Rattle.std.specs.Prelude.{pos}
use Rattle.ncc_store.specs.Graph.{empty}
use Rattle.ncc_tx.proofs.Meant.{grows}
use Rattle.ncc_tx.proofs.validity.state_grows.Goals as goal

pub returns : goal.returns
returns c = record { grows = grows (empty (pos 0)) }
