use Rattle.std.specs.Prelude.{pos}
use Rattle.ncc_store.specs.Graph.{empty}
use Rattle.ncc_tx.proofs.Meant.{stamped}
use Rattle.ncc_tx.proofs.stamp.stamps_grow.Goals as goal

pub returns : goal.returns
returns c = record { grows = stamped (empty (pos 0)) }
