use Rattle.std.proofs.Common.{to_z-of_z}
use Rattle.ncc_store.proofs.Legal.{legal_empty}
use Rattle.ncc_store.proofs.store.Store.with_next.Goals as goal

pub invariant_of-result : goal.invariant_of-result
invariant_of-result c = legal_empty _ _ c.args.next (to_z-of_z c.ranges.next) c.new.ensures.items c.requires.low c.requires.high
