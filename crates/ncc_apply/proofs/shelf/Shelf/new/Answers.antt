use Rattle.ncc_tx.specs.State.{stamps_from, state_from}
use Rattle.ncc_apply.specs.Runs.{IsRising, unrolled}
use Rattle.ncc_apply.proofs.shelf.Shelf.new.Goals as goal

pub invariant_of-result : goal.invariant_of-result
unfolding IsRising
invariant_of-result c = rw c.new-2.ensures.items tt

pub returns : goal.returns
unfolding unrolled stamps_from state_from
returns c = record { empty = record { graph = c.in_ok-store.ensures.empty; stamps = rw c.new-2.ensures.items } }
