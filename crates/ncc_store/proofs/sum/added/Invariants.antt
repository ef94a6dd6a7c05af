use Rattle.std.proofs.Common.{◌≡◌, drop}
use Rattle.ncc_store.specs.Sum.{added}
use Rattle.ncc_store.specs.Bound.{props_in}
use Rattle.ncc_store.proofs.sum.added.Given as goal

abbrev pub invariant-loop-next : goal.invariant-loop-next
invariant-loop-next l = added l.params (props_in l.bound) l.total (drop l.next-index l.terms) ≡ added l.params (props_in l.bound)
    l.fn.first l.terms
