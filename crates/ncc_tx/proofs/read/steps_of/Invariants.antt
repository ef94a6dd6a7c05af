use Rattle.ncc_tx.proofs.Steps.{Stands}
use Rattle.ncc_tx.proofs.read.steps_of.Given as goal

abbrev pub invariant-loop-call : goal.invariant-loop-call
invariant-loop-call l =
    (goal.iterator-loop-call).can_next l.call-iterator ×
    (goal.iterator-loop-call).is_finite l.call-iterator ×
    Stands l.fn.calls l.steps l.call-iterator.rest.items l.number
