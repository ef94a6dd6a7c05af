use Rattle.std.proofs.Common.{◌≡◌, ◌++◌, map}
use Rattle.ncc_pack.specs.declared.value.Value.TheVariants as v
use Rattle.ncc_tx.specs.Spelled.{call_value}
use Rattle.ncc_tx.proofs.shape.calls_of.Given as goal

abbrev pub invariant-loop-item : goal.invariant-loop-item
invariant-loop-item l =
    (goal.iterator-loop-item).can_next l.item-iterator ×
    (goal.iterator-loop-item).is_finite l.item-iterator ×
    (l.fn.value ≡ v.List (map call_value l.calls ++ l.item-iterator.rest.items))
