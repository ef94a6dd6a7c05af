use Rattle.std.proofs.Common.{map}
use Rattle.ncc_tx.specs.Spelled.{rows_value}
use Rattle.ncc_tx.proofs.Shapes.{no_list}
use Rattle.ncc_tx.proofs.shape.told_of.Goals as goal

pub returns-in-None-2 : goal.returns-in-None-2
returns-in-None-2 c =
    let (_, _, parts) = c.loop-item.invariant in
    no_list rows_value c.args.value
    (map rows_value c.loop-item.told) c.loop-item.item-iterator.rest.items c.next.new.self.rest.items c.in-Some.item parts
    c.in-Some.ensures.steps.0 (rw c.in-None-2.is at c.in_ok-rows_of.ensures)
