use Rattle.std.proofs.Common.{map}
use Rattle.ncc_tx.specs.Spelled.{call_value}
use Rattle.ncc_tx.proofs.Shapes.{no_list}
use Rattle.ncc_tx.proofs.shape.calls_of.Goals as goal

pub returns-in-None-call_of : goal.returns-in-None-call_of
returns-in-None-call_of c =
    let (_, _, parts) = c.loop-item.invariant in
    no_list call_value c.args.value
    (map call_value c.loop-item.calls) c.loop-item.item-iterator.rest.items c.next.new.self.rest.items c.in-Some.item parts
    c.in-Some.ensures.steps.0 c.in-None-call_of.ensures
