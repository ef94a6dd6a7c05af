use Rattle.std.proofs.Common.{map}
use Rattle.ncc_pack.specs.declared.value.Value.TheVariants as v
use Rattle.ncc_tx.proofs.Shapes.{no_list}
use Rattle.ncc_tx.proofs.shape.rows_of.Goals as goal

pub returns-in_default-item : goal.returns-in_default-item
returns-in_default-item c =
    let (_, _, parts) = c.loop-item.invariant in
    no_list v.List c.args.value
    (map v.List c.loop-item.rows) c.loop-item.item-iterator.rest.items c.next.new.self.rest.items c.in-Some.item parts
    c.in-Some.ensures.steps.0 (c.in_default-item.not-List)
