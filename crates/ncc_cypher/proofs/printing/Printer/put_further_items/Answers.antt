use Rattle.std.proofs.Common.{◌<◌, length, ap, ◌∙◌, arith}
use Rattle.ncc_cypher.specs.declared.token.Token.TheVariants.{Comma}
use Rattle.ncc_cypher.specs.declared.tree.Item.{Item}
use Rattle.ncc_cypher.specs.Grammar.{item}
use Rattle.ncc_cypher.specs.Printer.{puts}
use Rattle.ncc_cypher.proofs.Printed.{further_puts}
use Rattle.ncc_cypher.proofs.printing.Printer.put_further_items.Goals as goal

pub loop-item-preserved : goal.loop-item-preserved
loop-item-preserved c =
    let lt : c.loop-item.item-index < length c.args.items.now = omega arith in
    further_puts (item c.args.name.now) Comma c.args.items.now c.loop-item.item-index c.item-item.result c.args.self.now c.loop-item.self c.put.new.self c.put_item.new.self lt c.loop-item.invariant c.in_ok-put.ensures
    (c.in_ok-put_item.ensures ∙ ap (λ (z : Item). puts c.put.new.self (item c.args.name.now z)) c.item-item.is)
