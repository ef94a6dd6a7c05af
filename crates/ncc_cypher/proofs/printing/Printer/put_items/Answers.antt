use Rattle.std.proofs.Common.{◌≤◌, length, arith}
use Rattle.ncc_cypher.specs.declared.token.Token.TheVariants.{Comma}
use Rattle.ncc_cypher.specs.Grammar.{item}
use Rattle.ncc_cypher.proofs.Printed.{parted_puts}
use Rattle.ncc_cypher.proofs.printing.Printer.put_items.Goals as goal

pub returns-in_ok-put_item-in-len1-up : goal.returns-in_ok-put_item-in-len1-up
returns-in_ok-put_item-in-len1-up c =
    let lt : 1 ≤ length c.args.items.now = omega (arith, c.in-len1-up.len_at_least) in
    parted_puts (item c.args.name.now) Comma c.args.items.now c.first-item.result c.args.self.now c.put_item.new.self c.put_further_items.new.self c.put_further_items.result lt c.first-item.is c.in_ok-put_item-in-len1-up.ensures c.put_further_items.ensures
