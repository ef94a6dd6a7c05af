use Rattle.std.proofs.Common.{◌≤◌, length, arith}
use Rattle.ncc_cypher.specs.declared.token.Token.TheVariants.{Comma}
use Rattle.ncc_cypher.specs.Grammar.{change}
use Rattle.ncc_cypher.proofs.Printed.{parted_puts}
use Rattle.ncc_cypher.proofs.printing.Printer.put_sets.Goals as goal

pub returns-in_ok-put_change-in-len1-up : goal.returns-in_ok-put_change-in-len1-up
returns-in_ok-put_change-in-len1-up c =
    let lt : 1 ≤ length c.args.pairs.now = omega (arith, c.in-len1-up.len_at_least) in
    parted_puts (change c.args.name.now) Comma c.args.pairs.now c.first-item.result c.args.self.now c.put_change.new.self c.put_further_changes.new.self c.put_further_changes.result lt c.first-item.is c.in_ok-put_change-in-len1-up.ensures c.put_further_changes.ensures
