use Rattle.std.proofs.Common.{◌<◌, length, ap, ◌∙◌, arith}
use Rattle.ncc_cypher.specs.declared.token.Token.TheVariants.{Comma}
use Rattle.ncc_cypher.specs.declared.tree.Pair.{Pair}
use Rattle.ncc_cypher.specs.Grammar.{change}
use Rattle.ncc_cypher.specs.Printer.{puts}
use Rattle.ncc_cypher.proofs.Printed.{further_puts}
use Rattle.ncc_cypher.proofs.printing.Printer.put_further_changes.Goals as goal

pub loop-pair-preserved : goal.loop-pair-preserved
loop-pair-preserved c =
    let lt : c.loop-pair.pair-index < length c.args.pairs.now = omega arith in
    further_puts (change c.args.name.now) Comma c.args.pairs.now c.loop-pair.pair-index c.pair-item.result c.args.self.now c.loop-pair.self c.put.new.self c.put_change.new.self lt c.loop-pair.invariant c.in_ok-put.ensures
    (c.in_ok-put_change.ensures ∙ ap (λ (z : Pair). puts c.put.new.self (change c.args.name.now z)) c.pair-item.is)
