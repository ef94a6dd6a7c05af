use Rattle.std.proofs.Common.{◌<◌, length, ap, ◌∙◌, arith}
use Rattle.ncc_cypher.specs.declared.token.Token.TheVariants.{Plus}
use Rattle.ncc_cypher.specs.declared.tree.Term.{Term}
use Rattle.ncc_cypher.specs.Grammar.{term}
use Rattle.ncc_cypher.specs.Printer.{puts}
use Rattle.ncc_cypher.proofs.Printed.{further_puts}
use Rattle.ncc_cypher.proofs.printing.Printer.put_further_terms.Goals as goal

pub loop-term-preserved : goal.loop-term-preserved
loop-term-preserved c =
    let lt : c.loop-term.term-index < length c.args.terms.now = omega arith in
    further_puts (term c.args.name.now) Plus c.args.terms.now c.loop-term.term-index c.term-item.result c.args.self.now c.loop-term.self c.put.new.self c.put_term.new.self lt c.loop-term.invariant c.in_ok-put.ensures
    (c.in_ok-put_term.ensures ∙ ap (λ (z : Term). puts c.put.new.self (term c.args.name.now z)) c.term-item.is)
