use Rattle.std.proofs.Common.{◌≡◌, take}
use Rattle.ncc_cypher.specs.declared.token.Token.TheVariants.{Plus}
use Rattle.ncc_cypher.specs.Grammar.{further, term}
use Rattle.ncc_cypher.specs.Printer.{puts}
use Rattle.ncc_cypher.proofs.printing.Printer.put_further_terms.Given as goal

-- those so far are printed
abbrev pub invariant-loop-term : goal.invariant-loop-term
invariant-loop-term l = l.self ≡ puts l.fn.self (further (term l.name) Plus (take l.term-index l.terms))
