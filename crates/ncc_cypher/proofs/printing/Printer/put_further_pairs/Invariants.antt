use Rattle.std.proofs.Common.{◌≡◌, take}
use Rattle.ncc_cypher.specs.declared.token.Token.TheVariants.{Comma}
use Rattle.ncc_cypher.specs.Grammar.{further, pair}
use Rattle.ncc_cypher.specs.Printer.{puts}
use Rattle.ncc_cypher.proofs.printing.Printer.put_further_pairs.Given as goal

-- those so far are printed
abbrev pub invariant-loop-pair : goal.invariant-loop-pair
invariant-loop-pair l = l.self ≡ puts l.fn.self (further pair Comma (take l.pair-index l.pairs))
