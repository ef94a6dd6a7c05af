use Rattle.std.proofs.Common.{◌≡◌, take}
use Rattle.ncc_cypher.specs.declared.token.Token.TheVariants.{Comma}
use Rattle.ncc_cypher.specs.Grammar.{further, item}
use Rattle.ncc_cypher.specs.Printer.{puts}
use Rattle.ncc_cypher.proofs.printing.Printer.put_further_items.Given as goal

-- those so far are printed
abbrev pub invariant-loop-item : goal.invariant-loop-item
invariant-loop-item l = l.self ≡ puts l.fn.self (further (item l.name) Comma (take l.item-index l.items))
