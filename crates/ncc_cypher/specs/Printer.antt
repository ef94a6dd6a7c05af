-- What a printer holds behind more tokens.
use Rattle.std.specs.Prelude.{ℕ, List, [], ◌∷◌, ◌++◌}
use Rattle.ncc_cypher.specs.declared.token.Token.{Token}
use Rattle.ncc_cypher.specs.declared.printing.Shape.{Shape}
use Rattle.ncc_cypher.specs.declared.printing.Printer.{Printer}
use Rattle.ncc_cypher.specs.Print.{shape, written, gap}

unfoldable pub add : Printer → Shape → List ℕ → Printer
add p next word = record p { out = p.out ++ (gap p.last next ++ word); last = next }

abbrev pub puts : Printer → List Token → Printer
puts p [] = p
puts p (x ∷ xs) = puts (add p (shape x) (written x)) xs
