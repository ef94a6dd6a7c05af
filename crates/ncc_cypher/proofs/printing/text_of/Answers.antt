use Rattle.std.proofs.Common.{List, ◌∙◌, ap}
use Rattle.ncc_cypher.specs.declared.token.Token.{Token}
use Rattle.ncc_cypher.specs.Grammar.{head, changes, tail}
use Rattle.ncc_cypher.specs.Print.{plain, plain_braces}
use Rattle.ncc_cypher.specs.Printer.{puts}
use Rattle.ncc_cypher.proofs.Printed.{tail_plain, text_is}
use Rattle.ncc_cypher.proofs.printing.text_of.Goals as goal

pub returns : goal.returns
returns c =
    let s = c.args.statement.now in
    let p = c.put_changes.new.self in
    text_is _ c.put_head.new.self p c.put_tail.new.self (head (plain_braces s.head) s.name s.head) (changes s.name s.change) (tail (plain s.head s.tail) s.name s.tail) c.new.ensures.empty c.in_ok-put_head.ensures c.in_ok-put_changes.ensures
    (c.in_ok-put_tail.ensures ∙ ap (λ (z : List Token). puts p z) (tail_plain s.head s.name s.tail))
