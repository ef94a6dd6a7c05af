use Rattle.std.proofs.Common.{rules, ◌≡◌, ◌++◌, ◌∷◌, [], ℕ, List, Bool, Option, Some, None, true, false, refl, sym, ap, ◌∙◌}
use Rattle.ncc_cypher.specs.declared.token.Token.{Token}
use Rattle.ncc_cypher.specs.declared.token.Token.TheVariants as t
use Rattle.ncc_cypher.specs.declared.tree.Term.{Term}
use Rattle.ncc_cypher.specs.declared.tree.Expr.{Expr}
use Rattle.ncc_cypher.specs.declared.tree.Pair.{Pair}
use Rattle.ncc_cypher.specs.declared.tree.Item.{Item}
use Rattle.ncc_cypher.specs.declared.tree.Head.TheVariants as h
use Rattle.ncc_cypher.specs.declared.tree.Tail.TheVariants as l
use Rattle.ncc_cypher.specs.Verb as v
use Rattle.ncc_cypher.specs.Opening as o
use Rattle.ncc_cypher.specs.Site as p
use Rattle.ncc_cypher.specs.State as s
use Rattle.ncc_cypher.specs.Grammar.{Name, has}
use Rattle.ncc_cypher.specs.Machine.{go, ends, is_bound, a_node, a_made, a_statement}
use Rattle.ncc_cypher.specs.Reading.{NoRight, NoAs, NoComma, NoPlus, NoReturn, NoRest, NoOpen, count_or, further_columns, column_values, left, called, reads, behind_item}
use Rattle.ncc_cypher.proofs.Moves as m
use Rattle.ncc_cypher.proofs.reader.Reader.pair.Goals as goal

pub returns-in_ok-key-in-Some-Name-clause-moves : goal.returns-in_ok-key-in-Some-Name-clause-moves
returns-in_ok-key-in-Some-Name-clause-moves c = λ names n.
    let k = c.args.keys.now in
    let b : has c.in_ok-key-in-Some-Name.key k ≡ false = search rules in
    m.then_moves names (s.Further n k) (s.Keyed n k c.in_ok-key-in-Some-Name.key) (λ (x : Pair). s.After (p.InPair n k x.key) x.value.terms) c.args.self.now c.advance.new.self c.pair_value.new.self c.pair_value.result
    (m.moved names (s.Further n k) (s.Keyed n k c.in_ok-key-in-Some-Name.key) (t.Name c.in_ok-key-in-Some-Name.key) c.args.self.now c.advance.new.self (search rules) c.advance.ensures.ahead (m.key_step n k c.in_ok-key-in-Some-Name.key b)) (c.pair_value.ensures.moves names n k)
