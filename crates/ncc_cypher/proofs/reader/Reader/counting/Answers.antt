use Rattle.std.proofs.Common.{rules, ◌≡◌, ◌++◌, ◌∷◌, [], ℕ, List, Bool, Option, Some, None, true, false, refl, sym, ap, ◌∙◌}
use Rattle.ncc_cypher.specs.declared.token.Token.{Token}
use Rattle.ncc_cypher.specs.declared.token.Token.TheVariants as t
use Rattle.ncc_cypher.specs.declared.tree.Term.{Term}
use Rattle.ncc_cypher.specs.declared.tree.Expr.{Expr}
use Rattle.ncc_cypher.specs.declared.tree.Pair.{Pair}
use Rattle.ncc_cypher.specs.declared.tree.Item.{Item}
use Rattle.ncc_cypher.specs.declared.tree.Head.TheVariants as h
use Rattle.ncc_cypher.specs.declared.tree.Tail.{Tail}
use Rattle.ncc_cypher.specs.declared.tree.Tail.TheVariants as l
use Rattle.ncc_cypher.specs.Verb as v
use Rattle.ncc_cypher.specs.Opening as o
use Rattle.ncc_cypher.specs.Site as p
use Rattle.ncc_cypher.specs.State as s
use Rattle.ncc_cypher.specs.Grammar.{Name, has}
use Rattle.ncc_pack.specs.declared.value.Value.{Value}
use Rattle.ncc_cypher.specs.Machine.{go, ends, is_bound, a_node, a_made, a_statement}
use Rattle.ncc_cypher.specs.Reading.{NoRight, NoAs, NoComma, NoPlus, NoReturn, NoRest, NoOpen, count_or, further_columns, column_values, left, called, reads, behind_item}
use Rattle.ncc_cypher.proofs.Moves as m
use Rattle.ncc_cypher.proofs.reader.Reader.counting.Goals as goal

pub returns-in-Some-Name-clause-ends : goal.returns-in-Some-Name-clause-ends
returns-in-Some-Name-clause-ends c = λ names b e.
    m.then_ends names (λ (r : Tail × List Value). a_statement b r.0) c.count_or_item.result _ _
    (m.moved names (s.Returning b) (count_or (is_bound c.args.bound.now c.in-Some-Name.word) b) (t.Name c.in-Some-Name.word) c.args.self.now c.advance.new.self (search rules) c.advance.ensures.ahead (m.count_step b c.args.bound.now c.in-Some-Name.word e (search rules)))
    (rw c.is_bound-own.ensures at (c.count_or_item.ensures.ends names b e))
