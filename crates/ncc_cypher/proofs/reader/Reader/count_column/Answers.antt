use Rattle.std.proofs.Common.{rules, ◌≡◌, ◌++◌, ◌∷◌, [], ℕ, List, Bool, Option, Some, None, true, false, refl, sym, ap, ◌∙◌}
use Rattle.ncc_cypher.specs.declared.token.Token.{Token}
use Rattle.ncc_cypher.specs.declared.token.Token.TheVariants as t
use Rattle.ncc_cypher.specs.declared.tree.Term.{Term}
use Rattle.ncc_cypher.specs.declared.tree.Expr.{Expr}
use Rattle.ncc_cypher.specs.declared.tree.Pair.{Pair}
use Rattle.ncc_cypher.specs.declared.tree.Item.{Item}
use Rattle.ncc_cypher.specs.declared.tree.Head.TheVariants as h
use Rattle.ncc_cypher.specs.declared.tree.Tail.TheVariants as l
use Rattle.ncc_cypher.specs.Verb as v
use Rattle.ncc_cypher.specs.Opening as o
use Rattle.ncc_cypher.specs.Site as p
use Rattle.ncc_cypher.specs.State as s
use Rattle.ncc_cypher.specs.Grammar.{Name, has}
use Rattle.ncc_cypher.specs.Machine.{go, ends, is_bound, a_node, a_made, a_statement}
use Rattle.ncc_cypher.specs.Reading.{NoRight, NoAs, NoComma, NoPlus, NoReturn, NoRest, NoOpen, count_or, further_columns, column_values, left, called, reads, behind_item}
use Rattle.ncc_cypher.proofs.Moves as m
use Rattle.ncc_cypher.proofs.reader.Reader.count_column.Goals as goal

pub returns-in_ok-column-in-Some-As-clause-ends : goal.returns-in_ok-column-in-Some-As-clause-ends
unfolding go ends
returns-in_ok-column-in-Some-As-clause-ends c = λ names b.
    m.then_ends names (λ _. a_statement b l.Count) c.column_end.result (reads names (s.Counted b) c.args.self.now) (reads names (s.CountAliased b) c.alias.new.self)
    (m.moved names (s.Counted b) (s.CountAliasing b) t.As c.args.self.now c.advance.new.self (search rules) c.advance.ensures.ahead refl ∙ c.in_ok-column-in-Some-As.ensures.count names b)
    (c.column_end.ensures.ends names (s.CountAliased b) (a_statement b l.Count) refl (m.no_more_named b c.alias.new.self.token))

pub returns-in_ok-column-in_default-clause-ends : goal.returns-in_ok-column-in_default-clause-ends
unfolding ends
returns-in_ok-column-in_default-clause-ends c = λ names b.
    let k : NoAs c.args.self.now.token = search rules in
    c.column_end-in_default.ensures.ends names (s.Counted b) (a_statement b l.Count) refl (m.no_more_counted b c.args.self.now.token k)
