use Rattle.std.proofs.Common.{rules, ◌≡◌, ◌++◌, ◌∷◌, [], ℕ, List, Bool, Option, Some, None, true, false, refl, sym, ap, ◌∙◌}
use Rattle.ncc_cypher.specs.declared.token.Token.{Token}
use Rattle.ncc_cypher.specs.declared.token.Token.TheVariants as t
use Rattle.ncc_cypher.specs.declared.tree.Term.{Term}
use Rattle.ncc_cypher.specs.declared.tree.Expr.{Expr}
use Rattle.ncc_cypher.specs.declared.tree.Pair.{Pair}
use Rattle.ncc_cypher.specs.declared.tree.Item.{Item}
use Rattle.ncc_cypher.specs.declared.tree.Head.TheVariants as h
use Rattle.ncc_cypher.specs.declared.tree.Tail.TheVariants as l
use Rattle.ncc_cypher.specs.Verb as v
use Rattle.ncc_cypher.specs.Opening as o
use Rattle.ncc_cypher.specs.Site as p
use Rattle.ncc_cypher.specs.State as s
use Rattle.ncc_cypher.specs.Grammar.{Name, has}
use Rattle.ncc_cypher.specs.Machine.{go, ends, is_bound, a_node, a_made, a_statement}
use Rattle.ncc_cypher.specs.Reading.{NoRight, NoAs, NoComma, NoPlus, NoReturn, NoRest, NoOpen, count_or, further_columns, column_values, left, called, reads, behind_item}
use Rattle.ncc_cypher.proofs.Moves as m
use Rattle.ncc_cypher.proofs.reader.Reader.term.Goals as goal

pub returns-in_default-clause-moves : goal.returns-in_default-clause-moves
returns-in_default-clause-moves c = λ names w ts e a. c.literal.ensures.moves names w ts

pub returns-in-Some-Dot-clause-moves : goal.returns-in-Some-Dot-clause-moves
unfolding go
returns-in-Some-Dot-clause-moves c = λ names w ts e a.
    let b : is_bound c.args.bound.now c.in-Some-Name.name ≡ true = search rules in
    m.then_moves names (s.Needs w ts) (s.Dotted w ts) (λ (x : Term). s.After w (ts ++ (x ∷ []))) c.args.self.now c.advance-in-Some-Dot.new.self c.key.new.self c.key.result
    (m.moved names (s.Needs w ts) (s.Owned w ts) (t.Name c.in-Some-Name.name) c.args.self.now c.advance.new.self (search rules) c.advance.ensures.ahead (m.owned_step w ts c.args.bound.now c.in-Some-Name.name e b)
    ∙ m.moved names (s.Owned w ts) (s.Dotted w ts) t.Dot c.advance.new.self c.advance-in-Some-Dot.new.self (search rules) c.advance-in-Some-Dot.ensures.ahead refl) (c.key.ensures.moves names w ts)
