use Rattle.std.proofs.Common.{rules, ◌≡◌, ◌++◌, ◌∷◌, [], ℕ, List, Bool, Option, Some, None, true, false, refl, sym, ap, ◌∙◌}
use Rattle.ncc_cypher.specs.declared.token.Token.{Token}
use Rattle.ncc_cypher.specs.declared.token.Token.TheVariants as t
use Rattle.ncc_cypher.specs.declared.tree.Term.{Term}
use Rattle.ncc_cypher.specs.declared.tree.Expr.{Expr}
use Rattle.ncc_cypher.specs.declared.tree.Pair.{Pair}
use Rattle.ncc_cypher.specs.declared.tree.Item.{Item}
use Rattle.ncc_cypher.specs.declared.tree.Head.TheVariants as h
use Rattle.ncc_cypher.specs.declared.tree.Tail.TheVariants as l
use Rattle.ncc_cypher.specs.Verb as v
use Rattle.ncc_cypher.specs.Opening as o
use Rattle.ncc_cypher.specs.Site as p
use Rattle.ncc_cypher.specs.State as s
use Rattle.ncc_cypher.specs.Grammar.{Name, has}
use Rattle.ncc_cypher.specs.Machine.{go, ends, is_bound, a_node, a_made, a_statement}
use Rattle.ncc_cypher.specs.Reading.{NoRight, NoAs, NoComma, NoPlus, NoReturn, NoRest, NoOpen, count_or, further_columns, column_values, left, called, reads, behind_item}
use Rattle.ncc_cypher.proofs.Moves as m
use Rattle.ncc_cypher.proofs.reader.Reader.item.Goals as goal

pub returns-else-not-is_bound-clause-moves : goal.returns-else-not-is_bound-clause-moves
returns-else-not-is_bound-clause-moves c = λ names b xs e.
    let w = p.InItem b xs in
    let k : is_bound c.args.bound.now c.in-Some-Name.name ≡ true = search rules in
    m.then_moves names (s.Needs w []) (s.Owned w []) (λ (r : Item × Name). s.Aliased b (xs ++ (r.0 ∷ []))) c.args.self.now c.advance.new.self c.owned.new.self c.owned.result
    (m.moved names (s.Needs w []) (s.Owned w []) (t.Name c.in-Some-Name.name) c.args.self.now c.advance.new.self (search rules) c.advance.ensures.ahead (m.owned_step w [] c.args.bound.now c.in-Some-Name.name e k)) (c.owned.ensures.moves names b xs e)

pub returns-in_ok-sum-in_default-clause-moves : goal.returns-in_ok-sum-in_default-clause-moves
returns-in_ok-sum-in_default-clause-moves c = λ names b xs e.
    let w = p.InItem b xs in
    m.then_moves names (s.Needs w []) (s.After w c.in_ok-sum-in_default.sum.terms) (λ (r : Item × Name). s.Aliased b (xs ++ (r.0 ∷ []))) c.args.self.now c.further.new.self c.named.new.self c.named.result
    (c.in_ok-first-in_default.ensures.moves names w [] ∙ c.in_ok-sum-in_default.ensures.moves names w e) (c.named.ensures.moves names b xs)
