use Rattle.std.proofs.Common.{rules, ◌≡◌, ◌++◌, ◌∷◌, [], ℕ, List, Bool, Option, Some, None, true, false, refl, sym, ap, ◌∙◌}
use Rattle.ncc_pack.specs.declared.value.Value.TheVariants as w
use Rattle.ncc_cypher.specs.declared.token.Token.{Token}
use Rattle.ncc_cypher.specs.declared.token.Token.TheVariants as t
use Rattle.ncc_cypher.specs.declared.tree.Term.{Term}
use Rattle.ncc_cypher.specs.declared.tree.Expr.{Expr}
use Rattle.ncc_cypher.specs.declared.tree.Pair.{Pair}
use Rattle.ncc_cypher.specs.declared.tree.Item.{Item}
use Rattle.ncc_cypher.specs.declared.tree.Head.TheVariants as h
use Rattle.ncc_cypher.specs.declared.tree.Tail.{Tail}
use Rattle.ncc_cypher.specs.declared.tree.Tail.TheVariants as l
use Rattle.ncc_cypher.specs.Verb as v
use Rattle.ncc_cypher.specs.Opening as o
use Rattle.ncc_cypher.specs.Site as p
use Rattle.ncc_cypher.specs.State as s
use Rattle.ncc_cypher.specs.Grammar.{Name, has}
use Rattle.ncc_pack.specs.declared.value.Value.{Value}
use Rattle.ncc_cypher.specs.Machine.{go, ends, is_bound, a_node, a_made, a_statement}
use Rattle.ncc_cypher.specs.Reading.{NoRight, NoAs, NoComma, NoPlus, NoReturn, NoRest, NoOpen, starts_count, count_or, further_columns, column_values, left, called, reads, behind_item}
use Rattle.ncc_cypher.proofs.Moves as m
use Rattle.ncc_cypher.proofs.reader.Reader.count_or_item.Goals as goal

pub returns-else-not-own-clause-ends : goal.returns-else-not-own-clause-ends
returns-else-not-own-clause-ends c = λ names b e.
    let q = c.args.self.now in
    let o : c.args.own ≡ true = search rules in
    let k : NoOpen q.token = search rules in
    m.then_ends names (λ (r : Tail × List Value). a_statement b r.0) c.owned_items.result (reads names (count_or c.args.own b) q) (reads names (s.Owned (p.InItem b []) []) q)
    (ap (λ (z : Bool). reads names (count_or z b) q) o ∙ m.either_next names b q.token q.from q.after k) (c.owned_items.ensures.ends names b e)
