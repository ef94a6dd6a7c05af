use Rattle.std.proofs.Common.{rules, ◌≡◌, ◌++◌, ◌∷◌, [], ℕ, List, Bool, Option, Some, None, true, false, refl, sym, ap, ◌∙◌}
use Rattle.ncc_pack.specs.declared.value.Value.TheVariants as w
use Rattle.ncc_cypher.specs.declared.token.Token.{Token}
use Rattle.ncc_cypher.specs.declared.token.Token.TheVariants as t
use Rattle.ncc_cypher.specs.declared.tree.Term.{Term}
use Rattle.ncc_cypher.specs.declared.tree.Expr.{Expr}
use Rattle.ncc_cypher.specs.declared.tree.Pair.{Pair}
use Rattle.ncc_cypher.specs.declared.tree.Item.{Item}
use Rattle.ncc_cypher.specs.declared.tree.Head.TheVariants as h
use Rattle.ncc_cypher.specs.declared.tree.Tail.TheVariants as l
use Rattle.ncc_cypher.specs.Verb as v
use Rattle.ncc_cypher.specs.Opening as o
use Rattle.ncc_cypher.specs.Site as p
use Rattle.ncc_cypher.specs.State as s
use Rattle.ncc_cypher.specs.Grammar.{Name, has}
use Rattle.ncc_pack.specs.declared.value.Value.{Value}
use Rattle.ncc_cypher.specs.Machine.{go, ends, is_bound, a_node, a_made, a_statement}
use Rattle.ncc_cypher.specs.Reading.{NoRight, NoAs, NoComma, NoPlus, NoReturn, NoRest, NoOpen, starts_count, count_or, further_columns, column_values, left, called, reads, behind_item}
use Rattle.ncc_cypher.proofs.Moves as m
use Rattle.ncc_cypher.proofs.reader.Reader.further_items.Goals as goal

pub loop-self-init : goal.loop-self-init
loop-self-init c = record {
  moves = λ names b e. ap (λ (z : List Item). reads names (s.Aliased b z) c.args.self.now) (search rules);
  columns = λ start. (start, search rules);
}

pub loop-self-preserved : goal.loop-self-preserved
unfolding go
loop-self-preserved c = record {
  moves = λ names b e.
      c.loop-self.invariant.moves names b e
      ∙ m.moved names (s.Aliased b c.loop-self.items) (s.Needs (p.InItem b c.loop-self.items) []) t.Comma c.loop-self.self c.advance.new.self (search rules) c.advance.ensures.ahead refl
      ∙ c.in_ok-item.ensures.moves names b c.loop-self.items e ∙ ap (λ (z : List Item). reads names (s.Aliased b z) c.item.new.self) (search rules);
  columns = λ start.
      let r = c.loop-self.invariant.columns start in (
        c.advance.new.self.from,
        r.1 ∙ m.more_columns c.loop-self.columns _ c.loop-self.last _ r.0 c.loop-self.self c.advance.new.self c.item.new.self (search rules) c.advance.ensures.ahead c.in_ok-item.ensures.column (search rules),
      );
}

pub returns-clause-columns : goal.returns-clause-columns
returns-clause-columns c = λ start.
    let r = c.loop-self.invariant.columns start in
    let done : List Value = c.loop-self.columns in
    let all : c.push-2.new.self ≡ done ++ (w.Text c.loop-self.last ∷ []) = search rules in
    all ∙ ap (λ (z : List Name). done ++ column_values z) (sym (c.in_ok-items_end.ensures.further r.0 c.loop-self.last)) ∙ sym r.1
