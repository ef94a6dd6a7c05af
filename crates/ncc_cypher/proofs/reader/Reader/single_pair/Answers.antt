use Rattle.std.proofs.Common.{rules, ◌≡◌, ◌++◌, ◌∷◌, [], ℕ, List, Bool, Option, Some, None, true, false, refl, sym, ap, ◌∙◌}
use Rattle.ncc_cypher.specs.declared.token.Token.TheVariants as t
use Rattle.ncc_cypher.specs.declared.tree.Term.{Term}
use Rattle.ncc_cypher.specs.declared.tree.Expr.{Expr}
use Rattle.ncc_cypher.specs.declared.tree.Pair.{Pair}
use Rattle.ncc_cypher.specs.declared.tree.Item.{Item}
use Rattle.ncc_cypher.specs.declared.tree.Head.TheVariants as h
use Rattle.ncc_cypher.specs.declared.tree.Tail.TheVariants as l
use Rattle.ncc_cypher.specs.Verb as v
use Rattle.ncc_cypher.specs.Opening as o
use Rattle.ncc_cypher.specs.Site as p
use Rattle.ncc_cypher.specs.State as s
use Rattle.ncc_cypher.specs.Grammar.{Name, has}
use Rattle.ncc_cypher.specs.Machine.{go, ends, is_bound, a_node, a_made, a_statement}
use Rattle.ncc_cypher.specs.Reading.{NoRight, NoAs, NoComma, NoPlus, NoReturn, NoRest, called, reads, behind_item}
use Rattle.ncc_cypher.proofs.Moves as m
use Rattle.ncc_cypher.proofs.reader.Reader.single_pair.Goals as goal

pub returns-clause-moves : goal.returns-clause-moves
returns-clause-moves c = λ names n e.
    let q = c.args.self.now in
    m.then_moves names (s.Braced n) (s.Further n []) (λ (x : Pair). s.After (p.InPair n [] x.key) x.value.terms) q q c.pair.new.self c.pair.result
    (m.single_next names n q.token q.from q.after e) (rw c.new-keys.ensures at (c.pair.ensures.moves names n))
