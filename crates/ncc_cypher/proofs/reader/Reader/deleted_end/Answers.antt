use Rattle.std.proofs.Common.{rules, ◌≡◌, ◌++◌, ◌∷◌, [], ℕ, List, Bool, Option, Some, None, true, false, refl, sym, ap, ◌∙◌}
use Rattle.ncc_cypher.specs.declared.token.Token.TheVariants as t
use Rattle.ncc_cypher.specs.declared.tree.Term.{Term}
use Rattle.ncc_cypher.specs.declared.tree.Expr.{Expr}
use Rattle.ncc_cypher.specs.declared.tree.Pair.{Pair}
use Rattle.ncc_cypher.specs.declared.tree.Item.{Item}
use Rattle.ncc_cypher.specs.declared.tree.Head.TheVariants as h
use Rattle.ncc_cypher.specs.declared.tree.Tail.TheVariants as l
use Rattle.ncc_cypher.specs.Verb as v
use Rattle.ncc_cypher.specs.Opening as o
use Rattle.ncc_cypher.specs.Site as p
use Rattle.ncc_cypher.specs.State as s
use Rattle.ncc_cypher.specs.Grammar.{Name, has}
use Rattle.ncc_cypher.specs.Machine.{go, ends, is_bound, a_node, a_made, a_statement}
use Rattle.ncc_cypher.specs.Reading.{NoRight, NoAs, NoComma, NoPlus, NoReturn, NoRest, called, reads, behind_item}
use Rattle.ncc_cypher.proofs.Moves as m
use Rattle.ncc_cypher.proofs.reader.Reader.deleted_end.Goals as goal

pub returns-clause-ends : goal.returns-clause-ends
unfolding ends
returns-clause-ends c = λ names a. c.end.ensures.ends names (s.Deleted a) _ refl (m.no_more_deleted a c.args.self.now.token c.requires)
