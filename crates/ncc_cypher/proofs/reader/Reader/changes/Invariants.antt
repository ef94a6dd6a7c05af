use Rattle.std.proofs.Common.{◌≡◌, ◌++◌, ◌∷◌, [], ℕ, List, Option, Some, None, false, ◌≤◌, length}
use Rattle.ncc_cypher.specs.Grammar.{Name, NotEmpty}
use Rattle.ncc_cypher.specs.Site.{Site, Made, Body}
use Rattle.ncc_cypher.specs.Site as p
use Rattle.ncc_cypher.specs.Opening as o
use Rattle.ncc_cypher.specs.State as s
use Rattle.ncc_cypher.specs.Machine.{scope, a_node}
use Rattle.ncc_cypher.specs.Reading.{reads, left, further_columns, column_values, NotMore, Same, Within, NoPlus}
use Rattle.ncc_cypher.proofs.reader.Reader.changes.Given as goal

abbrev pub invariant-loop-self : goal.invariant-loop-self
invariant-loop-self l = record {
  moves : (names : List Name) (a : Made) → a.name ≡ l.bound → reads names (s.Setting a []) l.fn.self ≡ reads names (s.After (p.InSet a l.pairs l.last.key) l.last.value.terms) l.self;
  same : Same l.fn.self l.self;
  plus : NoPlus l.self.token;
}

abbrev pub decreases-loop-self : goal.decreases-loop-self
decreases-loop-self l = length (left l.self)
