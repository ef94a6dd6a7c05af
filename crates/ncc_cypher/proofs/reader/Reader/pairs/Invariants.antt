use Rattle.std.proofs.Common.{◌≡◌, ◌++◌, ◌∷◌, [], ℕ, List, Option, Some, None, false, ◌≤◌, length}
use Rattle.ncc_cypher.specs.Grammar.{Name, NotEmpty}
use Rattle.ncc_cypher.specs.Site.{Site, Made, Body}
use Rattle.ncc_cypher.specs.Site as p
use Rattle.ncc_cypher.specs.Opening as o
use Rattle.ncc_cypher.specs.State as s
use Rattle.ncc_cypher.specs.Machine.{scope, a_node}
use Rattle.ncc_cypher.specs.Reading.{reads, left, further_columns, column_values, NotMore, Same, Within, NoPlus}
use Rattle.ncc_cypher.proofs.reader.Reader.pairs.Given as goal

abbrev pub invariant-loop-draft : goal.invariant-loop-draft
invariant-loop-draft l = record {
  moves : (names : List Name) (a : Name) (n : Option Name) → reads names (s.Further (a_node (o.Create a) n) []) l.fn.self ≡ reads names (s.Further (a_node (o.Create a) n) l.draft) l.self;
  same : Same l.fn.self l.self;
}

abbrev pub decreases-loop-draft : goal.decreases-loop-draft
decreases-loop-draft l = length (left l.self)
