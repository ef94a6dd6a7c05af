use Rattle.std.proofs.Common.{◌≡◌, ◌++◌, ◌∷◌, [], ℕ, List, Option, Some, None, false, ◌≤◌, length}
use Rattle.ncc_cypher.specs.Grammar.{Name, NotEmpty}
use Rattle.ncc_cypher.specs.Site.{Site, Made, Body}
use Rattle.ncc_cypher.specs.Site as p
use Rattle.ncc_cypher.specs.Opening as o
use Rattle.ncc_cypher.specs.State as s
use Rattle.ncc_cypher.specs.Machine.{scope, a_node}
use Rattle.ncc_cypher.specs.Reading.{reads, left, further_columns, column_values, NotMore, Same, Within, NoPlus}
use Rattle.ncc_cypher.proofs.reader.Reader.further.Given as goal

abbrev pub invariant-loop-self : goal.invariant-loop-self
invariant-loop-self l = record {
  moves : (names : List Name) (w : Site) → scope w ≡ l.bound → reads names (s.After w (l.fn.first ∷ [])) l.fn.self ≡ reads names (s.After w l.terms) l.self;
  same : Same l.fn.self l.self;
  inside : (start : List ℕ) → Within start l.fn.self l.self;
  fewer : NotMore l.fn.self l.self;
  some : NotEmpty l.terms;
}

abbrev pub decreases-loop-self : goal.decreases-loop-self
decreases-loop-self l = length (left l.self)
