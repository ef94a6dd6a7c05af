use Rattle.std.proofs.Common.{◌≡◌, ◌++◌, ◌∷◌, [], ℕ, List, Option, Some, None, false, ◌≤◌, length}
use Rattle.ncc_cypher.specs.Grammar.{Name, NotEmpty}
use Rattle.ncc_cypher.specs.Site.{Site, Made, Body}
use Rattle.ncc_cypher.specs.Site as p
use Rattle.ncc_cypher.specs.Opening as o
use Rattle.ncc_cypher.specs.State as s
use Rattle.ncc_cypher.specs.Machine.{scope, a_node}
use Rattle.ncc_cypher.specs.Reading.{reads, left, further_columns, column_values, NotMore, Same, Within, NoPlus}
use Rattle.ncc_cypher.proofs.reader.Reader.further_items.Given as goal

-- the columns so far, and those from the last item on
abbrev pub invariant-loop-self : goal.invariant-loop-self
invariant-loop-self l = record {
  moves : (names : List Name) (b : Body) → b.made.name ≡ l.bound → reads names (s.Aliased b (l.fn.first.0 ∷ [])) l.fn.self ≡ reads names (s.Aliased b l.items) l.self;
  columns : (start : List ℕ) → (from : List ℕ) × (column_values (further_columns (Some start) l.fn.first.1 false (left l.fn.self)) ≡ l.columns ++ column_values (further_columns (Some from) l.last false (left l.self)));
}

abbrev pub decreases-loop-self : goal.decreases-loop-self
decreases-loop-self l = length (left l.self)
