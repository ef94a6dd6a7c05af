-- Which statements write.
use Rattle.std.specs.Prelude.{Bool, true, false, ◌||◌}
use Rattle.ncc_cypher.specs.declared.tree.Head.{Head}
use Rattle.ncc_cypher.specs.declared.tree.Head.TheVariants as h
use Rattle.ncc_cypher.specs.declared.tree.Change.{Change}
use Rattle.ncc_cypher.specs.declared.tree.Change.TheVariants as c
use Rattle.ncc_cypher.specs.declared.tree.Statement.{Statement}

-- CREATE and MERGE
abbrev pub makes : Head → Bool
makes (h.Create a ps) = true
makes (h.Merge a p) = true
makes _ = false

-- SET and DELETE
abbrev pub changes : Change → Bool
changes c.Keep = false
changes _ = true

abbrev pub writes : Statement → Bool
writes s = makes s.head || changes s.change
