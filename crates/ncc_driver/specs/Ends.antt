-- What the parts of an end make. No public clause speaks of it.
use Rattle.std.specs.Prelude.{◌≡◌, ℕ, List, Some}
use Rattle.ncc_bookmark.specs.Point.{Point}
use Rattle.ncc_bookmark.specs.Reading.{point_named}

-- The text is a bookmark of this cluster.
abbrev pub IsNamed : List ℕ → ℕ → Type 0
IsNamed bookmark cluster = (point : Point) × (point_named bookmark ≡ Some point) × (point.cluster ≡ cluster)
