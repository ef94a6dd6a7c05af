-- What a node of the tree stands for, and what holds of it.
use Rattle.std.specs.Prelude.{ℕ, ◌<◌, ◌≤◌, ◌⊎◌, ◌^◌, ◌-◌, List, [], ◌∷◌, ◌++◌, length}
use Rattle.std.specs.List.{AllByRecursion}
use Rattle.ncc_wait.specs.declared.parked.Parked.{Parked}
use Rattle.ncc_wait.specs.declared.span.Span.{Span}
use Rattle.ncc_wait.specs.declared.tree.Node.{Node}
use Rattle.ncc_wait.specs.declared.tree.Node.TheVariants.{Empty, One, Fork}
use Rattle.ncc_wait.specs.Room.{Ascending}

-- those who wait, by ascending number
abbrev pub below : Node → List Parked
below Empty = []
below (One p) = p ∷ []
below (Fork s low high) = low.value ++ high.value

abbrev pub WaitFrom : ℕ → ℕ → Parked → Type 0
WaitFrom need deadline p = (need ≤ p.need) × (deadline ≤ p.deadline)

abbrev pub IsLow : Span → Parked → Type 0
IsLow s p = (s.from ≤ p.conn) × (p.conn < s.split)

abbrev pub IsHigh : Span → Parked → Type 0
IsHigh s p = (s.split ≤ p.conn) × (p.conn ≤ s.to)

-- the sides of a fork, as far as their numbers go
pub record IsLoose (s : Span) (low high : List Parked) : Type 0 where
  pub from : s.from ≤ s.split
  pub to : s.split ≤ s.to
  pub lows : AllByRecursion (IsLow s) low
  pub highs : AllByRecursion (IsHigh s) high
  pub low_ascends : Ascending low
  pub high_ascends : Ascending high

-- no side is empty, and nobody waits for less than the fork knows
pub record IsFork (s : Span) (low high : List Parked) : Type 0 where
  pub loose : IsLoose s low high
  pub some_low : 0 < length low
  pub some_high : 0 < length high
  pub waits_low : AllByRecursion (WaitFrom s.need s.deadline) low
  pub waits_high : AllByRecursion (WaitFrom s.need s.deadline) high

abbrev pub IsTree : Node → Type 0
IsTree Empty = Unit {0}
IsTree (One p) = Unit {0}
IsTree (Fork s low high) = IsFork s low.value high.value

abbrev pub IsLooseAt : Node → Type 0
IsLooseAt Empty = Unit {0}
IsLooseAt (One p) = Unit {0}
IsLooseAt (Fork s low high) = IsLoose s low.value high.value

-- the least and the greatest number that may stand in a node
abbrev pub ends_of : Node → ℕ × ℕ
ends_of Empty = (0, 2 ^ 64 - 1)
ends_of (One p) = (p.conn, p.conn)
ends_of (Fork s low high) = (s.from, s.to)

-- those who wait are some, in order, with numbers from the one to the other
pub record IsWithin (ends : ℕ × ℕ) (ps : List Parked) : Type 0 where
  pub some : 0 < length ps
  pub ascends : Ascending ps
  pub within : AllByRecursion (λ p. (ends.0 ≤ p.conn) × (p.conn ≤ ends.1)) ps

-- a number is below or above all that may stand in a node
abbrev pub Outside : ℕ → Node → Type 0
Outside conn node = (conn < (ends_of node).0) ⊎ ((ends_of node).1 < conn)
