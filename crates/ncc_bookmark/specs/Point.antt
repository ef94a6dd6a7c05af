-- The place that a bookmark names. A bookmark is of this project: no public standard says what stands in one.
use Rattle.std.specs.Prelude.{ℕ, ◌<◌, ◌^◌, max, List, [], ◌∷◌}

-- a place of the history of a cluster
pub record Point : Type 0 where
  -- the number of the cluster
  pub cluster : ℕ
  -- how many entries of the history it covers
  pub place : ℕ

-- both numbers have 64 bits
pub record Fits (point : Point) : Type 0 where
  pub cluster : point.cluster < 2 ^ 64
  pub place : point.place < 2 ^ 64

-- the greatest place of these, 0 for none
abbrev pub greatest_place : List Point → ℕ
greatest_place [] = 0
greatest_place (point ∷ points) = max point.place (greatest_place points)
