-- The keyword of a head and its label.
use Rattle.std.specs.Prelude.{List, ℕ, Option}

pub data Opening : Type 0 where
  Create : List ℕ → Opening
  Find : Option (List ℕ) → Opening
  Merge : List ℕ → Opening
