-- What is kept of a link.
use Rattle.std.specs.Prelude.{ℕ, List}
use Rattle.ncc_chunk.specs.Inflow.{Inflow}

-- what is kept of a link: its first bytes, at most four; what is kept of the stream behind them; and how many items were taken
pub record Line : Type 0 where
  pub shake : List ℕ
  pub inflow : Inflow
  pub taken : ℕ
