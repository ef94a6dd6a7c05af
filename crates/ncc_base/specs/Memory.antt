-- What the objects in memory show.
use Rattle.std.specs.Prelude.{ℕ, List}

-- a source in memory
pub record Supply : Type 0 where
  -- the bytes that are not yet read
  pub left : List ℕ
  -- the numbers of the calls that fail, from 1
  pub failing : List ℕ
  -- the calls so far
  pub calls : ℕ
  pub faults : ℕ

-- a sink in memory
pub record Received : Type 0 where
  -- the bytes that it took
  pub held : List ℕ
  -- those of them that were flushed
  pub flushed : List ℕ
  -- the numbers of the calls that fail, from 1
  pub failing : List ℕ
  -- the calls so far, writes and flushes alike
  pub calls : ℕ
  pub faults : ℕ
