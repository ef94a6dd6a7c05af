-- What a pattern asks for, as the code has it.
use Rattle.std.specs.Prelude.{List, ℕ, Option, Some, None}
use Rattle.std.specs.Borrow.{Bor}
use Rattle.ncc_store.specs.declared.scalar.Scalar.{Scalar}
use Rattle.ncc_store.specs.Exec.{Wanted}

-- the key is a text that is borrowed
abbrev pub wanted_of : Option (Bor (List ℕ) × Scalar) → Wanted
wanted_of None = None
wanted_of (Some w) = Some (w.0.now, w.1)
