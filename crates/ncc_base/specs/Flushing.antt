-- What of its bytes a sink has flushed, where it tells both.
use Rattle.std.specs.Prelude.{◌≡◌, ℕ, List, ◌++◌, Option, None, Some}

-- all that it holds is flushed
abbrev pub IsAllFlushed : Option (List ℕ) → Option (List ℕ) → Type 0
IsAllFlushed (Some held) (Some flushed) = flushed ≡ held
IsAllFlushed _ _ = Unit {0}

-- what is flushed is a beginning of what it holds
abbrev pub IsFlushedFromFront : Option (List ℕ) → Option (List ℕ) → Type 0
IsFlushedFromFront (Some held) (Some flushed) = (more : List ℕ) × (held ≡ flushed ++ more)
IsFlushedFromFront _ _ = Unit {0}

-- between two moments, what was flushed stays so, and is told as before
abbrev pub StaysFlushed : Option (List ℕ) → Option (List ℕ) → Type 0
StaysFlushed (Some before) (Some after) = (more : List ℕ) × (after ≡ before ++ more)
StaysFlushed (Some before) None = ⊥
StaysFlushed None _ = Unit {0}
