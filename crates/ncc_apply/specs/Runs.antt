-- Stamps kept as runs of equal ones.
use Rattle.std.specs.Prelude.{ℕ, ◌-◌, ◌<◌, List, [], ◌∷◌, ◌++◌, replicate}
use Rattle.ncc_tx.specs.declared.stamp.Stamp.{Stamp}
use Rattle.ncc_apply.specs.declared.runs.Run.{Run}

abbrev pub stamp_in : Run → Stamp
stamp_in r = record { term = r.term; valid = r.valid }

-- the stamps of the places behind one, each run written out
unfoldable pub unrolled : ℕ → List Run → List Stamp
unrolled from [] = []
unrolled from (r ∷ rs) = replicate (r.until - from) (stamp_in r) ++ unrolled r.until rs

-- the last place
unfoldable pub end_of : ℕ → List Run → ℕ
end_of from [] = from
end_of from (r ∷ rs) = end_of r.until rs

-- each run ends past the one before
unfoldable pub IsRising : ℕ → List Run → Type 0
IsRising from [] = Unit {0}
IsRising from (r ∷ rs) = (from < r.until) × IsRising r.until rs
