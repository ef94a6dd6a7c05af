-- How often an object of the outside has failed.
use Rattle.std.specs.Prelude.{ℕ, ◌+◌, ◌^◌, ◌<◌, ◌≤◌, ◌⊎◌, nat_lt, if◌then◌else◌}

-- a count of faults rose between two moments, or it stands at the greatest u64, where it stays
abbrev pub Rose : ℕ → ℕ → Type 0
Rose old new = (old < new) ⊎ (2 ^ 64 ≤ new + 1)

-- the count after one more, which stays at the greatest u64
abbrev pub one_more : ℕ → ℕ
one_more count = if nat_lt (count + 1) (2 ^ 64) then count + 1 else count
