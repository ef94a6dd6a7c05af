-- What a clock in memory has told.
use Rattle.std.specs.Prelude.{◌≡◌, ℕ, ◌+◌, ◌-◌, ◌<◌, ◌≤◌, ◌^◌, nat_lt, if◌then◌else◌, List, [], ◌∷◌}
use Rattle.std.specs.Prelude.{◌++◌, length, take, replicate, Option, Some, None}
use Rattle.ncc_base.specs.Clock.{MayTell, last_of}
use Rattle.ncc_base.specs.Faults.{one_more}

pub record Handed : Type 0 where
  -- the moments that its maker listed
  pub moments : List ℕ
  -- how many of them it told
  pub given : ℕ
  -- how often it told the last again
  pub again : ℕ

abbrev pub last_told : Handed → ℕ
last_told h = last_of 0 (take h.given h.moments)

-- all that it told, unless the last came again so often that the count stands
abbrev pub all_told : Handed → Option (List ℕ)
all_told h = if nat_lt (h.again + 1) (2 ^ 64) then Some (take h.given h.moments ++ replicate h.again (last_told h)) else None

-- after one more
abbrev pub handed_on : Handed → Handed
handed_on h = if nat_lt h.given (length h.moments)
    then record { moments = h.moments; given = h.given + 1; again = h.again }
    else record { moments = h.moments; given = h.given; again = one_more h.again }

-- what is kept is right
pub record IsHanded (moments : List ℕ) (given again : ℕ) : Type 0 where
  pub may : MayTell moments
  pub within : given ≤ length moments
  pub over : 0 < again → given ≡ length moments
