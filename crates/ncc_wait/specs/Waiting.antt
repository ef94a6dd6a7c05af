-- What becomes of a wait, as a function that other definitions can compute with.
use Rattle.std.specs.Prelude.{ℕ, nat_lt, nat_le, if◌then◌else◌}
use Rattle.ncc_wait.specs.declared.outcomes.Outcome.{Outcome}
use Rattle.ncc_wait.specs.declared.outcomes.Outcome.TheVariants.{Ready, NotYet, Late}

-- a wait for a place at a member that has applied so many places, at this moment, with this deadline
abbrev pub outcome_of : ℕ → ℕ → ℕ → ℕ → Outcome
outcome_of at need now deadline =
    if nat_le need at then Ready else if nat_lt deadline now then Late else NotYet
