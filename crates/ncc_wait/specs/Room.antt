-- Who waits in a room, by ascending number of connection, and who acts next.
use Rattle.std.specs.Prelude.{◌≡◌, ℕ, ◌<◌, nat_eq, nat_lt, Bool, true, false, not, if◌then◌else◌, List, [], ◌∷◌, Option, Some, None}
use Rattle.std.specs.List.{AllByRecursion, Contains, filter, list_any}
use Rattle.ncc_wait.specs.declared.outcomes.Outcome.{Outcome}
use Rattle.ncc_wait.specs.declared.outcomes.Outcome.TheVariants.{Ready, NotYet, Late}
use Rattle.ncc_wait.specs.declared.parked.Parked.{Parked}
use Rattle.ncc_wait.specs.Waiting.{outcome_of}

-- each number is below all later ones
unfoldable pub Ascending : List Parked → Type 0
Ascending [] = Unit {0}
Ascending (p ∷ ps) = AllByRecursion (λ q. p.conn < q.conn) ps × Ascending ps

-- somebody of this number waits
abbrev pub is_parked : ℕ → List Parked → Bool
is_parked conn ps = list_any (λ p. nat_eq p.conn conn) ps

-- with one more, at its place by number
unfoldable pub put : Parked → List Parked → List Parked
put p [] = p ∷ []
put p (q ∷ qs) = if nat_lt p.conn q.conn then p ∷ q ∷ qs else q ∷ put p qs

-- without the one of this number
abbrev pub without : ℕ → List Parked → List Parked
without conn ps = filter (λ p. not (nat_eq p.conn conn)) ps

-- what becomes of one, at a member that has applied so many places, at this moment
abbrev pub outcome_for : ℕ → ℕ → Parked → Outcome
outcome_for at now p = outcome_of at p.need now p.deadline

-- ready or late
abbrev pub is_settled : Outcome → Bool
is_settled Ready = true
is_settled Late = true
is_settled NotYet = false

-- the first that is ready or late, with its outcome
unfoldable pub next : ℕ → ℕ → List Parked → Option (ℕ × Outcome)
next at now [] = None
next at now (p ∷ ps) = if is_settled (outcome_for at now p) then Some (p.conn, outcome_for at now p) else next at now ps

-- those who wait on, where this one is taken out
abbrev pub left_by : Option (ℕ × Outcome) → List Parked → List Parked
left_by None ps = ps
left_by (Some x) ps = without x.0 ps

-- One of these waits on this connection and is no longer to wait, with this outcome; each with a lower number is to wait.
pub record IsNext (at now conn : ℕ) (outcome : Outcome) (ps : List Parked) : Type 0 where
  pub parked : Parked
  pub waits : Contains ps parked
  pub conn_is : parked.conn ≡ conn
  pub outcome_is : outcome_for at now parked ≡ outcome
  pub settled : outcome ≡ NotYet → ⊥
  pub lowest : AllByRecursion (λ q. q.conn < conn → outcome_for at now q ≡ NotYet) ps
