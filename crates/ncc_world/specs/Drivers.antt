-- What a world keeps of its sessions of drivers, and which sessions of a run these are.
use Rattle.std.specs.Prelude.{◌≡◌, ℕ, suc, ◌+◌, ◌-◌, ◌≤◌, ◌==◌, nat_eq, nat_le, Bool, false, ◌&&◌, if◌then◌else◌, List, [], ◌∷◌, ◌++◌, length, map, Option, Some, None, Result}
use Rattle.std.specs.Prelude.{slice_get, slice_set}
use Rattle.std.specs.List.{list_any}
use Rattle.ncc_pack.specs.declared.value.Value.{Value}
use Rattle.ncc_wait.specs.declared.parked.Parked.{Parked}
use Rattle.ncc_driver.specs.declared.action.Action.{Action}
use Rattle.ncc_driver.specs.declared.action.WorkDone.{WorkDone}
use Rattle.ncc_driver.specs.declared.action.WorkError.{WorkError}
use Rattle.ncc_driver.specs.declared.config.SessionConfig.{SessionConfig}
use Rattle.ncc_clients.specs.Members.{addresses}
use Rattle.ncc_clients.specs.Drives.{is_busy, is_due, new_driver}
use Rattle.ncc_clients.specs.Links.{Driver, Driving, Linked}
use Rattle.ncc_clients.specs.Held.{Held, IsDriver, began_in, effect_of, own}
use Rattle.ncc_clients.specs.declared.driver.Effect.{Effect}
use Rattle.ncc_world.specs.declared.setup.Setup.{Setup}
use Rattle.ncc_world.specs.declared.error.WorldError.{WorldError}
use Rattle.ncc_world.specs.declared.error.WorldError.TheVariants.{Busy, NoSession}
use Rattle.ncc_world.specs.declared.seen.WorkSeen.{WorkSeen}
use Rattle.ncc_world.specs.Showing.{work_seen}

pub record KeptDrivers : Type 0 where
  pub list : List Held
  -- the address of each member, member 1 first
  pub names : List Value
  -- the sessions that sleep
  pub sleepers : List Parked
  -- the numbers of the connections that sessions made
  pub linked : List ℕ
  pub works : List WorkSeen

-- Of what the session at an index wants done these actions are left; the others have all done.
abbrev pub left_of : ℕ → List Action → ℕ → List Action
left_of at left index = if index == at then left else []

-- a session that sleeps until a moment: it waits for a place that nobody reaches, up to the moment before
abbrev pub sleeper : ℕ → ℕ → Parked
sleeper number until = record { conn = number; need = if until == 0 then 0 else 1; deadline = until - 1 }

-- those of these numbers are still to be woken, and are not among those that sleep
abbrev pub sleeps_as : List ℕ → ℕ → Option ℕ → List Parked
sleeps_as pending number None = []
sleeps_as pending number (Some until) = if list_any (nat_eq number) pending then [] else sleeper number until ∷ []

-- by ascending number, from this one on
unfoldable pub sleepers_from : List ℕ → ℕ → List Driver → List Parked
sleepers_from pending number [] = []
sleepers_from pending number (d ∷ ds) = sleeps_as pending number d.wakes ++ sleepers_from pending (suc number) ds

-- It stands for this session of the run, whose last work began by now.
pub record IsOne (now : ℕ) (held : Held) (d : Driver) (left : List Action) : Type 0 where
  pub stands : IsDriver held d left
  pub began : began_in d.works ≤ now

pub record AreEach (now at : ℕ) (left : List Action) (list : List Held) (drivers : List Driver) : Type 0 where
  pub count : length list ≡ length drivers
  pub each : (index : ℕ) (held : Held) (d : Driver) → slice_get list index ≡ Some held → slice_get drivers index ≡ Some d
      → IsOne now held d (left_of at left index)

abbrev pub made_by_session : ℕ → Linked → Bool
made_by_session conn l = l.conn == conn

-- The sessions of a run, where the one at an index still has these actions to do, and those of these numbers are still to be woken.
pub record AreAtWork (s : Setup) (at : ℕ) (left : List Action) (pending : List ℕ) (k : KeptDrivers) (now : ℕ) (driving : Driving) : Type 0
  where
    pub each : AreEach now at left k.list driving.drivers
    pub names : k.names ≡ addresses (s.cores + s.replicas) 1
    pub sleepers : k.sleepers ≡ sleepers_from pending 1 driving.drivers
    pub linked : (conn : ℕ) → list_any (nat_eq conn) k.linked ≡ list_any (made_by_session conn) driving.linked
    pub works : k.works ≡ map work_seen driving.ended

-- ---- what the calls speak of

abbrev pub has_session : ℕ → ℕ → Bool
has_session count session = nat_le 1 session && nat_le session count

abbrev pub is_busy_in : Option Driver → Bool
is_busy_in None = false
is_busy_in (Some d) = is_busy d

-- why a session may not begin a work
abbrev pub refuses_work : Driving → ℕ → Option WorldError
refuses_work driving session =
    if has_session (length driving.drivers) session
    then (if is_busy_in (slice_get driving.drivers (session - 1)) then Some Busy else None)
    else Some NoSession

abbrev pub with_session : SessionConfig → Driving → Driving
with_session config driving = record driving { drivers = driving.drivers ++ new_driver config ∷ [] }

-- with this session at an index
abbrev pub with_one : ℕ → Driver → Driving → Driving
with_one index d driving = record driving { drivers = slice_set driving.drivers index d }

-- the session at an index has a link that is this connection
abbrev pub joined_as : ℕ → ℕ → Driver → Driving → Driving
joined_as index conn d driving = record {
  drivers = slice_set driving.drivers index (record d { link = Some (record { conn = conn; up = []; down = 0 }) });
  linked = driving.linked ++ (record { conn = conn; session = index; work = length d.works - 1 } ∷ []);
  ended = driving.ended;
}

-- a work of the session at an index has ended
abbrev pub ended_as : ℕ → ℕ → Driver → Result WorkDone WorkError → Driving → Driving
ended_as line index d result driving =
    record driving { ended = driving.ended ++ (record { line = line; session = index; work = length d.works - 1; result = result } ∷ []) }

-- This number is not among those that are still to be woken.
abbrev pub IsAwake : ℕ → List ℕ → Type 0
IsAwake number pending = list_any (nat_eq number) pending ≡ false

-- What the sessions keep stands for the session at an index as it was, with the actions it had left, and now stands for another in its
-- place, with others left. Who sleeps, and what else is kept, is the same.
abbrev pub Becomes : Setup → ℕ → KeptDrivers → KeptDrivers → Driver → List Action → Driver → List Action → Type 0
Becomes s index old new d left e more =
    (now : ℕ) (driving : Driving) (pending : List ℕ) → slice_get driving.drivers index ≡ Some d
    → AreAtWork s index left pending old now driving → AreAtWork s index more pending new now (with_one index e driving)

-- Where it had these actions left, the first is done at its own link.
abbrev pub DoesFirst : Setup → ℕ → KeptDrivers → KeptDrivers → Driver → List Action → Effect → Type 0
DoesFirst s index old new d left effect =
    (now : ℕ) (driving : Driving) (pending : List ℕ) → slice_get driving.drivers index ≡ Some d
    → AreAtWork s index left pending old now driving
    → (action : Action) × (behind : List Action) × (left ≡ action ∷ behind) × (effect ≡ effect_of d action)
    × AreAtWork s index behind pending new now (with_one index (own d action) driving)

-- the numbers of those whose sleep ends by now, from this one on
unfoldable pub due_from : ℕ → ℕ → List Driver → List ℕ
due_from now number [] = []
due_from now number (d ∷ ds) =
    if is_due now d.wakes then number ∷ due_from now (suc number) ds else due_from now (suc number) ds
