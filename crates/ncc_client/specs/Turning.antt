-- What the parts of a client's work do. No public clause speaks of it.
use Rattle.std.specs.Prelude.{◌≡◌, ℕ, ◌≤◌, List, [], ◌∷◌, ◌++◌, length, map, IsTrue}
use Rattle.std.specs.List.{Contains}
use Rattle.ncc_driver.specs.declared.config.SessionConfig.{SessionConfig}
use Rattle.ncc_driver.specs.declared.action.Action.{Action}
use Rattle.ncc_driver.specs.declared.action.Action.TheVariants.{Finish}
use Rattle.ncc_driver.specs.declared.action.Input.{Input}
use Rattle.ncc_driver.specs.declared.action.Input.TheVariants as i
use Rattle.ncc_driver.specs.Config.{config_fits}
use Rattle.ncc_driver.specs.Fitting.{end_fits}
use Rattle.ncc_driver.specs.Work.{Row, Job}
use Rattle.ncc_driver.specs.State.{BehindAt}
use Rattle.ncc_driver.specs.Session.{acts, told_in}
use Rattle.ncc_driver.specs.Talk.{Held, Stands}
use Rattle.ncc_client.specs.declared.working.Made.{Made}
use Rattle.ncc_client.specs.declared.working.Made.TheVariants as m
use Rattle.ncc_client.specs.declared.working.Stop.{Stop}
use Rattle.ncc_client.specs.declared.working.Stop.TheVariants as stop
use Rattle.ncc_client.specs.Calls.{Call, action_of, given_by, given}
use Rattle.ncc_client.specs.Working.{one_work}

-- These calls were made, and the work was told what they gave: there the session stands.
pub record At (config : SessionConfig) (job : Job) (behind : List (List Row) → Type 0) (calls : List Call) (began : ℕ) (later : List ℕ)
    (held : Held) : Type 0 where
  pub one_each : length later ≡ length (given calls)
  pub stands : Stands held config (one_work job began calls later ∷ []) (map action_of calls)
  pub is_behind : BehindAt held.core.stage behind (told_in config (one_work job began calls later ∷ []))

-- The same of some calls and a configuration that fits, and the work was not begun later than this.
pub record IsAt (job : Job) (behind : List (List Row) → Type 0) (last : ℕ) (held : Held) : Type 0 where
  pub config : SessionConfig
  pub calls : List Call
  pub began : ℕ
  pub later : List ℕ
  pub fits : IsTrue (config_fits config)
  pub at : At config job behind calls began later held
  pub in_time : began ≤ last

-- ---- one call

-- What a call did: it is the call of this action, and gave this.
pub record Calls (made : List Call → Type 0) (rose : Type 0) (action : Action) (inputs : List Input) : Type 0 where
  pub call : Call
  pub made_it : made (call ∷ [])
  pub does : action_of call ≡ action
  pub gives : given_by call ≡ inputs
  pub lost : Contains inputs i.Lost → rose

-- By what came of an action. The end of the work takes no call.
abbrev pub MakesBy : (List Call → Type 0) → Type 0 → Type 0 → Action → Made → Type 0
MakesBy made rose same action m.Nothing = Calls made rose action []
MakesBy made rose same action (m.Given input) = Calls made rose action (input ∷ [])
MakesBy made rose same action (m.Ended end) = (action ≡ Finish end) × same

-- ---- turns

-- what was done
pub record Went (made : List Call → Type 0) (ticked : List ℕ → Type 0) (rose : Type 0) : Type 0 where
  pub calls : List Call
  pub moments : List ℕ
  pub made_it : made calls
  pub ticked_it : ticked moments
  pub lost : Contains (given calls) i.Lost → rose

-- The work goes on behind it.
pub record Goes (job : Job) (before after : List (List Row) → Type 0) (made : List Call → Type 0) (ticked : List ℕ → Type 0) (rose : Type 0)
    (old new : Held) : Type 0 where
  pub went : Went made ticked rose
  pub goes_on : (config : SessionConfig) (calls : List Call) (began : ℕ) (later : List ℕ) → At config job before calls began later old
      → At config job after (calls ++ went.calls) began (later ++ went.moments) new

-- Behind the actions that were done stands the end, if it came to that.
abbrev pub StopsBy : Stop → List Action → Type 0
StopsBy (stop.Ended end) rest = (more : List Action) × (rest ≡ Finish end ∷ more)
StopsBy stop.Memory rest = Unit {0}

-- What the end says has a spelling.
abbrev pub StopFits : Stop → Type 0
StopFits (stop.Ended end) = IsTrue (end_fits end)
StopFits stop.Memory = Unit {0}

pub record Stopped (config : SessionConfig) (job : Job) (calls : List Call) (began : ℕ) (later : List ℕ) (why : Stop) : Type 0 where
  pub one_each : length later ≡ length (given calls)
  pub rest : List Action
  pub acts_are : acts config (one_work job began calls later ∷ []) ≡ map action_of calls ++ rest
  pub stops : StopsBy why rest

-- The work stops behind it.
pub record Stops (job : Job) (before : List (List Row) → Type 0) (made : List Call → Type 0) (ticked : List ℕ → Type 0) (rose : Type 0)
    (old : Held) (why : Stop) : Type 0 where
  pub went : Went made ticked rose
  pub stopped : (config : SessionConfig) (calls : List Call) (began : ℕ) (later : List ℕ) → At config job before calls began later old
      → Stopped config job (calls ++ went.calls) began (later ++ went.moments) why

-- A whole work: from its start on.
pub record Worked (config : SessionConfig) (job : Job) (made : List Call → Type 0) (ticked : List ℕ → Type 0) (rose : Type 0) (why : Stop)
    : Type 0 where
  pub went : Went made ticked rose
  pub began : ℕ
  pub later : List ℕ
  pub moments_are : went.moments ≡ began ∷ later
  pub stopped : Stopped config job went.calls began later why

-- Memory was wanting before it began.
pub record Unbegun (made : List Call → Type 0) (ticked : List ℕ → Type 0) (why : Stop) : Type 0 where
  pub made_none : made []
  pub ticked_none : ticked []
  pub memory : why ≡ stop.Memory
