-- What a client did: one work of a session over links.
use Rattle.std.specs.Prelude.{◌≡◌, ◌⊎◌, ℕ, List, [], ◌∷◌, ◌++◌, length, map, take, Result, Ok, Err}
use Rattle.std.specs.List.{Contains}
use Rattle.ncc_driver.specs.declared.config.SessionConfig.{SessionConfig}
use Rattle.ncc_driver.specs.declared.action.Action.{Action}
use Rattle.ncc_driver.specs.declared.action.Action.TheVariants.{Finish}
use Rattle.ncc_driver.specs.declared.action.Input.{Input}
use Rattle.ncc_driver.specs.declared.action.Input.TheVariants as i
use Rattle.ncc_driver.specs.declared.action.WorkDone.{WorkDone}
use Rattle.ncc_driver.specs.declared.action.WorkError.{WorkError}
use Rattle.ncc_driver.specs.Work.{Job}
use Rattle.ncc_driver.specs.Session.{Moved, Begun, acts}
use Rattle.ncc_client.specs.declared.status.ClientStatus.{ClientStatus}
use Rattle.ncc_client.specs.declared.status.ClientStatus.TheVariants as status
use Rattle.ncc_client.specs.Calls.{Call, action_of, given}
use Rattle.ncc_client.specs.Line.{line_of}
use Rattle.ncc_client.specs.Words.{Asks}

-- each input with its moment
unfoldable pub timed : List Input → List ℕ → List Moved
timed [] moments = []
timed (input ∷ inputs) [] = []
timed (input ∷ inputs) (now ∷ moments) = (input, now) ∷ timed inputs moments

-- a work that was begun and started at a moment, and then told what these calls gave, each at a moment of its own
abbrev pub one_work : Job → ℕ → List Call → List ℕ → Begun
one_work job began calls later = record { job = job; began = began; inputs = (i.Start, began) ∷ timed (given calls) later }

abbrev pub End : Type 0
End = Result WorkDone WorkError

-- how the work ended, what the client then says, and what it wrote of the line
abbrev pub SaysOf : End → ClientStatus → List ℕ → Type 0
SaysOf (Ok done) status.Done wrote = wrote ≡ line_of done
SaysOf (Ok done) status.WriteFault wrote = (count : ℕ) × (wrote ≡ take count (line_of done))
SaysOf (Err error) (status.Failed reason) wrote = (reason ≡ error) × (wrote ≡ [])
SaysOf end says wrote = ⊥

-- Behind the actions that the calls did stands the end of the work; where memory was wanting, nothing was written.
abbrev pub SaysEnd : ClientStatus → List Action → List ℕ → Type 0
SaysEnd status.Memory rest wrote = wrote ≡ []
SaysEnd says rest wrote = (end : End) × (more : List Action) × (rest ≡ Finish end ∷ more) × SaysOf end says wrote

-- With these calls and bytes, and these moments of the clock, one work ran in a session of this configuration. The last parameter
-- says that the count of losses rose.
pub record Ran (config : SessionConfig) (job : Job) (calls : List Call) (moments wrote : List ℕ) (rose : Type 0) (says : ClientStatus)
    : Type 0 where
  -- the clock was read once for the beginning and the start, and once for each input that a call gave
  pub began : ℕ
  pub later : List ℕ
  pub moments_are : moments ≡ began ∷ later
  pub one_each : length later ≡ length (given calls)
  -- the calls did the first actions of the work, in their order
  pub rest : List Action
  pub acts_are : acts config (one_work job began calls later ∷ []) ≡ map action_of calls ++ rest
  -- a link was lost only where the count of losses rose
  pub lost : Contains (given calls) i.Lost → rose
  -- the end, what the client says and what it wrote
  pub says_end : SaysEnd says rest wrote

-- Memory was wanting before the work was begun: no call was made, the clock was not read, and nothing was written.
pub record NeverBegan (calls : List Call) (moments wrote : List ℕ) (says : ClientStatus) : Type 0 where
  pub says_memory : says ≡ status.Memory
  pub no_calls : calls ≡ []
  pub no_moments : moments ≡ []
  pub no_bytes : wrote ≡ []

-- What a client did that was given these words, as far as the objects tell: which calls it made, which moments the clock told, and
-- which bytes it wrote.
pub record WorkedBy (words : List (List ℕ)) (made : List Call → Type 0) (ticked took : List ℕ → Type 0) (rose : Type 0)
    (says : ClientStatus) : Type 0 where
  pub config : SessionConfig
  pub job : Job
  pub asks : Asks words config job
  pub calls : List Call
  pub moments : List ℕ
  pub wrote : List ℕ
  pub made_it : made calls
  pub ticked_it : ticked moments
  pub took_it : took wrote
  pub ran : NeverBegan calls moments wrote says ⊎ Ran config job calls moments wrote rose says

-- what is said of an end, and what was written of its line
pub record SaysBy (took : List ℕ → Type 0) (end : End) (says : ClientStatus) : Type 0 where
  pub wrote : List ℕ
  pub took_it : took wrote
  pub says_it : SaysEnd says (Finish end ∷ []) wrote
