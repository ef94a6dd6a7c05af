-- How much an attempt may still send.
use Rattle.std.specs.Prelude.{◌≡◌, ◌≤◌, ℕ, suc, ◌+◌, ◌-◌, ◌*◌, ℤ, Bool, true, false, if◌then◌else◌, List, [], ◌∷◌, length, bytes_eq}
use Rattle.std.specs.List.{All}
use Rattle.ncc_bolt.specs.declared.message.Request.TheVariants as r
use Rattle.ncc_driver.specs.declared.config.SessionConfig.{SessionConfig}
use Rattle.ncc_driver.specs.declared.standing.Leg.TheVariants.{Routing, Working}
use Rattle.ncc_driver.specs.declared.standing.Stage.{Stage}
use Rattle.ncc_driver.specs.declared.standing.Stage.TheVariants as stage
use Rattle.ncc_driver.specs.declared.standing.Asked.{Asked}
use Rattle.ncc_driver.specs.declared.standing.Asked.TheVariants as a
use Rattle.ncc_driver.specs.declared.action.Action.{Action}
use Rattle.ncc_driver.specs.declared.action.Action.TheVariants.{Send}
use Rattle.ncc_driver.specs.declared.action.Input.{Input}
use Rattle.ncc_driver.specs.declared.action.Input.TheVariants as i
use Rattle.ncc_driver.specs.declared.work.WorkStep.TheVariants as w
use Rattle.ncc_driver.specs.Work.{Row, Job, job_by}
use Rattle.ncc_driver.specs.Works.{add_steps, put_steps, get_steps}
use Rattle.ncc_driver.specs.State.{SessionState}
use Rattle.ncc_driver.specs.Attempts.{so_far}
use Rattle.ncc_driver.specs.Session.{State, Moved, on, told_all}
use Rattle.ncc_driver.specs.LawsLegs.{wire}

-- A work commits behind so many steps at the latest.
abbrev pub HasSteps : ℕ → Job → Type 0
HasSteps most job = (told : List (List Row)) → most ≤ length told → job.steps told ≡ w.Commit

-- the handshakes and requests that are sent by these actions, GOODBYE apart
abbrev pub messages_in : List Action → ℕ
messages_in [] = 0
messages_in (Send bytes ∷ actions) = if bytes_eq bytes (wire r.Goodbye) then messages_in actions else suc (messages_in actions)
messages_in (action ∷ actions) = messages_in actions

-- the requests of a transaction behind so many of its steps, of which there are at most so many: RUN and PULL for each that is left, and
-- COMMIT
abbrev pub steps_left : ℕ → ℕ → ℕ
steps_left most ran = 2 * (most - ran) + 1

-- How many handshakes and requests an attempt sends at most from here on, GOODBYE apart. One that begins may first ask a router: a
-- handshake, HELLO, ROUTE; then a handshake, HELLO, BEGIN, and the steps.
abbrev pub left_awaiting : ℕ → Asked → ℕ → ℕ
left_awaiting most (a.Shake Routing) ran = steps_left most 0 + 5
left_awaiting most (a.Hello Routing) ran = steps_left most 0 + 4
left_awaiting most a.Route ran = steps_left most 0 + 3
left_awaiting most (a.Shake Working) ran = steps_left most 0 + 2
left_awaiting most (a.Hello Working) ran = steps_left most 0 + 1
left_awaiting most a.Begin ran = steps_left most 0
left_awaiting most a.Run ran = steps_left most (ran + 1) + 1
left_awaiting most a.Pull ran = steps_left most (ran + 1)
left_awaiting most a.Commit ran = 0

-- the same by what is waited for; nothing where no attempt runs
abbrev pub left_at : ℕ → Stage → ℕ → ℕ
left_at most (stage.Joins Routing) ran = steps_left most 0 + 6
left_at most (stage.Joins Working) ran = steps_left most 0 + 3
left_at most (stage.Awaits asked) ran = left_awaiting most asked ran
left_at most _ ran = 0

-- the same of a session whose running attempt was told these rows
abbrev pub left_of : ℕ → SessionState → ℕ
left_of most place = left_at most place.core.stage (length (so_far place.told))

-- An attempt begins with this input.
abbrev pub begins_attempt : Input → Bool
begins_attempt i.Start = true
begins_attempt i.Woken = true
begins_attempt _ = false

-- Where no attempt begins, each thing that is sent lowers what is left.
abbrev pub SendsLower : Type 0
SendsLower =
    (config : SessionConfig) (job : Job) (most now : ℕ) (s : State) (input : Input) → HasSteps most job → begins_attempt input ≡ false
    → let r = on config job now s input in messages_in r.actions + left_of most r.state.place ≤ left_of most s.place

-- So much is left at most, at whatever place.
abbrev pub LeftAtMost : Type 0
LeftAtMost = (most : ℕ) (place : SessionState) → left_of most place ≤ 2 * most + 7

-- What begins an attempt sends nothing yet.
abbrev pub BeginsSilent : Type 0
BeginsSilent =
    (config : SessionConfig) (job : Job) (now : ℕ) (s : State) (input : Input) → begins_attempt input ≡ true
    → messages_in (on config job now s input).actions ≡ 0

-- Inputs of which only the first may begin an attempt have so much sent at most.
abbrev pub AttemptSendsAtMost : Type 0
AttemptSendsAtMost =
    (config : SessionConfig) (job : Job) (most : ℕ) (s : State) (first : Moved) (more : List Moved) → HasSteps most job
    → All (λ (x : Moved). begins_attempt x.0 ≡ false) more
    → messages_in (told_all config job s (first ∷ more)).actions ≤ 2 * most + 7

-- The three works have two steps at most.
abbrev pub AddHasTwo : Type 0
AddHasTwo = (key : List ℕ) (by : ℤ) → HasSteps 2 (job_by true (add_steps key by))

abbrev pub PutHasOne : Type 0
PutHasOne = (key value : List ℕ) → HasSteps 1 (job_by true (put_steps key value))

abbrev pub GetHasOne : Type 0
GetHasOne = (key : List ℕ) → HasSteps 1 (job_by false (get_steps key))
