-- How works end: the moments of a session, and the cause of each end.
use Rattle.std.specs.Prelude.{◌≡◌, ◌⊎◌, ◌↔◌, ℕ, ◌+◌, ◌-◌, ◌^◌, ◌<◌, ◌≤◌, min, List, [], ◌∷◌, ◌++◌, drop}
use Rattle.std.specs.Prelude.{Some, Result, Ok, Err, codes}
use Rattle.std.specs.List.{All, Contains, flat_map}
use Rattle.ncc_route.specs.declared.table.Table.{Table}
use Rattle.ncc_route.specs.Routing.{ends, addresses}
use Rattle.ncc_driver.specs.declared.config.SessionConfig.{SessionConfig}
use Rattle.ncc_driver.specs.declared.standing.Leg.{Leg}
use Rattle.ncc_driver.specs.declared.standing.Asked.{Asked}
use Rattle.ncc_driver.specs.declared.standing.Asked.TheVariants as a
use Rattle.ncc_driver.specs.declared.standing.Stage.{Stage}
use Rattle.ncc_driver.specs.declared.standing.Stage.TheVariants as stage
use Rattle.ncc_driver.specs.declared.action.Action.{Action}
use Rattle.ncc_driver.specs.declared.action.Action.TheVariants.{Finish}
use Rattle.ncc_driver.specs.declared.action.Input.{Input}
use Rattle.ncc_driver.specs.declared.action.Input.TheVariants as i
use Rattle.ncc_driver.specs.declared.action.WorkDone.{WorkDone}
use Rattle.ncc_driver.specs.declared.action.Last.{Last}
use Rattle.ncc_driver.specs.declared.action.Last.TheVariants as last
use Rattle.ncc_driver.specs.declared.action.WorkError.{WorkError}
use Rattle.ncc_driver.specs.declared.action.WorkError.TheVariants as e
use Rattle.ncc_driver.specs.declared.link.Item.{Item}
use Rattle.ncc_driver.specs.declared.answers.Told.{Told}
use Rattle.ncc_driver.specs.declared.answers.Told.TheVariants as says
use Rattle.ncc_driver.specs.Work.{Job}
use Rattle.ncc_driver.specs.Requests.{shakes}
use Rattle.ncc_driver.specs.State.{SessionState, Turned}
use Rattle.ncc_driver.specs.Attempts.{awaits, attempts, loses, behind, role_of, done_of, one_more}
use Rattle.ncc_driver.specs.Session.{State, Listening, Moved, Begun, items_of, told_by, answered, listening, on, begins, told_all}
use Rattle.ncc_driver.specs.Session.{new_state, acts}
use Rattle.ncc_driver.specs.Laws.{but_receives}
use Rattle.ncc_driver.specs.LawsAnswers.{IsAnswer}

-- ---- moments

-- what a session meets
pub data Met : Type 0 where
  -- an attempt is to begin
  starts : Met
  -- the link is there
  joins : Leg → Met
  -- an item of the link while the answer of this request is awaited, and the number of its message
  hears : Asked → ℕ → Item → Met
  -- the link was not opened, or has broken
  breaks : Met

-- a moment of a session: the work that runs and when it was begun, when it is, where the session stands, and what it meets
pub record Moment : Type 0 where
  pub job : Job
  pub began : ℕ
  pub now : ℕ
  pub place : SessionState
  pub met : Met

abbrev pub moment : Begun → ℕ → SessionState → Met → Moment
moment work now place met = record { job = work.job; began = work.began; now = now; place = place; met = met }

abbrev pub turns_by : SessionConfig → Job → ℕ → SessionState → Met → Turned
turns_by config job now place starts = attempts config job.writes place now
turns_by config job now place (joins leg) = awaits place (a.Shake leg) shakes
turns_by config job now place (hears asked number item) =
    behind config job now place asked number (told_by asked now place.core.rows item)
turns_by config job now place breaks = loses place now

-- what is done at a moment
abbrev pub done_at : SessionConfig → Moment → List Action
done_at config here = (turns_by config here.job here.now here.place here.met).actions

abbrev pub hears_item : Begun → ℕ → Listening → Asked → Item → Moment
hears_item work now l asked item = moment work now l.place (hears asked (min l.taken (2 ^ 64 - 1) - 1) item)

abbrev pub next_item : SessionConfig → Begun → ℕ → Listening → Asked → Item → Listening
next_item config work now l asked item = record { place = (answered config work.job now l asked item).place; taken = l.taken + 1 }

-- the answers that a session hears among these items: it takes them as long as it waits for one
unfoldable pub heard_in : SessionConfig → Begun → ℕ → Listening → List Item → List Moment
heard_in config work now l [] = []
heard_in config work now l (item ∷ items) = elim l.place.core.stage [
  | stage.Awaits asked ↦ hears_item work now l asked item ∷ heard_in config work now (next_item config work now l asked item) items
  | _ ↦ []
]

abbrev pub met_by : SessionConfig → Begun → ℕ → State → Stage → Input → List Moment
met_by config work now s stage.Begun i.Start = moment work now s.place starts ∷ []
met_by config work now s stage.Sleeps i.Woken = moment work now s.place starts ∷ []
met_by config work now s (stage.Joins leg) i.Connected = moment work now s.place (joins leg) ∷ []
met_by config work now s (stage.Joins leg) i.Lost = moment work now s.place breaks ∷ []
met_by config work now s (stage.Awaits asked) (i.Bytes bytes) =
    heard_in config work now (listening s) (drop s.taken (items_of (s.came ++ bytes)))
met_by config work now s (stage.Awaits asked) i.Lost = moment work now s.place breaks ∷ []
met_by config work now s _ input = []

unfoldable pub moments_in : SessionConfig → Begun → State → List Moved → List Moment
moments_in config work s [] = []
moments_in config work s (x ∷ xs) =
    met_by config work x.1 s s.place.core.stage x.0 ++ moments_in config work (on config work.job x.1 s x.0).state xs

unfoldable pub moments_from : SessionConfig → State → List Begun → List Moment
moments_from config s [] = []
moments_from config s (work ∷ works) =
    let t = begins work.began s in
    moments_in config work t work.inputs ++ moments_from config (told_all config work.job t work.inputs).state works

-- all moments of a session of these works
abbrev pub moments : SessionConfig → List Begun → List Moment
moments config works = moments_from config (new_state config) works

-- What a session wants done is what is done at its moments, and Receives between the pieces of an answer.
abbrev pub ActsByMoments : Type 0
ActsByMoments =
    (config : SessionConfig) (works : List Begun)
    → but_receives (acts config works) ≡ but_receives (flat_map (done_at config) (moments config works))

-- ---- causes

-- what the item tells of the request
abbrev pub told_at : Moment → Asked → Item → Told
told_at here asked item = told_by asked here.now here.place.core.rows item

-- COMMIT is answered with a bookmark.
abbrev pub IsDone : Moment → WorkDone → Type 0
IsDone here result =
    (number : ℕ) × (item : Item) × (bookmark : List ℕ) × (here.met ≡ hears a.Commit number item)
    × (told_at here a.Commit item ≡ says.Committed bookmark) × (result ≡ done_of here.place.core bookmark)

-- An attempt may be tried again behind this code.
abbrev pub MayBeTriedAgain : List ℕ → Type 0
MayBeTriedAgain code =
    ((rest : List ℕ) × (code ≡ codes "Neo.TransientError." ++ rest)) ⊎ (code ≡ codes "Neo.ClientError.Cluster.NotALeader")

abbrev pub NamesNone : Job → Table → Type 0
NamesNone job table = addresses (role_of job.writes) table ≡ []

-- The table is fresh, and names no server for the work.
abbrev pub HoldsNone : Moment → Type 0
HoldsNone here = (table : Table) × (here.place.core.table ≡ Some table) × (here.now < ends table) × NamesNone here.job table

abbrev pub no_server : Job → Last
no_server job = last.NoServer (role_of job.writes)

-- What is told fails an attempt for this reason, and it may be tried again: a table that names no server, or a code.
abbrev pub FailsTold : Job → Told → Last → Type 0
FailsTold job (says.Routed table) reason = NamesNone job table × (reason ≡ no_server job)
FailsTold job (says.Failed code) reason = MayBeTriedAgain code × (reason ≡ last.Code code)
FailsTold job _ reason = ⊥

-- the same of what is met
abbrev pub FailsBy : Moment → Met → Last → Type 0
FailsBy here starts reason = HoldsNone here × (reason ≡ no_server here.job)
FailsBy here (joins leg) reason = ⊥
FailsBy here (hears asked number item) reason = FailsTold here.job (told_at here asked item) reason
FailsBy here breaks reason = reason ≡ last.LinkLost

-- the number of the attempt, from 1
abbrev pub attempt_at : Moment → Met → ℕ
attempt_at here starts = one_more here.place.core.attempts
attempt_at here _ = here.place.core.attempts

-- An attempt fails that may be tried again, 30,000 milliseconds or more after the work began.
abbrev pub IsSpent : Moment → ℕ → Last → Type 0
IsSpent here attempts reason = FailsBy here here.met reason × (30_000 ≤ here.now - here.began) × (attempts ≡ attempt_at here here.met)

-- A server answers FAILURE with a code that is not tried again.
abbrev pub IsRefused : Moment → ℕ → List ℕ → Type 0
IsRefused here attempts code =
    (asked : Asked) × (number : ℕ) × (item : Item) × (here.met ≡ hears asked number item) × (told_at here asked item ≡ says.Failed code)
    × ¬ (MayBeTriedAgain code) × (attempts ≡ here.place.core.attempts)

-- The message of this number is no answer of the request that is awaited.
abbrev pub IsBad : Moment → ℕ → Type 0
IsBad here number =
    (asked : Asked) × (item : Item) × (here.met ≡ hears asked number item) × ¬ (IsAnswer asked here.place.core.rows item)

-- the cause of each end
abbrev pub IsCause : Moment → Result WorkDone WorkError → Type 0
IsCause here (Ok result) = IsDone here result
IsCause here (Err (e.RetriesSpent attempts reason)) = IsSpent here attempts reason
IsCause here (Err (e.Refused attempts code)) = IsRefused here attempts code
IsCause here (Err (e.BadReply number)) = IsBad here number

-- At each moment of a session, its work ends exactly so where the cause is.
abbrev pub EndsByCause : SessionConfig → Moment → Type 0
EndsByCause config here = (end : Result WorkDone WorkError) → Contains (done_at config here) (Finish end) ↔ IsCause here end

abbrev pub EndsExactly : Type 0
EndsExactly = (config : SessionConfig) (works : List Begun) → All (EndsByCause config) (moments config works)
