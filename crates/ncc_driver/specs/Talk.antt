-- A session as its callers see it: which works and actions it stands for, and what each call makes of that.
use Rattle.std.specs.Prelude.{◌≡◌, ℕ, ◌-◌, ◌^◌, min, Bool, true, false, List, [], ◌∷◌, ◌++◌, length, take, drop, IsTrue}
use Rattle.std.specs.List.{list_all}
use Rattle.ncc_chunk.specs.Inflow.{Stands as StandsFor}
use Rattle.ncc_driver.specs.declared.config.SessionConfig.{SessionConfig}
use Rattle.ncc_driver.specs.declared.standing.Core.{Core}
use Rattle.ncc_driver.specs.declared.standing.Asked.{Asked}
use Rattle.ncc_driver.specs.declared.standing.Asked.TheVariants as a
use Rattle.ncc_driver.specs.declared.standing.Stage.{Stage}
use Rattle.ncc_driver.specs.declared.standing.Stage.TheVariants as stage
use Rattle.ncc_driver.specs.declared.action.Action.{Action}
use Rattle.ncc_driver.specs.declared.action.Input.{Input}
use Rattle.ncc_driver.specs.State.{BehindAt}
use Rattle.ncc_driver.specs.Work.{Row, Job, rows_fit}
use Rattle.ncc_driver.specs.Line.{Line}
use Rattle.ncc_driver.specs.Session.{Begun, session, acts, told_in}

-- what a session keeps: no history
pub record Held : Type 0 where
  -- memory was wanting
  pub spent : Bool
  pub config : SessionConfig
  pub core : Core
  pub line : Line
  -- the actions that were not yet handed out
  pub queue : List Action

-- of these bytes so much is kept
pub record Keeps (line : Line) (came : List ℕ) (taken : ℕ) : Type 0 where
  pub shake_is : line.shake ≡ take 4 came
  pub handed : List (List ℕ)
  pub stands : StandsFor line.inflow (drop 4 came) handed
  pub count : length handed ≡ taken - 1
  pub taken_is : line.taken ≡ min taken (2 ^ 64 - 1)

-- while an answer is awaited
abbrev pub KeepsAt : Stage → Line → List ℕ → ℕ → Type 0
KeepsAt (stage.Awaits asked) line came taken = Keeps line came taken
KeepsAt _ line came taken = Unit {0}

-- These works were begun, and these actions were handed out: it stands where the session of the works does, and what it handed out
-- and what it holds are what that session wants done.
pub record Stands (held : Held) (config : SessionConfig) (works : List Begun) (out : List Action) : Type 0 where
  pub fine : held.spent ≡ false
  pub same : held.config ≡ config
  pub core_is : (session config works).state.place.core ≡ held.core
  pub line_is : let s = (session config works).state in KeepsAt held.core.stage held.line s.came s.taken
  pub out_is : acts config works ≡ out ++ held.queue

-- Memory was wanting: what was handed out is the first of what that session wants done, and nothing more is handed out.
pub record Broke (held : Held) (config : SessionConfig) (works : List Begun) (out : List Action) : Type 0 where
  pub spent : held.spent ≡ true
  pub rest : List Action
  pub begins : acts config works ≡ out ++ rest

abbrev pub works_at : Stage → Bool
works_at stage.Rests = false
works_at _ = true

-- a work was begun that has not ended
abbrev pub is_working : Held → Bool
is_working held = works_at held.core.stage

-- a work that was just begun
abbrev pub begun : Job → ℕ → Begun
begun job now = record { job = job; began = now; inputs = [] }

-- the same work, told one thing more
abbrev pub grown : Begun → Input → ℕ → Begun
grown work input now = record { job = work.job; began = work.began; inputs = work.inputs ++ (input, now) ∷ [] }

-- what the calls make of it
abbrev pub Begins : Held → Job → ℕ → Held → Type 0
Begins old job now new =
    (config : SessionConfig) (works : List Begun) (out : List Action)
    → Stands old config works out → Stands new config (works ++ begun job now ∷ []) out

-- where the work stands behind the rows of the running attempt
abbrev pub Tells : (List (List Row) → Type 0) → Held → Job → Input → ℕ → Held → Type 0
Tells stands old job input now new =
    (config : SessionConfig) (works : List Begun) (last : Begun) (out : List Action)
    → last.job ≡ job → Stands old config (works ++ last ∷ []) out
    → BehindAt old.core.stage stands (told_in config (works ++ last ∷ []))
    → Stands new config (works ++ grown last input now ∷ []) out

abbrev pub TellBreaks : Held → Job → Input → ℕ → Held → Type 0
TellBreaks old job input now new =
    (config : SessionConfig) (works : List Begun) (last : Begun) (out : List Action)
    → last.job ≡ job → Stands old config (works ++ last ∷ []) out
    → Broke new config (works ++ grown last input now ∷ []) out

-- The work stood behind the rows of the running attempt, and stands behind them after the call.
abbrev pub StaysWith : (List (List Row) → Type 0) → (List (List Row) → Type 0) → Held → Job → Input → ℕ → Held → Type 0
StaysWith before after old job input now new =
    (config : SessionConfig) (works : List Begun) (last : Begun) (out : List Action)
    → last.job ≡ job → Stands old config (works ++ last ∷ []) out
    → BehindAt old.core.stage before (told_in config (works ++ last ∷ []))
    → BehindAt new.core.stage after (told_in config (works ++ grown last input now ∷ []))

abbrev pub HandsOut : Held → Action → Held → Type 0
HandsOut old action new =
    (config : SessionConfig) (works : List Begun) (out : List Action)
    → Stands old config works out → Stands new config works (out ++ action ∷ [])

-- All was handed out.
abbrev pub AllOut : Held → Type 0
AllOut held =
    (config : SessionConfig) (works : List Begun) (out : List Action) → Stands held config works out → acts config works ≡ out

-- It is this of the session of the works that were begun.
abbrev pub Shows : {A : Type 0} → (Core → A) → Held → A → Type 0
Shows view held answer =
    (config : SessionConfig) (works : List Begun) (out : List Action)
    → Stands held config works out → answer ≡ view (session config works).state.place.core

-- The work stands behind some rows that fit.
abbrev pub StandsSomewhere : (List (List Row) → Type 0) → Type 0
StandsSomewhere stands = (told : List (List Row)) × stands told × IsTrue (list_all rows_fit told)

-- from where it was started
abbrev pub StandsAsked : Asked → (List (List Row) → Type 0) → Type 0
StandsAsked a.Run stands = StandsSomewhere stands
StandsAsked a.Pull stands = StandsSomewhere stands
StandsAsked a.Commit stands = StandsSomewhere stands
StandsAsked _ stands = Unit {0}

abbrev pub StandsAt : Stage → (List (List Row) → Type 0) → Type 0
StandsAt (stage.Awaits asked) stands = StandsAsked asked stands
StandsAt _ stands = Unit {0}
