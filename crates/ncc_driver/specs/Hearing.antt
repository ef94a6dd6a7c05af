-- What the parts of a session make of what comes on a link. No public clause speaks of it.
use Rattle.std.specs.Prelude.{◌≡◌, ◌⊎◌, ℕ, ◌+◌, Bool, true, false, List, [], ◌∷◌, ◌++◌, length, drop, Option, Some, None, if◌then◌else◌}
use Rattle.std.specs.Prelude.{nat_lt}
use Rattle.ncc_stream.specs.Stream.{going, behind}
use Rattle.ncc_chunk.specs.Chunks.{EndsAfter, IsTooLongAfter}
use Rattle.ncc_chunk.specs.Inflow.{Inflow, Stands as StandsFor, HandsOut as HandsMessage}
use Rattle.ncc_driver.specs.declared.config.SessionConfig.{SessionConfig}
use Rattle.ncc_driver.specs.declared.standing.Core.{Core}
use Rattle.ncc_driver.specs.declared.standing.Asked.{Asked}
use Rattle.ncc_driver.specs.declared.standing.Asked.TheVariants as a
use Rattle.ncc_driver.specs.declared.answers.Told.{Told}
use Rattle.ncc_driver.specs.declared.answers.Told.TheVariants as m
use Rattle.ncc_driver.specs.Answers.{shake_of}
use Rattle.ncc_driver.specs.declared.standing.Stage.{Stage}
use Rattle.ncc_driver.specs.declared.standing.Stage.TheVariants as stage
use Rattle.ncc_driver.specs.declared.action.Action.{Action}
use Rattle.ncc_driver.specs.declared.action.Input.{Input}
use Rattle.ncc_driver.specs.declared.link.Item.{Item}
use Rattle.ncc_driver.specs.declared.link.Item.TheVariants.{Shaken, Message, TooLong}
use Rattle.ncc_driver.specs.Work.{Row, Job}
use Rattle.ncc_driver.specs.Line.{Line}
use Rattle.ncc_driver.specs.State.{BehindAt}
use Rattle.ncc_driver.specs.Session.{Listening, Standing, State, items_of, takes, on}
use Rattle.ncc_driver.specs.Talk.{Keeps, KeepsAt}

-- ---- a link

-- It keeps the same with more behind.
abbrev pub FeedsLine : Line → List ℕ → Line → Type 0
FeedsLine old piece new = (came : List ℕ) (taken : ℕ) → Keeps old came taken → Keeps new (came ++ piece) taken

-- the answer of the handshake, once it is whole
abbrev pub shake_item : List ℕ → Option Item
shake_item shake = if nat_lt (length shake) 4 then None else Some (Shaken shake)

-- what a dechunker hands out next
abbrev pub HandsItem : Inflow → Option Item → Inflow → Type 0
HandsItem old (Some (Shaken bytes)) new = ⊥
HandsItem old (Some (Message message)) new = HandsMessage old message new
HandsItem old (Some TooLong) new = (stream : List ℕ) (handed : List (List ℕ)) → StandsFor old stream handed → IsTooLongAfter stream handed
HandsItem old None new =
    (new ≡ old) × ((stream : List ℕ) (handed : List (List ℕ)) → StandsFor old stream handed → EndsAfter stream handed)

-- Behind a message that is too long nothing is kept.
abbrev pub KeepsBehind : Item → Line → List ℕ → ℕ → Type 0
KeepsBehind TooLong line came taken = Unit {0}
KeepsBehind _ line came taken = Keeps line came taken

-- This item is the next that is whole; or there is none.
abbrev pub TakesItem : Line → Option Item → Line → Type 0
TakesItem old (Some item) new =
    (came : List ℕ) (taken : ℕ) → Keeps old came taken
    → (drop taken (items_of came) ≡ item ∷ drop (taken + 1) (items_of came)) × KeepsBehind item new came (taken + 1)
TakesItem old None new =
    (came : List ℕ) (taken : ℕ) → Keeps old came taken → (drop taken (items_of came) ≡ []) × Keeps new came taken

-- what four bytes tell
abbrev pub shake_told : Asked → List ℕ → Told
shake_told (a.Shake leg) bytes = shake_of bytes
shake_told _ bytes = m.Bad

-- ---- going on by what came

-- the session takes what comes
abbrev pub awaits_more : Stage → Bool
awaits_more (stage.Awaits asked) = true
awaits_more _ = false

abbrev pub hearing : SessionConfig → Job → ℕ → Listening → List ℕ → Standing
hearing config job now l came = going (takes config job now) l (drop l.taken (items_of came)) []

abbrev pub listening_of : Core → Option (List (List Row)) → ℕ → Listening
listening_of core told taken = record { place = record { core = core; told = told }; taken = taken }

-- there is nothing more to take
abbrev pub IsStill : Stage → List Item → Type 0
IsStill stage left = (awaits_more stage ≡ false) ⊎ (left ≡ [])

-- From there the session went on to where the core and the link stand, by what came; where it says so there is nothing more to take.
pub record Gone (config : SessionConfig) (job : Job) (now : ℕ) (stands : List (List Row) → Type 0) (from : Listening) (came : List ℕ)
    (before : List Action) (core : Core) (line : Line) (after : List Action) (more : Bool) : Type 0 where
  pub told : Option (List (List Row))
  pub taken : ℕ
  pub written : List Action
  pub stands_behind : BehindAt core.stage stands told
  pub keeps : KeepsAt core.stage line came taken
  pub same : hearing config job now from came ≡ behind written (hearing config job now (listening_of core told taken) came)
  pub out_is : after ≡ before ++ written
  pub still : more ≡ false → IsStill core.stage (drop taken (items_of came))

abbrev pub Hears :
    SessionConfig → Job → ℕ → (List (List Row) → Type 0) → (List (List Row) → Type 0)
    → Core → Line → List Action → Core → Line → List Action → Bool → Type 0
Hears config job now stood stands core line before new new_line after more =
    (told : Option (List (List Row))) (came : List ℕ) (taken : ℕ) → BehindAt core.stage stood told → KeepsAt core.stage line came taken
    → Gone config job now stands (listening_of core told taken) came before new new_line after more

-- ---- an input

abbrev pub state_of : Core → Option (List (List Row)) → List ℕ → ℕ → State
state_of core told came taken = record { place = record { core = core; told = told }; came = came; taken = taken }

-- The session went on by an input.
abbrev pub Moves :
    SessionConfig → Job → ℕ → Input → (List (List Row) → Type 0) → (List (List Row) → Type 0)
    → Core → Line → List Action → Core → Line → List Action → Type 0
Moves config job now input stood stands core line before new new_line after =
    (told : Option (List (List Row))) (came : List ℕ) (taken : ℕ) → BehindAt core.stage stood told → KeepsAt core.stage line came taken
    → let r = on config job now (state_of core told came taken) input in
    (r.state.place.core ≡ new) × (after ≡ before ++ r.actions) × KeepsAt new.stage new_line r.state.came r.state.taken
    × BehindAt new.stage stands r.state.place.told
