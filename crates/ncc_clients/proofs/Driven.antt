-- What is used of the sessions of drivers: what one sends on a link, and what a success of it rests on.
use Rattle.std.specs.Prelude.{◌≡◌, ◌⊎◌, ℕ, Bool, List, [], ◌∷◌, ◌++◌, map, drop, Ok, codes, IsTrue, false}
use Rattle.std.specs.List.{AllByRecursion, Contains}
use Rattle.ncc_pack.specs.declared.value.Value.{Value}
use Rattle.ncc_pack.specs.declared.value.Value.TheVariants as v
use Rattle.ncc_bolt.specs.Fields.{Pairs}
use Rattle.ncc_bolt.specs.Writing.{fits_request}
use Rattle.ncc_bolt.specs.declared.message.Request.{Request}
use Rattle.ncc_chunk.specs.Messages.{messages_of}
use Rattle.ncc_driver.specs.declared.config.SessionConfig.{SessionConfig}
use Rattle.ncc_driver.specs.declared.standing.Leg.{Leg}
use Rattle.ncc_driver.specs.declared.standing.Stage.TheVariants as stage
use Rattle.ncc_driver.specs.declared.action.Action.{Action}
use Rattle.ncc_driver.specs.declared.action.Action.TheVariants.{Connect, Finish}
use Rattle.ncc_driver.specs.declared.action.Input.{Input}
use Rattle.ncc_driver.specs.declared.action.Input.TheVariants as i
use Rattle.ncc_driver.specs.declared.action.WorkDone.{WorkDone}
use Rattle.ncc_driver.specs.Config.{config_fits}
use Rattle.ncc_driver.specs.Work.{Job}
use Rattle.ncc_driver.specs.Requests.{shake_bytes, text_at, mode}
use Rattle.ncc_driver.specs.Attempts.{place_of}
use Rattle.ncc_driver.specs.LawsLegs.{DoneIn, presented_behind, sent_since, wire, EndsLast}
use Rattle.ncc_driver.specs.LawsJoins.{SucceedsOnBytes}
use Rattle.ncc_driver.specs.Session.{State, Begun, on, session}
use Rattle.ncc_driver.specs.Laws.{linked_by, unless_lost, is_awaited, LostWhileLinked}
use Rattle.ncc_clients.specs.Transacting.{LogsIn, IsTransaction, IsRouting, TellsBookmark}
use Rattle.ncc_clients.specs.Course.{IsAllowed}

-- the dictionary of a BEGIN that presents these bookmarks
abbrev pub begins_with : List Value → Bool → Pairs
begins_with bookmarks writes = (codes "bookmarks", v.List bookmarks) ∷ text_at (codes "mode") (mode writes) ∷ []

-- This was sent on a link, thing by thing: nothing yet; or the handshake and requests with a spelling, which are those of a client that
-- asks
-- for a routing table at most, or that opens at most one transaction, with these bookmarks.
pub record IsLeg (bookmarks : List Value) (sent : List (List ℕ)) : Type 0 where
  pub requests : List Request
  pub fit : AllByRecursion (λ request. IsTrue (fits_request request)) requests
  pub leg : LogsIn IsRouting requests ⊎ ((writes : Bool) × LogsIn (IsTransaction (begins_with bookmarks writes)) requests)
  pub sent_is : (sent ≡ []) ⊎ (sent ≡ shake_bytes ∷ map wire requests)

-- At each moment of a work, what it sent since its last Connect is that of such a link.
abbrev pub SendsByLegs : Type 0
SendsByLegs =
    (config : SessionConfig) (works : List Begun) (work : Begun) (front back : List Action) → IsTrue (config_fits config)
    → AllByRecursion IsAllowed (works ++ work ∷ []) → DoneIn config works work (front ++ back)
    → IsLeg (presented_behind config works) (sent_since [] front)

-- A success rests on a message that came on the last link: a SUCCESS with its bookmark, whose text names its place.
pub record IsTold (came : List ℕ) (done : WorkDone) : Type 0 where
  pub message : List ℕ
  pub came_is : Contains (messages_of (drop 4 came)) message
  pub tells : TellsBookmark message done.bookmark
  pub place_is : done.place ≡ place_of done.bookmark

abbrev pub TellsSuccess : Type 0
TellsSuccess =
    (config : SessionConfig) (works : List Begun) (work : Begun) (front : List Action) (done : WorkDone) (back : List Action)
    → DoneIn config works work (front ++ Finish (Ok done) ∷ back) → IsTold (session config (works ++ work ∷ [])).state.came done

-- ---- one input

-- A Connect is the last thing that a session wants behind an input, when no link is there any more; then it waits for that link. It
-- waits for a
-- link only behind a Connect, or where it did before.
pub record Joins (config : SessionConfig) (job : Job) (now : ℕ) (s : State) (input : Input) : Type 0 where
  pub connects : (front : List Action) (address : List ℕ) (back : List Action)
      → (on config job now s input).actions ≡ front ++ Connect address ∷ back
      → (back ≡ []) × ((leg : Leg) × ((on config job now s input).state.place.core.stage ≡ stage.Joins leg))
      × (linked_by (unless_lost input (is_awaited s.place.core.stage i.Lost)) front ≡ false)
  pub waits : (leg : Leg) → (on config job now s input).state.place.core.stage ≡ stage.Joins leg
      → ((front : List Action) × (address : List ℕ) × ((on config job now s input).actions ≡ front ++ Connect address ∷ []))
      ⊎ (s.place.core.stage ≡ stage.Joins leg)

pub record DriverSays : Type 0 where
  pub legs : SendsByLegs
  pub ends_last : EndsLast
  pub commits : TellsSuccess
  pub joins : (config : SessionConfig) (job : Job) (now : ℕ) (s : State) (input : Input) → Joins config job now s input
  pub succeeds : SucceedsOnBytes
  pub lost : LostWhileLinked
