-- A session: what it wants done for the works that were begun, by what it was told and when.
use Rattle.std.specs.Prelude.{ℕ, ◌+◌, ◌-◌, ◌^◌, min, Bool, if◌then◌else◌, nat_lt, List, [], ◌∷◌, ◌++◌, length, map, take, drop, Option}
use Rattle.std.specs.Prelude.{Some, None}
use Rattle.ncc_stream.specs.Stream.{Stand, Move, going}
use Rattle.ncc_chunk.specs.Messages.{messages_of, is_too_long}
use Rattle.ncc_driver.specs.declared.config.SessionConfig.{SessionConfig}
use Rattle.ncc_driver.specs.declared.standing.Leg.{Leg}
use Rattle.ncc_driver.specs.declared.standing.Asked.{Asked}
use Rattle.ncc_driver.specs.declared.standing.Asked.TheVariants as a
use Rattle.ncc_driver.specs.declared.standing.Stage.{Stage}
use Rattle.ncc_driver.specs.declared.standing.Stage.TheVariants as stage
use Rattle.ncc_driver.specs.declared.action.Action.{Action}
use Rattle.ncc_driver.specs.declared.action.Action.TheVariants.{Receive}
use Rattle.ncc_driver.specs.declared.link.Item.{Item}
use Rattle.ncc_driver.specs.declared.link.Item.TheVariants.{Shaken, Message, TooLong}
use Rattle.ncc_driver.specs.declared.action.Input.{Input}
use Rattle.ncc_driver.specs.declared.action.Input.TheVariants as i
use Rattle.ncc_driver.specs.Work.{Row, Job}
use Rattle.ncc_driver.specs.Requests.{shakes}
use Rattle.ncc_driver.specs.Answers.{shake_of, message_of}
use Rattle.ncc_driver.specs.declared.answers.Told.{Told}
use Rattle.ncc_driver.specs.declared.answers.Told.TheVariants as m
use Rattle.ncc_driver.specs.State.{SessionState, Turned, new_place}
use Rattle.ncc_driver.specs.Attempts.{at_core, awaits, attempts, loses, behind}

-- ---- what comes on a link: four bytes, then messages, and a message that is too long, behind which nothing is read

abbrev pub end_of : Bool → List Item
end_of long = if long then TooLong ∷ [] else []

abbrev pub stream_items : List ℕ → List Item
stream_items stream = map Message (messages_of stream) ++ end_of (is_too_long stream)

-- what is whole among the bytes that came on a link
abbrev pub items_of : List ℕ → List Item
items_of came = if nat_lt (length came) 4 then [] else Shaken (take 4 came) ∷ stream_items (drop 4 came)

-- ---- what a session makes of it

-- a session, and how many items of its link it took
pub record Listening : Type 0 where
  pub place : SessionState
  pub taken : ℕ

abbrev pub told_by : Asked → ℕ → List Row → Item → Told
told_by (a.Shake leg) now rows (Shaken bytes) = shake_of bytes
told_by asked now rows (Message bytes) = message_of asked now rows bytes
told_by asked now rows _ = m.Bad

-- Messages are numbered from 0, and the four bytes before them count as message 0.
abbrev pub answered : SessionConfig → Job → ℕ → Listening → Asked → Item → Turned
answered config job now l asked item =
    behind config job now l.place asked (min l.taken (2 ^ 64 - 1) - 1) (told_by asked now l.place.core.rows item)

abbrev pub Standing : Type 0
Standing = Stand Listening Item (Unit {0}) Action

abbrev pub turned : Turned → ℕ → List Item → List (Unit {0}) → Option Standing
turned t taken items facts =
    Some (record { core = record { place = t.place; taken = taken }; items = items; facts = facts; written = t.actions })

abbrev pub takes_by : SessionConfig → Job → ℕ → Listening → Stage → Item → List Item → List (Unit {0}) → Option Standing
takes_by config job now l (stage.Awaits asked) item items facts =
    turned (answered config job now l asked item) (l.taken + 1) items facts
takes_by config job now l _ item items facts = None

-- it takes what comes as long as it waits for an answer
unfoldable pub takes : SessionConfig → Job → ℕ → Move Listening Item (Unit {0}) Action
takes config job now l [] facts = None
takes config job now l (item ∷ items) facts = takes_by config job now l l.place.core.stage item items facts

-- ---- inputs

-- where a session stands, all that came on its link, and how many items of that it took
pub record State : Type 0 where
  pub place : SessionState
  pub came : List ℕ
  pub taken : ℕ

pub record Ran : Type 0 where
  pub state : State
  pub actions : List Action

abbrev pub new_state : SessionConfig → State
new_state config = record { place = new_place config; came = []; taken = 0 }

abbrev pub same : State → Ran
same s = record { state = s; actions = [] }

-- The link is left as it is.
abbrev pub on_place : State → Turned → Ran
on_place s t = record { state = record { place = t.place; came = s.came; taken = s.taken }; actions = t.actions }

-- a new link, on which nothing has come
abbrev pub opens : State → Leg → Ran
opens s leg =
    let t = awaits s.place (a.Shake leg) shakes in
    record { state = record { place = t.place; came = []; taken = 0 }; actions = t.actions }

-- Bytes that leave the answer unfinished are followed by more.
abbrev pub or_more : List Action → List Action
or_more [] = Receive ∷ []
or_more (action ∷ actions) = action ∷ actions

abbrev pub heard : State → List ℕ → Standing → Ran
heard s came r = record { state = record { place = r.core.place; came = came; taken = r.core.taken }; actions = or_more r.written }

abbrev pub listening : State → Listening
listening s = record { place = s.place; taken = s.taken }

abbrev pub hears : SessionConfig → Job → ℕ → State → List ℕ → Ran
hears config job now s bytes =
    let came = s.came ++ bytes in heard s came (going (takes config job now) (listening s) (drop s.taken (items_of came)) [])

-- An input that is not waited for changes nothing.
abbrev pub on_input : SessionConfig → Job → ℕ → State → Stage → Input → Ran
on_input config job now s stage.Begun i.Start = on_place s (attempts config job.writes s.place now)
on_input config job now s stage.Sleeps i.Woken = on_place s (attempts config job.writes s.place now)
on_input config job now s (stage.Joins leg) i.Connected = opens s leg
on_input config job now s (stage.Joins leg) i.Lost = on_place s (loses s.place now)
on_input config job now s (stage.Awaits asked) (i.Bytes bytes) = hears config job now s bytes
on_input config job now s (stage.Awaits asked) i.Lost = on_place s (loses s.place now)
on_input config job now s _ input = same s

unfoldable pub on : SessionConfig → Job → ℕ → State → Input → Ran
on config job now s input = on_input config job now s s.place.core.stage input

-- ---- works

-- an input, and its moment in milliseconds
abbrev pub Moved : Type 0
Moved = Input × ℕ

-- a work that was begun at a moment, and what the session was told while it was the last one begun
pub record Begun : Type 0 where
  pub job : Job
  pub began : ℕ
  pub inputs : List Moved

-- The delay starts anew, and attempts are counted anew.
unfoldable pub begins : ℕ → State → State
begins now s = record {
  place = at_core s.place (record s.place.core { stage = stage.Begun; began = now; attempts = 0; delay = 1000 });
  came = s.came;
  taken = s.taken;
}

abbrev pub ahead : List Action → Ran → Ran
ahead actions r = record { state = r.state; actions = actions ++ r.actions }

unfoldable pub told_all : SessionConfig → Job → State → List Moved → Ran
told_all config job s [] = same s
told_all config job s (x ∷ xs) = let r = on config job x.1 s x.0 in ahead r.actions (told_all config job r.state xs)

unfoldable pub works_all : SessionConfig → State → List Begun → Ran
works_all config s [] = same s
works_all config s (w ∷ ws) =
    let r = told_all config w.job (begins w.began s) w.inputs in ahead r.actions (works_all config r.state ws)

-- where a session of these works stands, and all that it wanted done
unfoldable pub session : SessionConfig → List Begun → Ran
session config works = works_all config (new_state config) works

abbrev pub acts : SessionConfig → List Begun → List Action
acts config works = (session config works).actions

-- the rows of the running attempt's steps, for which its work stands from where it was started
abbrev pub told_in : SessionConfig → List Begun → Option (List (List Row))
told_in config works = (session config works).state.place.told
