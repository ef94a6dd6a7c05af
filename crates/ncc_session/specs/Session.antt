-- A session: what it makes of the bytes that came and the facts that it was told.
use Rattle.std.specs.Prelude.{ℕ, ◌+◌, ◌-◌, ◌^◌, min, Bool, true, false, if◌then◌else◌, List, [], ◌∷◌, ◌++◌, length, drop, map}
use Rattle.std.specs.Prelude.{Option, Some, None, Ok, Err}
use Rattle.ncc_pack.specs.Offence.{place_of as place_in}
use Rattle.ncc_bolt.specs.declared.error.MessageError.{MessageError}
use Rattle.ncc_bolt.specs.declared.error.MessageError.TheVariants as e
use Rattle.ncc_bolt.specs.Reading.{request_at}
use Rattle.ncc_chunk.specs.declared.handshake.Shake.{Shake}
use Rattle.ncc_chunk.specs.declared.handshake.Shake.TheVariants.{More, Chosen, BadMagic, NoVersion}
use Rattle.ncc_chunk.specs.Handshake.{answer_to, handshake_of}
use Rattle.ncc_chunk.specs.Messages.{messages_of, is_too_long}
use Rattle.ncc_stream.specs.Stream.{Stand, Move, going}
use Rattle.ncc_session.specs.declared.config.ConnConfig.{ConnConfig}
use Rattle.ncc_session.specs.declared.state.ConnState.{ConnState}
use Rattle.ncc_session.specs.declared.state.ConnState.TheVariants.{Shaking, Connected, Ended}
use Rattle.ncc_session.specs.declared.state.ConnStop.{ConnStop}
use Rattle.ncc_session.specs.declared.state.ConnStop.TheVariants as stop
use Rattle.ncc_session.specs.declared.ask.Fact.{Fact}
use Rattle.ncc_session.specs.Question.{Question, Output, wrote, fits}
use Rattle.ncc_session.specs.Core.{Next, Doing, idle, asks, Situation}
use Rattle.ncc_session.specs.Table.{turn_of}
use Rattle.ncc_session.specs.Turns.{Turned, freed, goes, answered, heard}

-- ---- what comes in: a handshake, messages, and a message that is too long, behind which nothing is read

pub data Input : Type 0 where
  shaken : Shake → Input
  message : List ℕ → Input
  too_long : Input

-- a handshake once it is settled
abbrev pub shaken_as : Shake → List Input
shaken_as More = []
shaken_as shake = shaken shake ∷ []

-- what stands behind a handshake of 20 bytes that chose a version
abbrev pub behind_shake : Shake → List ℕ → List ℕ
behind_shake Chosen bytes = drop 20 bytes
behind_shake _ bytes = []

-- a stream of messages
abbrev pub end_of : Bool → List Input
end_of long = if long then too_long ∷ [] else []

abbrev pub stream_inputs : List ℕ → List Input
stream_inputs stream = map message (messages_of stream) ++ end_of (is_too_long stream)

abbrev pub stream_of : List ℕ → List ℕ
stream_of bytes = behind_shake (answer_to (handshake_of bytes)) bytes

abbrev pub inputs_of : List ℕ → List Input
inputs_of bytes = shaken_as (answer_to (handshake_of bytes)) ++ stream_inputs (stream_of bytes)

-- ---- what they do

abbrev pub ends : Situation → ConnStop → List Output → Turned
ends place stop written = goes place (Ended stop) idle written

-- Bolt 4.4, "Handshake": the version chosen, or none
abbrev pub on_shake : Situation → Shake → Turned
on_shake place Chosen = goes place Connected idle (wrote (0 ∷ 0 ∷ 4 ∷ 4 ∷ []) ∷ [])
on_shake place NoVersion = ends place stop.NoVersion (wrote (0 ∷ 0 ∷ 0 ∷ 0 ∷ []) ∷ [])
on_shake place BadMagic = ends place stop.BadMagic []
on_shake place More = goes place place.state place.doing []

-- the next message has the next number
abbrev pub counted : Situation → Situation
counted place = record { state = place.state; number = min (place.number + 1) (2 ^ 64 - 1); doing = place.doing }

-- the place of a fault in a message of so many bytes
abbrev pub place_or : ℕ → Option ℕ → ℕ
place_or len (Some at) = at
place_or len None = len

abbrev pub fault_at : ℕ → MessageError → ℕ
fault_at len (e.Pack fault) = place_or len (place_in fault)
fault_at len (e.UnknownTag tag) = 1
fault_at len (e.WrongFields tag n) = 0
fault_at len (e.WrongKind tag field at) = at
fault_at len (e.Rest at) = at
fault_at len e.Memory = 0

abbrev pub on_message : ConnConfig → Situation → List ℕ → Turned
on_message config place bytes = elim (request_at bytes) [
  | Ok request ↦ answered config (counted place) (turn_of place.state request)
  | Err cause ↦ ends place (stop.Malformed place.number (fault_at (length bytes) cause) cause) []
]

abbrev pub on_live : ConnConfig → Situation → Input → Turned
on_live config place (shaken shake) = on_shake place shake
on_live config place (message bytes) = on_message config place bytes
on_live config place too_long = ends place (stop.MessageTooLong place.number) []

-- after the end all is dropped
abbrev pub on_input : ConnConfig → Situation → ConnState → Input → Turned
on_input config place (Ended _) input = goes place place.state place.doing []
on_input config place _ input = on_live config place input

-- ---- the machine: where a question waits it takes a fact that fits, and else what comes in

abbrev pub Standing : Type 0
Standing = Stand Situation Input Fact Output

abbrev pub turned : Turned → List Input → List Fact → Option Standing
turned t inputs facts = Some (record { core = t.place; items = inputs; facts = facts; written = t.written })

abbrev pub reads : ConnConfig → Situation → List Input → List Fact → Option Standing
reads config place [] facts = None
reads config place (input ∷ inputs) facts = turned (on_input config place place.state input) inputs facts

abbrev pub hears : ConnConfig → Situation → Question → Next → List Input → List Fact → Option Standing
hears config place question next inputs [] = None
hears config place question next inputs (fact ∷ facts) =
    if fits question fact then turned (heard config (freed place) question next fact) inputs facts else None

abbrev pub acts : ConnConfig → Situation → Doing → List Input → List Fact → Option Standing
acts config place (asks question next) inputs facts = hears config place question next inputs facts
acts config place _ inputs facts = reads config place inputs facts

-- after the end it takes what comes in, and drops it
abbrev pub goes_by : ConnConfig → Situation → ConnState → List Input → List Fact → Option Standing
goes_by config place (Ended stop) inputs facts = reads config place inputs facts
goes_by config place _ inputs facts = acts config place place.doing inputs facts

unfoldable pub move : ConnConfig → Move Situation Input Fact Output
move config place inputs facts = goes_by config place place.state inputs facts

-- where each session begins
abbrev pub start : Situation
start = record { state = Shaking; number = 0; doing = idle }

-- the session of these bytes and these facts: what it put out, where it stands, and what it did not yet take
unfoldable pub session : ConnConfig → List ℕ → List Fact → Standing
session config bytes facts = going (move config) start (inputs_of bytes) facts

abbrev pub is_ended : ConnState → Bool
is_ended (Ended stop) = true
is_ended _ = false

-- the question that waits; after the end there is none
abbrev pub question_in : Doing → Option Question
question_in (asks question next) = Some question
question_in _ = None

abbrev pub asked_at : Situation → Option Question
asked_at place = if is_ended place.state then None else question_in place.doing
