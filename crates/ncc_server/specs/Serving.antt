-- What a call that serves a connection did.
use Rattle.std.specs.Prelude.{◌≡◌, ℕ, ◌+◌, ◌^◌, ◌<◌, ◌≤◌, ◌⊎◌, false, List, [], ◌++◌, length, map, None}
use Rattle.ncc_bolt.specs.declared.error.MessageError.TheVariants as fault
use Rattle.ncc_session.specs.declared.config.ConnConfig.{ConnConfig}
use Rattle.ncc_session.specs.declared.state.ConnState.{ConnState}
use Rattle.ncc_session.specs.declared.state.ConnState.TheVariants.{Shaking, Ended}
use Rattle.ncc_session.specs.declared.state.ConnStop.TheVariants as stop
use Rattle.ncc_session.specs.Question.{Question, bytes_of, questions_of}
use Rattle.ncc_session.specs.Asking.{waiting}
use Rattle.ncc_session.specs.Session.{session, asked_at, is_ended, stream_of}
use Rattle.ncc_chunk.specs.Chunks.{IsBetweenMessages}
use Rattle.ncc_server.specs.declared.end.ConnEnd.{ConnEnd}
use Rattle.ncc_server.specs.declared.end.ConnEnd.TheVariants as end
use Rattle.ncc_server.specs.Answered.{Answer, facts_of, questions_in, deadlines_in}

-- more bytes than this are not taken of one connection
abbrev pub worn : ℕ
worn = 2 ^ 40

-- ---- which ends promise what

-- all that the session wrote is out
abbrev pub IsWhole : ConnEnd → Type 0
IsWhole end.WriteFault = ⊥
IsWhole end.Memory = ⊥
IsWhole _ = Unit {0}

-- no question waits
abbrev pub IsAtRest : ConnEnd → Type 0
IsAtRest end.WriteFault = ⊥
IsAtRest end.BackendFault = ⊥
IsAtRest end.Memory = ⊥
IsAtRest _ = Unit {0}

-- no object failed, and no more bytes were taken than a connection may have
abbrev pub IsOwnEnd : ConnEnd → Type 0
IsOwnEnd end.ReadFault = ⊥
IsOwnEnd end.WriteFault = ⊥
IsOwnEnd end.BackendFault = ⊥
IsOwnEnd end.Worn = ⊥
IsOwnEnd _ = Unit {0}

-- ---- how a connection ends

-- The connection goes on: the session has not ended, and no more bytes were taken than a connection may have.
pub record GoesOn (state : ConnState) (read : List ℕ) : Type 0 where
  pub live : is_ended state ≡ false
  pub few : length read ≤ worn

-- the bytes that were read end between messages, behind a whole handshake
pub record IsBetween (state : ConnState) (read : List ℕ) : Type 0 where
  pub shaken : state ≡ Shaking → ⊥
  pub between : IsBetweenMessages (stream_of read)

-- By the end: where the session of what was read and told stands, whether nothing is left to read, and the bytes that were read.
abbrev pub EndsAs : ConnEnd → ConnState → Type 0 → List ℕ → Type 0
EndsAs end.Closed state over read = (state ≡ Ended stop.Goodbye) ⊎ (GoesOn state read × over × IsBetween state read)
EndsAs end.Refused state over read = state ≡ Ended stop.Refused
EndsAs end.BadMagic state over read = state ≡ Ended stop.BadMagic
EndsAs end.NoVersion state over read = state ≡ Ended stop.NoVersion
EndsAs (end.Malformed message at cause) state over read = (state ≡ Ended (stop.Malformed message at cause)) × (cause ≡ fault.Memory → ⊥)
EndsAs (end.MessageTooLong message) state over read = state ≡ Ended (stop.MessageTooLong message)
EndsAs end.Truncated state over read = GoesOn state read × over × (IsBetween state read → ⊥)
EndsAs end.ReadFault state over read = GoesOn state read
EndsAs end.BackendFault state over read = is_ended state ≡ false
EndsAs end.Worn state over read = (is_ended state ≡ false) × (worn < length read)
EndsAs end.WriteFault state over read = Unit {0}
EndsAs end.Memory state over read = Unit {0}

-- ---- what was done

-- The last read came when the connection went on and no question waited: these bytes had been read, and these answers told.
pub record ReadLast (config : ConnConfig) (read : List ℕ) (answers : List Answer) : Type 0 where
  pub before : List ℕ
  pub piece : List ℕ
  pub earlier : List Answer
  pub later : List Answer
  pub read_is : read ≡ before ++ piece
  pub answers_are : answers ≡ earlier ++ later
  pub went_on : GoesOn (session config before (facts_of earlier)).core.state before
  pub rested : asked_at (session config before (facts_of earlier)).core ≡ None

-- no end that leaves a question without its answer has more than one such deadline
abbrev pub OneLate : ConnEnd → List ℕ → Type 0
OneLate end.BackendFault late = length late ≤ 1
OneLate end.Memory late = length late ≤ 1
OneLate _ late = late ≡ []

-- What the session of what was read and told says of what was written and asked, by the end.
pub record Told (config : ConnConfig) (wait : ℕ) (e : ConnEnd) (read wrote : List ℕ) (answers : List Answer) (moments : List ℕ) : Type 0
  where
    -- the session took every fact
    pub taken : (session config read (facts_of answers)).facts ≡ []
    -- what was written is the first of what the session writes, and all of it but where a write failed or memory was wanting
    pub unwritten : List ℕ
    pub written : bytes_of (session config read (facts_of answers)).written ≡ wrote ++ unwritten
    pub whole : IsWhole e → unwritten ≡ []
    -- the questions that were answered are those that the session asks, in order, but for one that waits
    pub unanswered : List Question
    pub asked : questions_of (session config read (facts_of answers)).written ≡ questions_in answers ++ unanswered
    pub waits : IsWhole e → unanswered ≡ waiting (asked_at (session config read (facts_of answers)).core)
    -- each deadline is a moment of the clock and the wait: one reading a question, no other
    pub late : List ℕ
    pub deadlines : map (λ now. now + wait) moments ≡ deadlines_in answers ++ late
    pub one_late : OneLate e late

-- Between two moments of source, sink, backend and clock a connection was served, and ended so. The parameters behind the wait say
-- which bytes were read and written, which answers were told and which moments the clock told, as far as the objects tell; then, that
-- the source has nothing left, and that the sink has flushed all that it holds.
pub record Served (config : ConnConfig) (wait : ℕ) (gave took : List ℕ → Type 0) (told : List Answer → Type 0) (ticked : List ℕ → Type 0)
    (over flushed : Type 0) (e : ConnEnd) : Type 0 where
  pub read : List ℕ
  pub wrote : List ℕ
  pub answers : List Answer
  pub moments : List ℕ
  pub gave_it : gave read
  pub took_it : took wrote
  pub told_it : told answers
  pub ticked_it : ticked moments
  pub is_told : Told config wait e read wrote answers moments
  pub is_flushed : IsWhole e → (wrote ≡ []) ⊎ flushed
  pub rests : IsAtRest e → asked_at (session config read (facts_of answers)).core ≡ None
  pub ends : EndsAs e (session config read (facts_of answers)).core.state over read
  pub last : ReadLast config read answers
