-- What the parts of a served connection do. No public clause speaks of it.
use Rattle.std.specs.Prelude.{◌≡◌, ℕ, ◌+◌, ◌<◌, ◌⊎◌, IsTrue, Bool, true, false, List, [], ◌∷◌, ◌++◌, length, map, take, Some, None}
use Rattle.ncc_session.specs.declared.config.ConnConfig.{ConnConfig}
use Rattle.ncc_session.specs.declared.ask.Fact.{Fact}
use Rattle.ncc_session.specs.declared.state.ConnState.{ConnState}
use Rattle.ncc_session.specs.declared.state.ConnState.TheVariants.{Ended}
use Rattle.ncc_session.specs.declared.state.ConnStop.{ConnStop}
use Rattle.ncc_session.specs.declared.state.ConnStop.TheVariants as stop
use Rattle.ncc_session.specs.Question.{Question, fits, questions_of}
use Rattle.ncc_session.specs.Session.{session, asked_at, is_ended}
use Rattle.ncc_session.specs.Talk.{Talk, Stands, Tells, TellBreaks, asked}
use Rattle.ncc_server.specs.declared.end.ConnEnd.{ConnEnd}
use Rattle.ncc_server.specs.declared.end.ConnEnd.TheVariants as end
use Rattle.ncc_server.specs.declared.serving.Broken.{Broken}
use Rattle.ncc_server.specs.declared.serving.Broken.TheVariants as broken
use Rattle.ncc_server.specs.Answered.{Answer, facts_of, questions_in, deadlines_in}
use Rattle.ncc_session.specs.Asking.{waiting}
use Rattle.ncc_server.specs.Serving.{Told, GoesOn, IsWhole, IsAtRest, IsBetween, EndsAs, ReadLast}

abbrev pub end_of : Broken → ConnEnd
end_of broken.Write = end.WriteFault
end_of broken.Backend = end.BackendFault
end_of broken.Memory = end.Memory

-- it stands for some session
pub record IsLive (talk : Talk) : Type 0 where
  pub config : ConnConfig
  pub bytes : List ℕ
  pub facts : List Fact
  pub out : List ℕ
  pub stands : Stands talk config bytes facts out

-- it stands for a session of which nothing has come
pub record IsFresh (talk : Talk) : Type 0 where
  pub config : ConnConfig
  pub stands : Stands talk config [] [] []

-- The connection was fed what was read and told these answers, and what it handed out was written.
pub record Live (config : ConnConfig) (wait : ℕ) (read wrote : List ℕ) (answers : List Answer) (moments : List ℕ) (talk : Talk) : Type 0
  where
    pub stands : Stands talk config read (facts_of answers) wrote
    pub in_turn : questions_of (session config read (facts_of answers)).written ≡ questions_in answers ++ waiting (asked talk)
    pub timed : map (λ now. now + wait) moments ≡ deadlines_in answers

-- It was given up: what it says of the session, for what was read, written, told and timed.
pub record GivenUp (config : ConnConfig) (wait : ℕ) (read wrote : List ℕ) (answers : List Answer) (moments : List ℕ) (b : Broken) : Type
    0 where
  pub told : Told config wait (end_of b) read wrote answers moments
  pub goes_on : b ≡ broken.Backend → is_ended (session config read (facts_of answers)).core.state ≡ false

-- ---- what was written was handed out

pub record Handed (took : List ℕ → Type 0) (same flushed : Type 0) (old new : Talk) : Type 0 where
  pub took_it : took old.out
  pub rest : new ≡ record old { out = [] }
  pub is_flushed : ((old.out ≡ []) × same) ⊎ flushed

pub record HandedSome (took : List ℕ → Type 0) (old : Talk) (b : Broken) : Type 0 where
  pub count : ℕ
  pub took_it : took (take count old.out)
  pub no_answer : b ≡ broken.Backend → ⊥

-- ---- the question that waited was answered

pub record AnsweredOne (wait : ℕ) (told : List Answer → Type 0) (ticked : List ℕ → Type 0) (old new : Talk) : Type 0 where
  pub answer : Answer
  pub now : ℕ
  pub told_it : told (answer ∷ [])
  pub ticked_it : ticked (now ∷ [])
  pub deadline_is : answer.deadline ≡ now + wait
  pub waited : asked old ≡ Some answer.question
  pub it_fits : IsTrue (fits answer.question answer.fact)
  pub tells : Tells old answer.fact new

-- there was none
pub record AskedNone (told : List Answer → Type 0) (ticked : List ℕ → Type 0) (old new : Talk) : Type 0 where
  pub told_it : told []
  pub ticked_it : ticked []
  pub none : asked old ≡ None
  pub same : new ≡ old

-- whether there was one
abbrev pub Next : ℕ → (List Answer → Type 0) → (List ℕ → Type 0) → Talk → Talk → Bool → Type 0
Next wait told ticked old new true = AnsweredOne wait told ticked old new
Next wait told ticked old new false = AskedNone told ticked old new

-- it got no answer
pub record NoAnswer (told : List Answer → Type 0) (ticked : List ℕ → Type 0) (old : Talk) (b : Broken) : Type 0 where
  pub now : ℕ
  pub told_it : told []
  pub ticked_it : ticked (now ∷ [])
  pub question : Question
  pub waited : asked old ≡ Some question
  pub not_written : b ≡ broken.Write → ⊥

-- or there was no memory to take it
pub record NotTaken (wait : ℕ) (told : List Answer → Type 0) (ticked : List ℕ → Type 0) (old new : Talk) (b : Broken) : Type 0 where
  pub answer : Answer
  pub now : ℕ
  pub told_it : told (answer ∷ [])
  pub ticked_it : ticked (now ∷ [])
  pub deadline_is : answer.deadline ≡ now + wait
  pub waited : asked old ≡ Some answer.question
  pub it_fits : IsTrue (fits answer.question answer.fact)
  pub breaks : TellBreaks old answer.fact new
  pub memory : b ≡ broken.Memory

-- ---- all questions were answered, and all that was written was handed out

pub record Went (took : List ℕ → Type 0) (told : List Answer → Type 0) (ticked : List ℕ → Type 0) : Type 0 where
  pub bytes : List ℕ
  pub answers : List Answer
  pub moments : List ℕ
  pub took_it : took bytes
  pub told_it : told answers
  pub ticked_it : ticked moments

-- with this piece behind what was read: the connection goes on so
pub record Going (wait : ℕ) (took : List ℕ → Type 0) (told : List Answer → Type 0) (ticked : List ℕ → Type 0) (same flushed : Type 0)
    (piece : List ℕ) (old new : Talk) : Type 0 where
  pub went : Went took told ticked
  pub live : (config : ConnConfig) (read wrote : List ℕ) (answers : List Answer) (moments : List ℕ)
      → Live config wait read wrote answers moments old
      → Live config wait (read ++ piece) (wrote ++ went.bytes) (answers ++ went.answers) (moments ++ went.moments) new
  pub is_flushed : ((went.bytes ≡ []) × same) ⊎ flushed

-- and comes to rest: all was handed out, and no question waits
pub record Settled (wait : ℕ) (took : List ℕ → Type 0) (told : List Answer → Type 0) (ticked : List ℕ → Type 0) (same flushed : Type 0)
    (piece : List ℕ) (old new : Talk) : Type 0 where
  pub going : Going wait took told ticked same flushed piece old new
  pub handed : new.out ≡ []
  pub none : asked new ≡ None
  pub is_live : IsLive new

-- or it is given up so
pub record Unsettled (wait : ℕ) (took : List ℕ → Type 0) (told : List Answer → Type 0) (ticked : List ℕ → Type 0) (same flushed : Type 0)
    (piece : List ℕ) (old : Talk) (b : Broken) : Type 0 where
  pub went : Went took told ticked
  pub given_up : (config : ConnConfig) (read wrote : List ℕ) (answers : List Answer) (moments : List ℕ)
      → Live config wait read wrote answers moments old
      → GivenUp config wait (read ++ piece) (wrote ++ went.bytes) (answers ++ went.answers) (moments ++ went.moments) b
  pub is_flushed : b ≡ broken.Backend → ((went.bytes ≡ []) × same) ⊎ flushed

-- ---- a turn: a read, and what comes of it

-- it stands between two pieces: all was handed out, no question waits, and it may go on
pub record Rests (config : ConnConfig) (wait : ℕ) (read wrote : List ℕ) (answers : List Answer) (moments : List ℕ) (talk : Talk) : Type
    0 where
  pub live : Live config wait read wrote answers moments talk
  pub handed : talk.out ≡ []
  pub none : asked talk ≡ None
  pub goes_on : GoesOn talk.place.state read

-- how a session that has ended ends its connection
abbrev pub end_by_stop : ConnStop → ConnEnd
end_by_stop stop.Goodbye = end.Closed
end_by_stop stop.Refused = end.Refused
end_by_stop stop.BadMagic = end.BadMagic
end_by_stop stop.NoVersion = end.NoVersion
end_by_stop (stop.Malformed message at cause) = end.Malformed message at cause
end_by_stop (stop.MessageTooLong message) = end.MessageTooLong message

pub record IsEndOf (state : ConnState) (e : ConnEnd) : Type 0 where
  pub why : ConnStop
  pub state_is : state ≡ Ended why
  pub end_is : e ≡ end_by_stop why

-- where the bytes end: between messages behind a whole handshake, or elsewhere
abbrev pub OverAs : Talk → ConnEnd → Type 0
OverAs talk e =
    (config : ConnConfig) (bytes : List ℕ) (facts : List Fact) (out : List ℕ) → Stands talk config bytes facts out
    → ((e ≡ end.Closed) × IsBetween talk.place.state bytes) ⊎ ((e ≡ end.Truncated) × (IsBetween talk.place.state bytes → ⊥))

abbrev pub IsOver : ConnEnd → Type 0
IsOver end.Closed = Unit {0}
IsOver end.Truncated = Unit {0}
IsOver _ = ⊥

-- how it ended, for what was read, written, told and timed
pub record Finished (config : ConnConfig) (wait : ℕ) (over : Type 0) (e : ConnEnd) (read wrote : List ℕ) (answers : List Answer)
    (moments : List ℕ) : Type 0 where
  pub is_told : Told config wait e read wrote answers moments
  pub rests : IsAtRest e → asked_at (session config read (facts_of answers)).core ≡ None
  pub ends : EndsAs e (session config read (facts_of answers)).core.state over read
  pub last : ReadLast config read answers

pub record EndsTurn (wait : ℕ) (gave took : List ℕ → Type 0) (told : List Answer → Type 0) (ticked : List ℕ
    → Type 0) (over same flushed : Type 0)
    (old : Talk) (e : ConnEnd) : Type 0 where
  pub piece : List ℕ
  pub gave_it : gave piece
  pub went : Went took told ticked
  pub finished : (config : ConnConfig) (read wrote : List ℕ) (answers : List Answer) (moments : List ℕ)
      → Rests config wait read wrote answers moments old
      → Finished config wait over e (read ++ piece) (wrote ++ went.bytes) (answers ++ went.answers) (moments ++ went.moments)
  pub is_flushed : IsWhole e → ((went.bytes ≡ []) × same) ⊎ flushed

pub record GoesTurn (wait : ℕ) (gave took : List ℕ → Type 0) (told : List Answer → Type 0) (ticked : List ℕ
    → Type 0) (same flushed : Type 0)
    (count : ℕ) (old new : Talk) : Type 0 where
  pub piece : List ℕ
  pub gave_it : gave piece
  pub length_is : length piece ≡ count
  pub some : 0 < count
  pub settled : Settled wait took told ticked same flushed piece old new
