-- A connection as its callers see it: which bytes, facts and outputs it stands for, and what each call makes of that.
use Rattle.std.specs.Prelude.{◌≡◌, ◌↔◌, ℕ, ◌+◌, ◌*◌, Bool, true, false, IsTrue, List, [], ◌∷◌, ◌++◌, length, drop, Option, Some, None}
use Rattle.std.specs.Prelude.{if◌then◌else◌}
use Rattle.ncc_chunk.specs.Chunks.{IsBetweenMessages}
use Rattle.ncc_chunk.specs.Inflow.{Inflow, Stands as StandsFor, ExactlyAt}
use Rattle.ncc_chunk.specs.Handshake.{handshake_of}
use Rattle.ncc_session.specs.declared.config.ConnConfig.{ConnConfig}
use Rattle.ncc_session.specs.declared.state.ConnState.{ConnState}
use Rattle.ncc_session.specs.declared.state.ConnState.TheVariants.{Shaking, Ended}
use Rattle.ncc_session.specs.declared.ask.Fact.{Fact}
use Rattle.ncc_session.specs.Question.{Question, Output, bytes_of, fits}
use Rattle.ncc_session.specs.Core.{Next, runs, Doing, asks, Situation}
use Rattle.ncc_session.specs.Session.{Input, stream_inputs, stream_of, session, question_in, asked_at}
use Rattle.ncc_session.specs.Turns.{MayAsk}

-- what a connection keeps: no history
pub record Talk : Type 0 where
  -- memory was wanting
  pub spent : Bool
  pub config : ConnConfig
  pub place : Situation
  -- the bytes of the handshake so far
  pub shake : List ℕ
  -- what is kept of the stream of messages
  pub inflow : Inflow
  -- the bytes that were not yet handed out
  pub out : List ℕ

-- the same of its parts
abbrev pub talk_of : Bool → ConnConfig → Situation → List ℕ → Inflow → List ℕ → Talk
talk_of spent config place shake inflow out =
    record { spent = spent; config = config; place = place; shake = shake; inflow = inflow; out = out }

-- the inputs of a stream behind so many messages
abbrev pub inputs_behind : List ℕ → ℕ → List Input
inputs_behind stream count = drop count (stream_inputs stream)

-- The session has still to take these inputs: what the dechunker has ready, and nothing after the end.
abbrev pub HasLeft : ConnState → Inflow → List ℕ → List Input → Type 0
HasLeft (Ended stop) inflow stream left = left ≡ []
HasLeft _ inflow stream left =
    (handed : List (List ℕ)) × StandsFor inflow stream handed × (left ≡ inputs_behind stream (length handed))

-- The connection was fed these bytes and told these facts, and has handed out these bytes: it stands where the session of them
-- does, and what it handed out and what it holds are what that session wrote.
pub record Stands (talk : Talk) (config : ConnConfig) (bytes : List ℕ) (facts : List Fact) (out : List ℕ) : Type 0 where
  pub fine : talk.spent ≡ false
  pub same : talk.config ≡ config
  pub shaken : talk.shake ≡ handshake_of bytes
  pub left : List Input
  pub written : List Output
  pub has_left : HasLeft talk.place.state talk.inflow (stream_of bytes) left
  pub went : session config bytes facts ≡ record { core = talk.place; items = left; facts = []; written = written }
  pub out_is : bytes_of written ≡ out ++ talk.out

-- Memory was wanting: what the connection handed out and what it holds are the first of what that session wrote.
pub record Broke (talk : Talk) (config : ConnConfig) (bytes : List ℕ) (facts : List Fact) (out : List ℕ) : Type 0 where
  pub spent : talk.spent ≡ true
  pub front : List Output
  pub rest : List Output
  pub begins : (session config bytes facts).written ≡ front ++ rest
  pub out_is : bytes_of front ≡ out ++ talk.out

-- what the calls make of it
abbrev pub Feeds : Talk → List ℕ → Talk → Type 0
Feeds old piece new =
    (config : ConnConfig) (bytes : List ℕ) (facts : List Fact) (out : List ℕ)
    → Stands old config bytes facts out → Stands new config (bytes ++ piece) facts out

abbrev pub FeedBreaks : Talk → List ℕ → Talk → Type 0
FeedBreaks old piece new =
    (config : ConnConfig) (bytes : List ℕ) (facts : List Fact) (out : List ℕ)
    → Stands old config bytes facts out → Broke new config (bytes ++ piece) facts out

abbrev pub Tells : Talk → Fact → Talk → Type 0
Tells old fact new =
    (config : ConnConfig) (bytes : List ℕ) (facts : List Fact) (out : List ℕ)
    → Stands old config bytes facts out → Stands new config bytes (facts ++ fact ∷ []) out

abbrev pub TellBreaks : Talk → Fact → Talk → Type 0
TellBreaks old fact new =
    (config : ConnConfig) (bytes : List ℕ) (facts : List Fact) (out : List ℕ)
    → Stands old config bytes facts out → Broke new config bytes (facts ++ fact ∷ []) out

abbrev pub HandsOut : Talk → List ℕ → Talk → Type 0
HandsOut old handed new =
    (config : ConnConfig) (bytes : List ℕ) (facts : List Fact) (out : List ℕ)
    → Stands old config bytes facts out → Stands new config bytes facts (out ++ handed)

-- It is this of the session of what was fed and told.
abbrev pub Shows : {A : Type 0} → (Situation → A) → Talk → A → Type 0
Shows view talk answer =
    (config : ConnConfig) (bytes : List ℕ) (facts : List Fact) (out : List ℕ)
    → Stands talk config bytes facts out → answer ≡ view (session config bytes facts).core

-- the question that waits; a spent connection has none
abbrev pub asked : Talk → Option Question
asked talk = if talk.spent then None else asked_at talk.place

-- a fact answers the question that waits
abbrev pub fits_at : Option Question → Fact → Bool
fits_at None fact = false
fits_at (Some question) fact = fits question fact

-- Where it stands for a session, it has no question that a session may not ask.
abbrev pub MayAskAt : Talk → Question → Type 0
MayAskAt talk question =
    (config : ConnConfig) (bytes : List ℕ) (facts : List Fact) (out : List ℕ) → Stands talk config bytes facts out → MayAsk question

-- ---- how much is left to do

-- how many facts at most a question and what goes on behind it take: RUN outside of a transaction asks twice
abbrev pub facts_behind : Next → ℕ
facts_behind (runs write call) = 2
facts_behind _ = 1

abbrev pub facts_in : Doing → ℕ
facts_in (asks question next) = facts_behind next
facts_in _ = 0

-- At most so many facts are told before more bytes have to come: two for each message that is ready, and those of the question. Each
-- fact lowers it, and only bytes raise it.
abbrev pub facts_left : Situation → Inflow → ℕ
facts_left place inflow = 2 * length inflow.ready + facts_in place.doing

abbrev pub measure : Talk → ℕ
measure talk = facts_left talk.place talk.inflow

-- ---- whether nothing is unfinished

-- By what a connection keeps: it has ended; or nothing has come; or the handshake is whole, no question waits, and nothing is held of a
-- message that is not whole.
abbrev pub IdleBy : ConnState → Option Question → List ℕ → Inflow → Bool → Type 0
IdleBy (Ended stop) question shake inflow answer = answer ≡ true
IdleBy Shaking question shake inflow answer = IsTrue answer ↔ (shake ≡ [])
IdleBy _ (Some question) shake inflow answer = answer ≡ false
IdleBy _ None shake inflow answer = ExactlyAt (λ stream handed. IsBetweenMessages stream) inflow (IsTrue answer)

abbrev pub IdleAt : Talk → Bool → Type 0
IdleAt talk answer = IdleBy talk.place.state (question_in talk.place.doing) talk.shake talk.inflow answer

-- the same of the session of these bytes: it has ended; or none came; or no question waits, and behind the last whole message stand
-- no-ops alone
abbrev pub RestsBy : ConnState → Option Question → List ℕ → Type 0
RestsBy (Ended stop) question bytes = Unit {0}
RestsBy Shaking question bytes = bytes ≡ []
RestsBy _ (Some question) bytes = ⊥
RestsBy _ None bytes = IsBetweenMessages (stream_of bytes)

abbrev pub Rests : Situation → List ℕ → Type 0
Rests place bytes = RestsBy place.state (question_in place.doing) bytes

abbrev pub SaysIdle : Talk → Bool → Type 0
SaysIdle talk answer =
    (config : ConnConfig) (bytes : List ℕ) (facts : List Fact) (out : List ℕ)
    → Stands talk config bytes facts out → (IsTrue answer ↔ Rests (session config bytes facts).core bytes)
