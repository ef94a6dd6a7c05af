-- A session asks its questions in turn: one at a time, and the next only behind the fact that answers the one before.
use Rattle.std.specs.Prelude.{◌≡◌, ℕ, true, List, [], ◌∷◌, ◌++◌, Option, Some, None}
use Rattle.ncc_bolt.specs.declared.error.MessageError.{MessageError}
use Rattle.ncc_bolt.specs.declared.error.MessageError.TheVariants as e
use Rattle.ncc_session.specs.declared.config.ConnConfig.{ConnConfig}
use Rattle.ncc_session.specs.declared.state.ConnState.TheVariants.{Ended}
use Rattle.ncc_session.specs.declared.state.ConnStop.TheVariants as stop
use Rattle.ncc_session.specs.declared.ask.Fact.{Fact}
use Rattle.ncc_session.specs.Question.{Question, Output, questions_of, fits}
use Rattle.ncc_session.specs.Turns.{MayAsk}
use Rattle.ncc_session.specs.Session.{Standing, session, asked_at}

-- the question that waits, as a list
abbrev pub waiting : Option Question → List Question
waiting None = []
waiting (Some question) = question ∷ []

-- It went on: what was put out stands behind what was put out before, no fact is left, and what it asked meanwhile is the question
-- that waits now, if one does.
pub record WentOn (old new : Standing) : Type 0 where
  pub more : List Output
  pub written : new.written ≡ old.written ++ more
  pub taken : new.facts ≡ []
  pub asks : questions_of more ≡ waiting (asked_at new.core)

-- with more bytes, where no question waits
abbrev pub AsksOnBytes : Type 0
AsksOnBytes =
    (config : ConnConfig) (bytes piece : List ℕ) (facts : List Fact) → (session config bytes facts).facts ≡ []
    → asked_at (session config bytes facts).core ≡ None → WentOn (session config bytes facts) (session config (bytes ++ piece) facts)

-- with a fact that answers the question that waits
abbrev pub AsksOnFacts : Type 0
AsksOnFacts =
    (config : ConnConfig) (bytes : List ℕ) (facts : List Fact) (question : Question) (fact : Fact)
    → (session config bytes facts).facts ≡ [] → asked_at (session config bytes facts).core ≡ Some question
    → fits question fact ≡ true → WentOn (session config bytes facts) (session config bytes (facts ++ fact ∷ []))

-- Whatever came in and was told, the question that waits is one that may be asked: the entry of a transaction that writes may stand in
-- a log.
abbrev pub MayAskEach : Type 0
MayAskEach =
    (config : ConnConfig) (bytes : List ℕ) (facts : List Fact) (question : Question)
    → asked_at (session config bytes facts).core ≡ Some question → MayAsk question

-- No message is refused for want of memory.
abbrev pub NeverForMemory : Type 0
NeverForMemory =
    (config : ConnConfig) (bytes : List ℕ) (facts : List Fact) (number at : ℕ) (cause : MessageError)
    → (session config bytes facts).core.state ≡ Ended (stop.Malformed number at cause) → cause ≡ e.Memory → ⊥
