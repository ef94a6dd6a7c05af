-- What is used of the layers below: of sessions, and of the rows of calls.
use Rattle.std.specs.Prelude.{◌≡◌, ℕ, true, List, [], ◌++◌, Some, None, Ok}
use Rattle.ncc_store.specs.declared.call.Call.{Call}
use Rattle.ncc_store.specs.Exec.{Ended, exec}
use Rattle.ncc_store.specs.Rows.{rows_keep}
use Rattle.ncc_tx.specs.declared.entry.Item.{Item}
use Rattle.ncc_tx.specs.State.{state}
use Rattle.ncc_session.specs.declared.config.ConnConfig.{ConnConfig}
use Rattle.ncc_session.specs.declared.ask.Fact.{Fact}
use Rattle.ncc_session.specs.Question.{Question}
use Rattle.ncc_session.specs.Session.{Standing, session, asked_at, is_ended}
use Rattle.ncc_session.specs.Asking.{AsksOnBytes, AsksOnFacts}
use Rattle.ncc_session.specs.Transactions.{QuestionsAreTransactions}
use Rattle.ncc_clients.specs.Run.{last_rows}

-- where a question waits, more bytes change nothing of what was put out and of where it stands
pub record StandsStill (old new : Standing) : Type 0 where
  pub core : new.core ≡ old.core
  pub written : new.written ≡ old.written
  pub taken : new.facts ≡ []

-- a session of nothing
pub record Fresh (new : Standing) : Type 0 where
  pub asks : asked_at new.core ≡ None
  pub written : new.written ≡ []
  pub taken : new.facts ≡ []

pub record Known : Type 0 where
  pub on_bytes : AsksOnBytes
  pub on_facts : AsksOnFacts
  pub in_turn : QuestionsAreTransactions
  pub fresh : (config : ConnConfig) → Fresh (session config [] [])
  pub stands_still : (config : ConnConfig) (bytes piece : List ℕ) (facts : List Fact) (question : Question)
      → (session config bytes facts).facts ≡ [] → asked_at (session config bytes facts).core ≡ Some question
      → StandsStill (session config bytes facts) (session config (bytes ++ piece) facts)
  -- where it has ended, more bytes change nothing of that
  pub ended : (config : ConnConfig) (bytes piece : List ℕ) (facts : List Fact) → (session config bytes facts).facts ≡ []
      → is_ended (session config bytes facts).core.state ≡ true → is_ended (session config (bytes ++ piece) facts).core.state ≡ true
  pub rows : (list : List Item) (calls : List Call) (end : Ended) → exec (state list) calls ≡ Ok end → rows_keep (last_rows end.rows) ≡ true
