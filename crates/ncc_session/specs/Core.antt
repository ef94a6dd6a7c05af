-- Where a session stands.
use Rattle.std.specs.Prelude.{ℕ, Bool, List, map}
use Rattle.ncc_store.specs.declared.call.Call.{Call}
use Rattle.ncc_store.specs.Exec.{call_of}
use Rattle.ncc_tx.specs.declared.entry.Entry.{Entry}
use Rattle.ncc_tx.specs.declared.entry.Entry.TheVariants as e
use Rattle.ncc_session.specs.declared.state.ConnState.{ConnState}
use Rattle.ncc_session.specs.declared.ask.Ask.{Ask}
use Rattle.ncc_session.specs.declared.ask.Ask.TheVariants as a
use Rattle.ncc_session.specs.declared.phase.Pulled.{Pulled}
use Rattle.ncc_session.specs.declared.phase.Transaction.{Transaction}
use Rattle.ncc_session.specs.declared.phase.Behind.{Behind}
use Rattle.ncc_session.specs.declared.phase.Behind.TheVariants as b
use Rattle.ncc_session.specs.declared.phase.Phase.{Phase}
use Rattle.ncc_session.specs.declared.phase.Phase.TheVariants as p
use Rattle.ncc_session.specs.declared.phase.Core.{Core}
use Rattle.ncc_session.specs.Question.{Question, enter, run, leave, leave_noop, route, Row}

-- a transaction
pub record Tx : Type 0 where
  -- whether it may write
  pub write : Bool
  -- its steps so far; while they are asked they stand in the question
  pub steps : List Call
  -- the rows of each step
  pub told : List (List Row)
  -- how far the result of each step was pulled, and whether its end was told
  pub results : List Pulled
  -- how many results have an end that was not told
  pub unended : ℕ
  -- how many bytes the short spellings of the rows have
  pub kept : ℕ

-- what goes on behind a question
pub data Next : Type 0 where
  -- BEGIN waits to enter, to write or not
  begins : Bool → Next
  -- RUN outside of a transaction waits to enter, to write or not, with its one step
  runs : Bool → Call → Next
  -- the last step of a transaction waits for its rows
  adds : Tx → Next
  -- a transaction waits to be done
  leaves : Next
  -- ROUTE waits for the leader
  routes : Next

-- what a session does: it waits for a request, outside of a transaction or in one, or for a fact
pub data Doing : Type 0 where
  idle : Doing
  opened : Tx → Doing
  asks : Question → Next → Doing

pub record Situation : Type 0 where
  -- where it stands, as others see it; while a question waits, where it stood before the request
  pub state : ConnState
  -- the number of the next message on the connection, from 0; it stays at the greatest u64
  pub number : ℕ
  pub doing : Doing

-- ---- how the code's values are seen: a step as its call

abbrev pub leave_of : Entry → Question
leave_of e.Noop = leave_noop
leave_of (e.Tx steps told) = leave (map call_of steps) told

abbrev pub question_of : Ask → Question
question_of (a.Enter need) = enter need
question_of (a.Run steps) = run (map call_of steps)
question_of (a.Leave entry) = leave_of entry
question_of a.Route = route

abbrev pub tx_of : Transaction → Tx
tx_of t = record {
  write = t.write;
  steps = map call_of t.steps;
  told = t.told;
  results = t.results.items;
  unended = t.unended;
  kept = t.kept;
}

abbrev pub next_of : Behind → Next
next_of (b.Begins write) = begins write
next_of (b.Runs write step) = runs write (call_of step)
next_of (b.Adds t) = adds (tx_of t)
next_of b.Leaves = leaves
next_of b.Routes = routes

abbrev pub doing_of : Phase → Doing
doing_of p.Idle = idle
doing_of (p.Opened t) = opened (tx_of t)
doing_of (p.Asks ask behind) = asks (question_of ask) (next_of behind)

abbrev pub place_of : Core → Situation
place_of c = record { state = c.state; number = c.number; doing = doing_of c.phase }
