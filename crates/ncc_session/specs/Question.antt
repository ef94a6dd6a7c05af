-- What a session asks of its member, what it puts out, and which facts answer which question.
use Rattle.std.specs.Prelude.{ℕ, ◌-◌, ◌==◌, Bool, true, false, not, List, [], ◌∷◌, ◌++◌, length, slice_get, Option, Some, None, Ok, Err}
use Rattle.std.specs.List.{list_any}
use Rattle.ncc_cypher.specs.declared.tree.Statement.{Statement}
use Rattle.ncc_cypher.specs.Parsed.{parsed}
use Rattle.ncc_cypher.specs.Writing.{writes}
use Rattle.ncc_store.specs.declared.call.Call.{Call}
use Rattle.ncc_store.specs.Rows.{rows_keep}
use Rattle.ncc_pack.specs.declared.value.Value.{Value}
use Rattle.ncc_session.specs.declared.ask.Fact.{Fact}
use Rattle.ncc_session.specs.declared.ask.Fact.TheVariants as f

-- a row of values
abbrev pub Row : Type 0
Row = List Value

-- A step is its call: a source, which spells a statement, and parameters.
pub data Question : Type 0 where
  -- may a transaction begin that needs this place?
  enter : ℕ → Question
  -- what are the rows of the last of these calls, all of the transaction so far?
  run : List Call → Question
  -- is the transaction of these calls, with the rows that were told of each, done?
  leave : List Call → List (List Row) → Question
  -- the same of an entry that does nothing: no session asks it
  leave_noop : Question
  -- who leads?
  route : Question

-- what a session puts out, in order
pub data Output : Type 0 where
  wrote : List ℕ → Output
  asked : Question → Output

-- the bytes among what it puts out
abbrev pub bytes_of : List Output → List ℕ
bytes_of [] = []
bytes_of (wrote bytes ∷ outputs) = bytes ++ bytes_of outputs
bytes_of (asked question ∷ outputs) = bytes_of outputs

-- the questions among it
abbrev pub questions_of : List Output → List Question
questions_of [] = []
questions_of (wrote bytes ∷ outputs) = questions_of outputs
questions_of (asked question ∷ outputs) = question ∷ questions_of outputs

-- the statement of a call
abbrev pub statement_of : Call → Option Statement
statement_of call = elim (parsed call.source) [ Ok statement ↦ Some statement | Err _ ↦ None ]

abbrev pub call_writes : Call → Bool
call_writes call = elim (parsed call.source) [ Ok statement ↦ writes statement | Err _ ↦ false ]

-- the last of the calls writes
abbrev pub last_writes : List Call → Bool
last_writes calls = elim (slice_get calls (length calls - 1)) [ Some call ↦ call_writes call | None ↦ false ]

-- some step of the transaction writes
abbrev pub some_writes : List Call → Bool
some_writes calls = list_any call_writes calls

-- a transaction is to end of which some step writes
abbrev pub ends_writing : Question → Bool
ends_writing (leave calls told) = some_writes calls
ends_writing _ = false

-- the facts that answer each question
abbrev pub fits_enter : ℕ → Fact → Bool
fits_enter need (f.Entered at) = true
fits_enter need (f.Late late at now) = need == late
fits_enter need _ = false

abbrev pub fits_run : List Call → Fact → Bool
fits_run calls (f.Rows at rows) = rows_keep rows
fits_run calls (f.Faulted at fault) = true
fits_run calls f.Elsewhere = last_writes calls
fits_run calls _ = false

abbrev pub fits_leave : Bool → Fact → Bool
fits_leave writing (f.Done at) = not writing
fits_leave writing (f.Placed place) = writing
fits_leave writing (f.Stale place) = writing
fits_leave writing (f.Replaced place mine found) = writing
fits_leave writing (f.Unsure place at now) = writing
fits_leave writing f.Elsewhere = writing
fits_leave writing (f.Full entries) = writing
fits_leave writing _ = false

abbrev pub fits_route : Fact → Bool
fits_route (f.Routed leader) = true
fits_route _ = false

abbrev pub fits : Question → Fact → Bool
fits (enter need) fact = fits_enter need fact
fits (run calls) fact = fits_run calls fact
fits (leave calls told) fact = fits_leave (some_writes calls) fact
fits leave_noop fact = fits_leave false fact
fits route fact = fits_route fact
