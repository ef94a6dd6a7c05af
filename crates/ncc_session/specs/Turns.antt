-- What each turn of a session does: where it leads, and what it puts out.
use Rattle.std.specs.Prelude.{ℕ, ◌+◌, ◌-◌, ◌<◌, Bool, true, false, not, ◌&&◌, ◌||◌, if◌then◌else◌, nat_lt, nat_le, nat_eq, ◌==◌}
use Rattle.std.specs.Prelude.{IsTrue}
use Rattle.std.specs.Prelude.{List, [], ◌∷◌, ◌++◌, length, take, drop, map, slice_get, slice_set, Option, Some, None, Ok, Err}
use Rattle.ncc_pack.specs.declared.value.Value.{Value}
use Rattle.ncc_pack.specs.declared.value.Value.TheVariants as v
use Rattle.ncc_pack.specs.Short.{short}
use Rattle.ncc_pack.specs.Fits.{fits}
use Rattle.ncc_bolt.specs.Fields.{Pairs}
use Rattle.ncc_bolt.specs.declared.message.Response.TheVariants as s
use Rattle.ncc_store.specs.declared.call.Call.{Call}
use Rattle.ncc_store.specs.Rows.{rows_len, max_bytes}
use Rattle.ncc_tx.specs.Spelled.{calls_value, told_value, pair_value}
use Rattle.ncc_tx.specs.Items.{max_entry}
use Rattle.ncc_session.specs.declared.config.ConnConfig.{ConnConfig}
use Rattle.ncc_session.specs.declared.state.ConnState.{ConnState}
use Rattle.ncc_session.specs.declared.state.ConnState.TheVariants.{Ready, Streaming, TxReady, TxStreaming, Failed, Ended}
use Rattle.ncc_session.specs.declared.state.ConnStop.TheVariants.{Goodbye, Refused}
use Rattle.ncc_session.specs.declared.refusal.Refusal.{Refusal}
use Rattle.ncc_session.specs.declared.refusal.Refusal.TheVariants as r
use Rattle.ncc_session.specs.declared.ask.Fact.{Fact}
use Rattle.ncc_session.specs.declared.ask.Fact.TheVariants as f
use Rattle.ncc_session.specs.declared.table.Turn.{Turn}
use Rattle.ncc_session.specs.declared.table.Turn.TheVariants as t
use Rattle.ncc_session.specs.Question.{Question, enter, run, leave, leave_noop, route, Output, asked, statement_of, some_writes, Row}
use Rattle.ncc_session.specs.Core.{Tx, Next, begins, runs, adds, leaves, routes, Doing, idle, opened, asks, Situation}
use Rattle.ncc_session.specs.Replies.{reply, success, failure, hello_meta, run_meta, step_meta, more_meta, kind_of, end_meta, done_meta}
use Rattle.ncc_session.specs.Replies.{commit_meta, table_meta}
use Rattle.ncc_session.specs.Checks.{Checked, and_then, entrance_of, need_of, checked_call, room_in, wish_of, is_welcome}
use Rattle.ncc_session.specs.declared.checks.Wish.{Wish}
use Rattle.ncc_session.specs.declared.checks.Entrance.{Entrance}

-- where a turn leads, and what it puts out
pub record Turned : Type 0 where
  pub place : Situation
  pub written : List Output

-- to a state, with this put out
abbrev pub goes : Situation → ConnState → Doing → List Output → Turned
goes place state doing written =
    record { place = record { state = state; number = place.number; doing = doing }; written = written }

-- the same place, with nothing done
abbrev pub freed : Situation → Situation
freed place = record { state = place.state; number = place.number; doing = idle }

-- a success, in the state, with no transaction
abbrev pub rests : Situation → ConnState → Pairs → Turned
rests place state meta = goes place state idle (success meta ∷ [])

-- a failure: transaction and results are dropped
abbrev pub fails : Situation → Refusal → Turned
fails place refusal = goes place Failed idle (failure refusal ∷ [])

-- a question is asked: the state stays
abbrev pub puts : Situation → Question → Next → Turned
puts place question next = goes place place.state (asks question next) (asked question ∷ [])

-- the same behind what was put out before
abbrev pub preceded : List Output → Turned → Turned
preceded before turn = record { place = turn.place; written = before ++ turn.written }

-- a failure that ends the connection
abbrev pub refuses : Situation → Refusal → Turned
refuses place refusal = goes place (Ended Refused) idle (failure refusal ∷ [])

-- ---- requests

abbrev pub logs_in : ConnConfig → Situation → Pairs → Turned
logs_in config place extra =
    if is_welcome config.auth extra then rests place Ready (hello_meta config.conn)
    else refuses place r.Unauthorized

-- RUN outside of a transaction: checks 1 to 7, and the question whether it may enter
abbrev pub runs_entered : Situation → List ℕ → Pairs → Entrance → Turned
runs_entered place query params entrance = elim (checked_call entrance.write query params) [
  | Err refusal ↦ fails place refusal
  | Ok call ↦ puts place (enter entrance.need) (runs entrance.write call)
]

abbrev pub runs_alone : ConnConfig → Situation → List ℕ → Pairs → Pairs → Turned
runs_alone config place query params extra = elim (entrance_of config.members.cluster extra) [
  | Err refusal ↦ fails place refusal
  | Ok entrance ↦ runs_entered place query params entrance
]

-- BEGIN: checks 1 to 5, and the same question
abbrev pub begins_one : ConnConfig → Situation → Pairs → Turned
begins_one config place extra = elim (entrance_of config.members.cluster extra) [
  | Err refusal ↦ fails place refusal
  | Ok entrance ↦ puts place (enter entrance.need) (begins entrance.write)
]

-- ROUTE: checks 2 to 5, and the question who leads
abbrev pub asks_route : ConnConfig → Situation → List Value → Pairs → Turned
asks_route config place bookmarks extra = elim (need_of config.members.cluster (Some (v.List bookmarks)) extra) [
  | Err refusal ↦ fails place refusal
  | Ok need ↦ puts place route routes
]

-- a transaction that has no step
abbrev pub new_tx : Bool → Tx
new_tx write = record { write = write; steps = []; told = []; results = []; unended = 0; kept = 0 }

-- the transaction that is open; where none is, one that may write
abbrev pub tx_in : Doing → Tx
tx_in (opened tx) = tx
tx_in _ = new_tx true

-- RUN in a transaction: checks 9, 6 and 7, and the question for the rows of all steps so far and this one
abbrev pub without_steps : Tx → Tx
without_steps tx = record tx { steps = [] }

abbrev pub checked_step : Tx → List ℕ → Pairs → Checked Call
checked_step tx query params = and_then (room_in tx.steps) (λ _. checked_call tx.write query params)

abbrev pub runs_step : Situation → Tx → List ℕ → Pairs → Turned
runs_step place tx query params = elim (checked_step tx query params) [
  | Err refusal ↦ fails place refusal
  | Ok call ↦ puts place (run (tx.steps ++ call ∷ [])) (adds (without_steps tx))
]

-- the rows of a result, behind so many of them
abbrev pub rows_at : List (List Row) → ℕ → ℕ → List Row
rows_at told number next = elim (slice_get told number) [ Some rows ↦ drop next rows | None ↦ [] ]

-- the rows of a result that were not yet pulled
abbrev pub left_in : Tx → Wish → List Row
left_in tx wish = rows_at tx.told wish.number wish.next

-- those of them that are pulled, and those that stay
abbrev pub taken : Option ℕ → List Row → List Row
taken None rows = rows
taken (Some n) rows = take n rows

abbrev pub are_left : Option ℕ → List Row → Bool
are_left None rows = false
are_left (Some n) rows = nat_lt n (length rows)

-- the transaction behind that: so many rows are pulled, and the end is told where none is left
abbrev pub pulled : Tx → Wish → ℕ → Bool → Tx
pulled tx wish count more = record tx {
  results = slice_set tx.results wish.number (record { next = wish.next + count; ended = not more });
  unended = if more then tx.unended else tx.unended - 1;
}

-- a RECORD for each row of a PULL, none of a DISCARD
abbrev pub records : Bool → List Row → List Output
records keep rows = if keep then map (λ row. reply (s.Row row)) rows else []

-- the kind of a step, by its number
abbrev pub kind_in : List Call → ℕ → List ℕ
kind_in calls number = elim (slice_get calls number) [
  | Some call ↦ elim (statement_of call) [ Some statement ↦ kind_of statement | None ↦ [] ]
  | None ↦ []
]

-- the value of the transaction's entry: its steps and the rows that were told of each
abbrev pub entry_value : List Call → List (List Row) → Value
entry_value calls told = pair_value (calls_value calls, told_value told)

-- the entry has a spelling, which is short enough
abbrev pub allowed : List Call → List (List Row) → Bool
allowed calls told =
    nat_eq (length calls) (length told) && fits (entry_value calls told)
    && nat_le (length (short (entry_value calls told))) max_entry

-- where some step writes, the entry has to be one that may be proposed
abbrev pub may_leave : List Call → List (List Row) → Bool
may_leave calls told = not (some_writes calls) || allowed calls told

-- A question that a session may ask: a transaction that is run has a step, and an entry that writes is one that may be proposed. An
-- entry that does nothing is not asked.
abbrev pub MayAsk : Question → Type 0
MayAsk (enter need) = Unit {0}
MayAsk (run calls) = 0 < length calls
MayAsk (leave calls told) = IsTrue (some_writes calls) → IsTrue (allowed calls told)
MayAsk leave_noop = ⊥
MayAsk route = Unit {0}

-- the transaction ends: the question whether it is done
abbrev pub ends_tx : Situation → Tx → Turned
ends_tx place tx = if may_leave tx.steps tx.told then puts place (leave tx.steps tx.told) leaves else fails place r.TooLarge

-- behind the last row of a result: a transaction by itself ends, and one of several steps goes on
abbrev pub open_state : ℕ → ConnState
open_state unended = if unended == 0 then TxReady else TxStreaming

abbrev pub ends_step : Situation → Tx → ℕ → Turned
ends_step place tx number = goes place (open_state tx.unended) (opened tx) (success (end_meta (kind_in tx.steps number)) ∷ [])

abbrev pub ends_result : Situation → ConnState → Tx → ℕ → Turned
ends_result place Streaming tx number = ends_tx place tx
ends_result place _ tx number = ends_step place tx number

abbrev pub goes_on : Situation → Tx → ℕ → Bool → Turned
goes_on place tx number more =
    if more then goes place place.state (opened tx) (success more_meta ∷ []) else ends_result place place.state tx number

-- PULL and DISCARD: check 8, and rows
abbrev pub pulls_rows : Situation → Tx → Bool → Wish → List Row → Bool → Turned
pulls_rows place tx keep wish rows more =
    preceded (records keep rows) (goes_on place (pulled tx wish (length rows) more) wish.number more)

abbrev pub pulls_wish : Situation → Tx → Bool → Wish → Turned
pulls_wish place tx keep wish = pulls_rows place tx keep wish (taken wish.count (left_in tx wish)) (are_left wish.count (left_in tx wish))

abbrev pub pulls : Situation → Tx → Bool → Pairs → Turned
pulls place tx keep extra = elim (wish_of tx.results extra) [
  | Err refusal ↦ fails place refusal
  | Ok wish ↦ pulls_wish place tx keep wish
]

-- a request, by the row of the table that fits
abbrev pub answered : ConnConfig → Situation → Turn → Turned
answered config place (t.Login extra) = logs_in config place extra
answered config place t.HelloExpected = refuses place r.HelloExpected
answered config place t.End = goes place (Ended Goodbye) idle []
answered config place t.Reset = rests place Ready []
answered config place t.Ignore = goes place Failed idle (reply s.Ignored ∷ [])
answered config place (t.Run query params extra) = runs_alone config place query params extra
answered config place (t.Begin extra) = begins_one config place extra
answered config place (t.Route bookmarks extra) = asks_route config place bookmarks extra
answered config place (t.Rows extra keep) = pulls (freed place) (tx_in place.doing) keep extra
answered config place (t.Step query params) = runs_step (freed place) (tx_in place.doing) query params
answered config place t.Commit = ends_tx (freed place) (tx_in place.doing)
answered config place t.Rollback = rests place Ready []
answered config place t.OutOfPlace = fails place r.OutOfPlace

-- ---- facts

-- the last step gave rows: they are kept, unless the transaction has too many bytes of them
abbrev pub with_rows : List Call → Tx → List Row → Tx
with_rows calls tx rows = record {
  write = tx.write;
  steps = calls;
  told = tx.told ++ rows ∷ [];
  results = tx.results ++ record { next = 0; ended = false } ∷ [];
  unended = tx.unended + 1;
  kept = tx.kept + rows_len rows;
}

abbrev pub columns_in : List Call → List Value
columns_in calls = elim (slice_get calls (length calls - 1)) [
  | Some call ↦ elim (statement_of call) [ Some statement ↦ statement.columns | None ↦ [] ]
  | None ↦ []
]

-- behind a RUN outside of a transaction, and in one, where the result has a number
abbrev pub columns_meta : ConnState → List Call → ℕ → Pairs
columns_meta Ready calls number = run_meta (columns_in calls)
columns_meta _ calls number = step_meta (columns_in calls) number

abbrev pub streaming : ConnState → ConnState
streaming Ready = Streaming
streaming _ = TxStreaming

abbrev pub tells_columns : Situation → Tx → ℕ → Turned
tells_columns place tx number =
    goes place (streaming place.state) (opened tx) (success (columns_meta place.state tx.steps number) ∷ [])

abbrev pub adds_rows : Situation → List Call → Tx → List Row → Turned
adds_rows place calls tx rows =
    if nat_lt max_bytes (tx.kept + rows_len rows) then fails place r.TooLarge
    else tells_columns place (with_rows calls tx rows) (length tx.told)

-- behind a transaction by itself, and behind COMMIT: a bookmark of this place
abbrev pub told_meta : ℕ → ConnState → List Call → ℕ → Pairs
told_meta cluster Streaming calls at = done_meta cluster at (kind_in calls 0)
told_meta cluster _ calls at = commit_meta cluster at

-- the transaction is done
abbrev pub tells_done : ConnConfig → Situation → ConnState → List Call → ℕ → Turned
tells_done config place state calls at = rests place Ready (told_meta config.members.cluster state calls at)

-- why a fact fails the request
abbrev pub refusal_of : Fact → Refusal
refusal_of (f.Late need at now) = r.Late
refusal_of (f.Faulted at fault) = r.Fault fault
refusal_of (f.Stale place) = r.Stale
refusal_of (f.Replaced place mine found) = r.Replaced
refusal_of (f.Unsure place at now) = r.Unsure
refusal_of f.Elsewhere = r.Elsewhere
refusal_of (f.Full entries) = r.Full
refusal_of _ = r.OutOfPlace

-- behind BEGIN, behind a RUN outside of a transaction, behind a step, behind the end, and behind ROUTE
abbrev pub after_begin : Situation → Bool → Fact → Turned
after_begin place write (f.Entered at) = goes place TxReady (opened (new_tx write)) (success [] ∷ [])
after_begin place write fact = fails place (refusal_of fact)

abbrev pub after_enter : Situation → Bool → Call → Fact → Turned
after_enter place write call (f.Entered at) = puts place (run (call ∷ [])) (adds (new_tx write))
after_enter place write call fact = fails place (refusal_of fact)

abbrev pub after_step : Situation → List Call → Tx → Fact → Turned
after_step place calls tx (f.Rows at rows) = adds_rows place calls tx rows
after_step place calls tx fact = fails place (refusal_of fact)

abbrev pub after_run : Situation → Question → Tx → Fact → Turned
after_run place (run calls) tx fact = after_step place calls tx fact
after_run place question tx fact = fails place (refusal_of fact)

abbrev pub after_end : ConnConfig → Situation → List Call → Fact → Turned
after_end config place calls (f.Done at) = tells_done config place place.state calls at
after_end config place calls (f.Placed at) = tells_done config place place.state calls at
after_end config place calls fact = fails place (refusal_of fact)

abbrev pub after_leave : ConnConfig → Situation → Question → Fact → Turned
after_leave config place (leave calls told) fact = after_end config place calls fact
after_leave config place question fact = fails place (refusal_of fact)

abbrev pub after_route : ConnConfig → Situation → Fact → Turned
after_route config place (f.Routed leader) = rests place Ready (table_meta config.members leader config.ttl)
after_route config place fact = fails place (refusal_of fact)

-- a fact, by the question that it answers and what goes on behind it
abbrev pub heard : ConnConfig → Situation → Question → Next → Fact → Turned
heard config place question (begins write) fact = after_begin place write fact
heard config place question (runs write call) fact = after_enter place write call fact
heard config place question (adds tx) fact = after_run place question tx fact
heard config place question leaves fact = after_leave config place question fact
heard config place question routes fact = after_route config place fact
