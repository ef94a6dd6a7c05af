-- How a shelf answers the questions of a session, by the list of items that it stands for.
use Rattle.std.specs.Prelude.{ℕ, ◌+◌, ◌-◌, nat_le, Bool, true, false, if◌then◌else◌, List, [], ◌∷◌, ◌++◌, length, map, slice_get, Some}
use Rattle.std.specs.Prelude.{None, Ok, Err}
use Rattle.ncc_store.specs.Exec.{Ended, call_of, exec}
use Rattle.ncc_store.specs.Sum.{Answer}
use Rattle.ncc_tx.specs.declared.entry.Entry.{Entry}
use Rattle.ncc_tx.specs.declared.entry.Item.{Item}
use Rattle.ncc_tx.specs.State.{state, valid}
use Rattle.ncc_session.specs.declared.ask.Ask.{Ask}
use Rattle.ncc_session.specs.declared.ask.Ask.TheVariants as a
use Rattle.ncc_session.specs.declared.ask.Fact.{Fact}
use Rattle.ncc_session.specs.declared.ask.Fact.TheVariants as f
use Rattle.ncc_session.specs.Question.{Row, ends_writing}
use Rattle.ncc_session.specs.Core.{question_of, leave_of}
use Rattle.ncc_apply.specs.Shelf.{Shown, Stands}
use Rattle.ncc_server.specs.declared.shelf_backend.Told.{Told}
use Rattle.ncc_server.specs.Answered as answered

-- what a backend over a shelf shows: the shelf, and the answers that it told
pub record Shelved : Type 0 where
  pub cluster : ℕ
  pub shelf : Shown
  pub answers : List answered.Answer

-- it stands for some list of items
pub record HasHistory (shelf : Shown) : Type 0 where
  pub history : List Item
  pub stands : Stands shelf history

abbrev pub answer_of : Told → answered.Answer
answer_of t = record { question = question_of t.ask; deadline = t.deadline; fact = t.fact }

-- as far as the bookmarks say, or late at the moment past the deadline
abbrev pub entered : ℕ → ℕ → ℕ → Fact
entered at need deadline = if nat_le need at then f.Entered at else f.Late need at (deadline + 1)

-- the rows of the last step
abbrev pub last_rows : List (List Row) → List Row
last_rows lists = elim (slice_get lists (length lists - 1)) [ Some rows ↦ rows | None ↦ [] ]

abbrev pub ran : ℕ → Answer Ended → Fact
ran at (Ok end) = f.Rows at (last_rows end.rows)
ran at (Err fault) = f.Faulted at fault

-- where an entry stands, and whether it is valid there
abbrev pub placed : ℕ → Bool → Fact
placed place true = f.Placed place
placed place false = f.Stale place

-- some step of the entry writes
abbrev pub entry_writes : Entry → Bool
entry_writes entry = ends_writing (leave_of entry)

abbrev pub item_of : Entry → Item
item_of entry = record { term = 1; entry = entry }

abbrev pub left : List Item → Entry → Bool → Fact
left h entry true = placed (length h + 1) (valid (state h) entry)
left h entry false = f.Done (length h)

-- the answer
abbrev pub fact_by : List Item → ℕ → Ask → Fact
fact_by h deadline (a.Enter need) = entered (length h) need deadline
fact_by h deadline (a.Run steps) = ran (length h) (exec (state h) (map call_of steps))
fact_by h deadline (a.Leave entry) = left h entry (entry_writes entry)
fact_by h deadline a.Route = f.Routed 1

-- the items behind it: an entry of which some step writes is one more
abbrev pub with_entry : List Item → Entry → Bool → List Item
with_entry h entry true = h ++ item_of entry ∷ []
with_entry h entry false = h

abbrev pub items_by : List Item → Ask → List Item
items_by h (a.Leave entry) = with_entry h entry (entry_writes entry)
items_by h ask = h
