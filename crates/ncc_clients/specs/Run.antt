-- The run of a cluster with its clients: what it consists of, and the small things that happen in it.
use Rattle.std.specs.Prelude.{ℕ, ◌+◌, ◌-◌, ◌^◌, ◌==◌, Bool, true, false, not, ◌&&◌, ◌||◌, if◌then◌else◌, min, List, [], ◌∷◌, ◌++◌}
use Rattle.std.specs.Prelude.{length, Option, Some, None, Ok, Err, slice_get, slice_set}
use Rattle.ncc_wait.specs.Waiting.{outcome_of}
use Rattle.ncc_wait.specs.declared.outcomes.Outcome.{Outcome}
use Rattle.ncc_wait.specs.declared.outcomes.Outcome.TheVariants.{Ready, NotYet, Late as IsLate}
use Rattle.ncc_store.specs.declared.call.Call.{Call}
use Rattle.ncc_store.specs.Exec.{Ended, exec}
use Rattle.ncc_store.specs.Sum.{Answer}
use Rattle.ncc_tx.specs.declared.entry.Item.{Item}
use Rattle.ncc_tx.specs.declared.stamp.Stamp.{Stamp}
use Rattle.ncc_tx.specs.State.{state, stamps}
use Rattle.ncc_apply.specs.View.{stamp_of}
use Rattle.ncc_session.specs.declared.ask.Fact.{Fact}
use Rattle.ncc_session.specs.declared.ask.Fact.TheVariants.{Entered, Late, Rows, Faulted, Done, Placed, Stale, Replaced, Unsure, Elsewhere, Full, Routed}
use Rattle.ncc_session.specs.Question.{Question, enter, run, leave, leave_noop, route, Row, bytes_of, last_writes, some_writes}
use Rattle.ncc_session.specs.Session.{Standing, session, asked_at, is_ended}
use Rattle.ncc_clients.specs.declared.told.Told.{Told}
use Rattle.ncc_clients.specs.Members.{Proposed, elsewhere, full, placed, Cluster, applied, at_of, longest, config_of}
use Rattle.ncc_clients.specs.Links.{Driving, nobody_drives}

-- where an entry was proposed that waits to be applied
pub record Placing : Type 0 where
  pub place : ℕ
  pub term : ℕ

-- a connection
pub record Client : Type 0 where
  pub number : ℕ
  pub member : ℕ
  -- the bytes that came in, and the facts that were told
  pub bytes : List ℕ
  pub facts : List Fact
  -- from when on its question waits: the moment at which it was asked, and for an entry that was proposed the moment of that
  pub since : ℕ
  pub placing : Option Placing
  -- the client or the member closed it
  pub closed : Bool
  -- what it wrote is printed
  pub printed : Bool

-- the state of a run
pub record Run (S : Type 0) : Type 0 where
  -- the clock, in milliseconds
  pub now : ℕ
  pub members : S
  -- the longest applied list that there was
  pub history : List Item
  -- connection 1 first
  pub clients : List Client
  -- the facts told, the first of them first
  pub told : List Told
  -- the sessions of drivers, which make connections and are told what comes of them
  pub driving : Driving

abbrev pub begun : {S : Type 0} → S → Run S
begun members = record { now = 0; members = members; history = []; clients = []; told = []; driving = nobody_drives }

-- ---- a connection: what it wrote, what it asks, and whether it has ended are its session's

abbrev pub talk_of : {S : Type 0} → Cluster S → Client → Standing
talk_of C c = session (config_of C c.number) c.bytes c.facts

abbrev pub out_of : {S : Type 0} → Cluster S → Client → List ℕ
out_of C c = bytes_of (talk_of C c).written

abbrev pub question_of : {S : Type 0} → Cluster S → Client → Option Question
question_of C c = if c.closed then None else asked_at (talk_of C c).core

abbrev pub has_ended : {S : Type 0} → Cluster S → Client → Bool
has_ended C c = c.closed || is_ended (talk_of C c).core.state

-- until when its question may wait; a deadline at the greatest u64 never passes
abbrev pub deadline_of : {S : Type 0} → Cluster S → Client → ℕ
deadline_of C c = min (c.since + C.wait) (2 ^ 64 - 1)

-- ---- how a member answers a question

pub data Reply : Type 0 where
  waits : Reply
  tells : Fact → Reply
  -- the transaction's entry is proposed
  proposes : Reply

-- whether a transaction may begin that needs a place: as soon as the member has applied it, and at the latest at the deadline
abbrev pub enters : ℕ → ℕ → ℕ → Outcome → Reply
enters at need now Ready = tells (Entered at)
enters at need now NotYet = waits
enters at need now IsLate = tells (Late need at now)

-- the rows of the last call, where all calls ran over the store that the member's list leaves
abbrev pub last_rows : List (List Row) → List Row
last_rows lists = elim (slice_get lists (length lists - 1)) [ Some rows ↦ rows | None ↦ [] ]

abbrev pub ran : ℕ → Answer Ended → Fact
ran at (Ok end) = Rows at (last_rows end.rows)
ran at (Err fault) = Faulted at fault

-- a member that does not lead runs no call that writes
abbrev pub runs : Bool → List Item → List Call → Reply
runs leads list calls =
    if last_writes calls && not leads then tells Elsewhere else tells (ran (length list) (exec (state list) calls))

-- at the place of a proposal stands an item: one of another term, or this one, valid there or not
abbrev pub found_at : Placing → Stamp → Fact
found_at p s = if s.term == p.term then (if s.valid then Placed p.place else Stale p.place) else Replaced p.place p.term s.term

abbrev pub found : Placing → Option Stamp → Reply
found p None = waits
found p (Some s) = tells (found_at p s)

abbrev pub lands : List Item → ℕ → Placing → Outcome → Reply
lands list now p Ready = found p (stamp_of p.place (stamps list))
lands list now p NotYet = waits
lands list now p IsLate = tells (Unsure p.place (length list) now)

-- whether a transaction is done: it is where no call of it writes, and else it is proposed and waits for its place
abbrev pub leaves : List Item → ℕ → ℕ → Bool → Option Placing → Reply
leaves list now deadline false placing = tells (Done (length list))
leaves list now deadline true None = proposes
leaves list now deadline true (Some p) = lands list now p (outcome_of (length list) p.place now deadline)

abbrev pub answers : {S : Type 0} → Cluster S → Run S → Client → Question → Reply
answers C r c (enter need) =
    enters (at_of C r.members c.member) need r.now (outcome_of (at_of C r.members c.member) need r.now (deadline_of C c))
answers C r c (run calls) = runs (C.leads r.members c.member) (applied C r.members c.member) calls
answers C r c (leave calls told) = leaves (applied C r.members c.member) r.now (deadline_of C c) (some_writes calls) c.placing
answers C r c leave_noop = leaves (applied C r.members c.member) r.now (deadline_of C c) false c.placing
answers C r c route = tells (Routed (C.leader r.members c.member))

abbrev pub reply_by : {S : Type 0} → Cluster S → Run S → Client → Option Question → Reply
reply_by C r c None = waits
reply_by C r c (Some question) = answers C r c question

unfoldable pub reply : {S : Type 0} → Cluster S → Run S → Client → Reply
reply C r c = reply_by C r c (question_of C c)

-- ---- the small things that happen

abbrev pub ticked : {S : Type 0} → Run S → ℕ → Run S
ticked r to = record r { now = to }

-- a client connects to a member
abbrev pub opened : {S : Type 0} → Run S → ℕ → Bool → Run S
opened r member printed = record r {
  clients = r.clients ++ (record {
    number = length r.clients + 1;
    member = member;
    bytes = [];
    facts = [];
    since = r.now;
    placing = None;
    closed = false;
    printed = printed;
  } ∷ []);
}

-- bytes come in; a question that they ask waits from now on
abbrev pub since_fed : ℕ → ℕ → Option Question → ℕ
since_fed now since None = now
since_fed now since (Some question) = since

abbrev pub with_bytes : {S : Type 0} → Cluster S → ℕ → Client → List ℕ → Client
with_bytes C now c piece = record c { bytes = c.bytes ++ piece; since = since_fed now c.since (question_of C c) }

abbrev pub fed : {S : Type 0} → Cluster S → Run S → ℕ → Client → List ℕ → Run S
fed C r i c piece = record r { clients = slice_set r.clients i (with_bytes C r.now c piece) }

-- it is told a fact, in the event of this line; a question that it asks then waits from now on
abbrev pub with_fact : ℕ → Client → Fact → Client
with_fact now c fact = record c { facts = c.facts ++ (fact ∷ []); since = now; placing = None }

abbrev pub told_to : {S : Type 0} → ℕ → Run S → ℕ → Client → Fact → Run S
told_to line r i c fact = record r {
  clients = slice_set r.clients i (with_fact r.now c fact);
  told = r.told ++ (record { line = line; conn = c.number; fact = fact } ∷ []);
}

-- the members are others
abbrev pub moved : {S : Type 0} → Cluster S → Run S → S → Run S
moved C r members = record r { members = members; history = longest r.history (C.lists members) }

-- its entry was proposed, and waits from now on
abbrev pub with_placing : ℕ → Client → ℕ → ℕ → Client
with_placing now c place term = record c { since = now; placing = Some (record { place = place; term = term }) }

abbrev pub accepted : {S : Type 0} → Cluster S → Run S → ℕ → Client → ℕ → ℕ → S → Run S
accepted C r i c place term members =
    record (moved C r members) { clients = slice_set r.clients i (with_placing r.now c place term) }

abbrev pub proposed : {S : Type 0} → Cluster S → ℕ → Run S → ℕ → Client → Proposed S → Run S
proposed C line r i c elsewhere = told_to line r i c Elsewhere
proposed C line r i c (full entries) = told_to line r i c (Full entries)
proposed C line r i c (placed place term members) = accepted C r i c place term members

-- the client or the member closes it
abbrev pub closed_at : {S : Type 0} → Run S → ℕ → Client → Run S
closed_at r i c = record r { clients = slice_set r.clients i (record c { closed = true }) }
