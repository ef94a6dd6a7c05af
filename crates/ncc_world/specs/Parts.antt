-- What the parts of a world do. No public clause speaks of it.
use Rattle.std.specs.Prelude.{◌≡◌, ℕ, ◌+◌, ◌-◌, ◌*◌, ◌<◌, Bool, true, false, if◌then◌else◌, ◌==◌, not, nat_lt, List, [], ◌∷◌, map, length, Option}
use Rattle.std.specs.Prelude.{Some, None, IsTrue, is_some, ◌++◌, Result, IfOk, slice_get, nat_le}
use Rattle.std.specs.List.{sum_by}
use Rattle.indexmap.specs.IndexMap.{keys, values}
use Rattle.indexmap.specs.IndexSet.{IndexSet, keys as set_keys}
use Rattle.ncc_wait.specs.declared.outcomes.Outcome.{Outcome}
use Rattle.ncc_wait.specs.declared.parked.Parked.{Parked}
use Rattle.ncc_wait.specs.Room.{put, without}
use Rattle.ncc_store.specs.declared.call.Call.{Call}
use Rattle.ncc_store.specs.declared.fault.RunError.{RunError}
use Rattle.ncc_store.specs.declared.ran.Ran.{Ran}
use Rattle.ncc_store.specs.Answers.{Gives}
use Rattle.ncc_store.specs.Delta.{IsOver, applied}
use Rattle.ncc_store.specs.Exec.{exec}
use Rattle.ncc_store.specs.Graph.{Graph}
use Rattle.ncc_tx.specs.declared.entry.Entry.{Entry}
use Rattle.ncc_session.specs.Talk.{Talk, asked, fits_at, measure}
use Rattle.ncc_clients.specs.Members.{Proposed, elsewhere, full, placed, longest}
use Rattle.ncc_clients.specs.Run.{Client, Placing, Reply, waits, tells, proposes, with_bytes, with_fact, with_placing, deadline_of}
use Rattle.ncc_clients.specs.Run.{question_of, last_rows}
use Rattle.ncc_clients.specs.Links.{Driver}
use Rattle.ncc_clients.specs.Drives.{Pumps, driver_at, feeds_some, with_driver}
use Rattle.ncc_clients.specs.Held.{own}
use Rattle.ncc_clients.specs.Measure.{number}
use Rattle.ncc_driver.specs.declared.action.Action.{Action}
use Rattle.ncc_tx.specs.declared.entry.Item.{Item}
use Rattle.ncc_session.specs.Question.{Question, Row}
use Rattle.ncc_clients.specs.Four.{Begins}
use Rattle.ncc_clients.specs.Turn.{Settles, Turn, AtRest, Does, IsEntryOf, acts}
use Rattle.ncc_world.specs.declared.setup.Setup.{Setup}
use Rattle.ncc_world.specs.declared.served.ProposedAt.{ProposedAt}
use Rattle.ncc_world.specs.declared.served.Served.{Served}
use Rattle.ncc_world.specs.declared.served.Change.{Change}
use Rattle.ncc_world.specs.declared.served.Change.TheVariants as change
use Rattle.ncc_world.specs.declared.members.Members.{Members}
use Rattle.ncc_world.specs.declared.one_list.OneList.{OneList}
use Rattle.ncc_world.specs.declared.proposal.Proposal.{Proposal}
use Rattle.ncc_world.specs.declared.proposal.Proposal.TheVariants as proposal
use Rattle.ncc_world.specs.declared.clients.Clients.{Clients}
use Rattle.ncc_world.specs.declared.answer.Reply as declared
use Rattle.ncc_world.specs.declared.answer.Reply.TheVariants as answer
use Rattle.ncc_world.specs.declared.running.Running.{Running}
use Rattle.ncc_world.specs.declared.drivers.Drivers.{Drivers}
use Rattle.ncc_world.specs.Setting.{Lists, Seats, over_list, over_raft, lists_of, cluster_of, list_at}
use Rattle.ncc_world.specs.Earlier.{LeftBy, LeftFor, Remembers}
use Rattle.ncc_world.specs.declared.earlier.Earlier.{Earlier}
use Rattle.ncc_world.specs.Drivers.{KeptDrivers, AreAtWork, IsAwake}
use Rattle.ncc_world.specs.Happening.{WorldRun, ComesAsBytes}
use Rattle.ncc_world.specs.World.{KeptMembers, KeptClients, KeptRun, AreMembers, AreOneList, AreServed, RunsAs, placing_of}

abbrev pub list_in : OneList → KeptMembers
list_in m = record { items = m.items; shelves = m.shelves.items; seen = m.seen }

abbrev pub members_in : Members → KeptMembers
members_in m = list_in m.list

abbrev pub numbers_in : {S : Type 0} → List (IndexSet ℕ S) → List (List ℕ)
numbers_in sets = map set_keys sets

abbrev pub clients_in : Clients → KeptClients
clients_in k = record {
  numbers = keys k.table;
  table = values k.table;
  seen = k.seen;
  rooms = k.rooms.items;
  live = numbers_in k.live.items;
}

abbrev pub run_in : Running → KeptRun
run_in w = record {
  now = w.clock;
  members = members_in w.members;
  clients = clients_in w.clients;
  told = w.told;
  earlier = w.earlier.items;
}

-- it stands for some run
pub record HasRun (s : Setup) (w : Running) : Type 0 where
  pub run : WorldRun
  pub runs_as : RunsAs s (run_in w) run

-- ---- members

pub record HasList (s : Setup) (m : OneList) : Type 0 where
  pub lists : Lists
  pub are : AreOneList s (list_in m) lists

-- what became of an entry over one list
abbrev pub IsOffered : Setup → Lists → Proposed Seats → Proposal → KeptMembers → Type 0
IsOffered s lists elsewhere p m = (p ≡ proposal.Elsewhere) × AreOneList s m lists
IsOffered s lists (full entries) p m = (p ≡ proposal.Full entries) × AreOneList s m lists
IsOffered s lists (placed place term (over_list after)) p m =
    (p ≡ proposal.Placed (record { place = place; term = term })) × AreOneList s m after
IsOffered s lists (placed place term (over_raft fleet)) p m = ⊥

pub record HasSeats (s : Setup) (m : Members) : Type 0 where
  pub seats : Seats
  pub history : List Item
  pub are : AreMembers s (members_in m) seats history

-- The members are others, as many as before, the list of each has only grown, and the history was looked at again.
pub record BecomeMembers (s : Setup) (m : KeptMembers) (old : Seats) (history : List Item) (new : Seats) : Type 0 where
  pub are : AreMembers s m new (longest history (lists_of new))
  pub count : length (lists_of new) ≡ length (lists_of old)
  pub grow : (member : ℕ) → Begins (list_at (lists_of old) member) (list_at (lists_of new) member)

-- what became of an entry
abbrev pub IsProposed : Setup → Seats → List Item → Proposed Seats → Proposal → KeptMembers → Type 0
IsProposed s seats history elsewhere p m = (p ≡ proposal.Elsewhere) × AreMembers s m seats history
IsProposed s seats history (full entries) p m = (p ≡ proposal.Full entries) × AreMembers s m seats history
IsProposed s seats history (placed place term after) p m =
    (p ≡ proposal.Placed (record { place = place; term = term })) × (0 < place) × BecomeMembers s m seats history after

-- ---- connections

pub record HasClients (k : Clients) : Type 0 where
  pub setup : Setup
  pub count : ℕ
  pub clients : List Client
  pub are : AreServed setup count (clients_in k) clients

-- what changes at a connection: bytes came in, a fact was told, its entry was placed, or it was closed
abbrev pub changed : Setup → ℕ → Client → Change → Client
changed s now c (change.Fed piece) = with_bytes (cluster_of s) now c piece
changed s now c (change.Told fact) = with_fact now c fact
changed s now c (change.Placed p) = with_placing now c p.place p.term
changed s now c change.Closed = record c { closed = true }

-- a fact answers the question that waits, and a place is one
abbrev pub MayChange : Change → Talk → Type 0
MayChange (change.Told fact) talk = IsTrue (fits_at (asked talk) fact)
MayChange (change.Placed p) talk = 0 < p.place
MayChange _ talk = Unit {0}

-- whether numbers have one, where this number was put in or, at its end, taken out
abbrev pub marked : ℕ → Bool → ℕ → Bool → Bool
marked number ended n had = if number == n then not ended else had

-- How much is left to do: twice the facts that a session takes at most before more bytes have to come, and one where no entry is proposed.
-- So each fact lowers it, and each proposal.
abbrev pub left_at : Served → ℕ
left_at v = 2 * measure v.conn + (if is_some v.placing then 0 else 1)

abbrev pub left_in : Clients → ℕ
left_in k = sum_by left_at (values k.table)

-- what a change does to that, where the connection's entry was proposed so
abbrev pub Lowers : Change → Option ProposedAt → ℕ → ℕ → Type 0
Lowers (change.Told fact) placing old new = new < old
Lowers (change.Placed p) placing old new = placing ≡ None → new < old
Lowers _ placing old new = Unit {0}

-- who waits where this connection, by its number, now waits so
abbrev pub parked_anew : ℕ → Option Parked → List Parked → List Parked
parked_anew number None room = without number room
parked_anew number (Some p) room = put p (without number room)

-- the lower of two numbers
abbrev pub number_of : Option (ℕ × Outcome) → Option ℕ
number_of None = None
number_of (Some x) = Some x.0

abbrev pub lower : Option ℕ → Option ℕ → Option ℕ
lower None b = b
lower (Some x) None = Some x
lower (Some x) (Some y) = if nat_lt y x then Some y else Some x

-- the number of the first that passes a test
unfoldable pub first_where : (Client → Bool) → List Client → Option ℕ
first_where test [] = None
first_where test (c ∷ cs) = if test c then Some c.number else first_where test cs

-- the number of the first that acts
abbrev pub first_acting : Setup → WorldRun → Option ℕ
first_acting s r = first_where (acts (cluster_of s) r) r.clients

-- ---- answers

abbrev pub placed_at : ProposedAt → Placing
placed_at p = record { place = p.place; term = p.term }

abbrev pub reply_in : declared.Reply → Reply
reply_in answer.Waits = waits
reply_in (answer.Tells fact earlier) = tells fact
reply_in answer.Proposes = proposes

-- what is kept behind an answer to a question, and where nothing is
abbrev pub LeftIn : List Item → Question → declared.Reply → Type 0
LeftIn list question (answer.Tells fact earlier) = LeftBy list question fact earlier
LeftIn list question _ = Unit {0}

abbrev pub KeepsNothing : declared.Reply → Type 0
KeepsNothing (answer.Tells fact earlier) = earlier ≡ None
KeepsNothing _ = Unit {0}

-- This was kept of the connection at an index.
abbrev pub RememberedAt : Setup → WorldRun → ℕ → Option Earlier → Type 0
RememberedAt s r index o = (c : Client) → slice_get r.clients index ≡ Some c → Remembers s (list_at (lists_of r.members) c.member) c o

-- behind an answer to a connection
abbrev pub LeftAt : Setup → WorldRun → Client → declared.Reply → Type 0
LeftAt s r c (answer.Tells fact earlier) = LeftFor s r c fact earlier
LeftAt s r c _ = Unit {0}

-- Steps were run, or the last of them behind what the others left: the rows of the last, what all left, and the first fault are those of
-- all the calls.
abbrev pub RunsToLast : Graph → List Call → Result Ran RunError → Type 0
RunsToLast g calls result =
    (front : List (List Row)) × Gives (λ r. record { rows = front ++ r.rows; graph = applied r.delta g }) result (exec g calls)
    × IfOk result (λ r. last_rows (front ++ r.rows) ≡ last_rows r.rows) × IfOk result (λ r. IsOver g r.delta)

-- what a question is answered by, of the connection
pub record IsAskedOf (s : Setup) (now : ℕ) (member deadline : ℕ) (placing : Option ProposedAt) (r : WorldRun) (c : Client) : Type 0 where
  pub now_is : now ≡ r.now
  pub member_is : member ≡ c.member
  pub deadline_is : deadline ≡ deadline_of (cluster_of s) c
  pub placing_is : placing_of placing ≡ c.placing

-- what became of the entry of a connection's question, where the members alone have changed
pub record Offered (s : Setup) (r : WorldRun) (c : Client) (p : Proposal) (old new : Running) : Type 0 where
  pub entry : Entry
  pub entry_is : IsEntryOf (question_of (cluster_of s) c) entry
  pub proposed_so : IsProposed s r.members r.history ((cluster_of s).propose r.members c.member entry) p (members_in new.members)
  pub clock : new.clock ≡ old.clock
  pub clients : new.clients ≡ old.clients
  pub told : new.told ≡ old.told
  pub earlier : new.earlier.items ≡ old.earlier.items

-- it stands for a run that this reply makes
abbrev pub DoesTo : Setup → ℕ → WorldRun → ℕ → Client → Reply → KeptRun → Type 0
DoesTo s line r index c reply k = (t : WorldRun) × Does (cluster_of s) line r index c reply t × RunsAs s k t

-- a turn was made, or nobody acts
abbrev pub TurnBy : Setup → ℕ → WorldRun → KeptRun → Bool → Type 0
TurnBy s line r k true = (t : WorldRun) × Turn (cluster_of s) line r t × RunsAs s k t
TurnBy s line r k false = AtRest (cluster_of s) r × RunsAs s k r

-- ---- sessions of drivers

abbrev pub drivers_in : Drivers → KeptDrivers
drivers_in d = record {
  list = d.list.items;
  names = d.names;
  sleepers = d.sleepers;
  linked = set_keys d.linked;
  works = d.works;
}

-- It stands for a run with its sessions, where the one at an index still has these actions to do, and those of these numbers are still to
-- be woken.
pub record RunsMid (s : Setup) (at : ℕ) (left : List Action) (pending : List ℕ) (w : Running) (r : WorldRun) : Type 0 where
  pub runs_as : RunsAs s (run_in w) r
  pub drives : AreAtWork s at left pending (drivers_in w.drivers) r.now r.driving
  pub members : length (lists_of r.members) ≡ s.cores + s.replicas
  pub awake : IsAwake (at + 1) pending

-- It stands for a run with its sessions.
abbrev pub RunsAll : Setup → Running → WorldRun → Type 0
RunsAll s w r = RunsMid s 0 [] [] w r

-- It stands for a run of which the sessions of these numbers are still to be woken.
abbrev pub RunsDue : Setup → List ℕ → Running → WorldRun → Type 0
RunsDue s pending w r = RunsAs s (run_in w) r × AreAtWork s 0 [] pending (drivers_in w.drivers) r.now r.driving × (length (lists_of r.members) ≡ s.cores + s.replicas)

-- the first of these has this number, and there is such a session
pub record HasDue (s : Setup) (number : ℕ) (w : Running) : Type 0 where
  pub run : WorldRun
  pub pending : List ℕ
  pub awake : IsAwake number pending
  pub runs : RunsDue s (number ∷ pending) w run
  pub some : 0 < number
  pub driver : Driver
  pub there : driver_at run (number - 1) ≡ Some driver

pub record HasAll (s : Setup) (w : Running) : Type 0 where
  pub run : WorldRun
  pub runs_all : RunsAll s w run

-- In the middle of what the session at an index does; there is such a session.
pub record HasMid (s : Setup) (at : ℕ) (w : Running) : Type 0 where
  pub run : WorldRun
  pub left : List Action
  pub pending : List ℕ
  pub runs_mid : RunsMid s at left pending w run
  pub driver : Driver
  pub there : driver_at run at ≡ Some driver

-- the same where it has all done
pub record HasDone (s : Setup) (at : ℕ) (w : Running) : Type 0 where
  pub run : WorldRun
  pub pending : List ℕ
  pub runs_mid : RunsMid s at [] pending w run
  pub driver : Driver
  pub there : driver_at run at ≡ Some driver

-- Each run that it stood for in the middle of what the session at an index does is made another of.
abbrev pub MakesOf : Setup → ℕ → Running → Running → (WorldRun → Driver → WorldRun) → Type 0
MakesOf s at old new makes =
    (r : WorldRun) (d : Driver) (pending : List ℕ) → driver_at r at ≡ Some d → RunsMid s at [] pending old r
    → RunsMid s at [] pending new (makes r d)

-- Whatever its sessions are in the middle of, each run is made another of, and they stay in the middle of that.
abbrev pub GoesOn : Setup → Running → Running → (WorldRun → WorldRun) → Type 0
GoesOn s old new makes =
    (at : ℕ) (left : List Action) (pending : List ℕ) (r : WorldRun) → RunsMid s at left pending old r → RunsMid s at left pending new (makes r)

-- the same where those are answered who can be
abbrev pub SettlesOn : Setup → ℕ → Running → Running → Type 0
SettlesOn s line old new =
    (at : ℕ) (left : List Action) (pending : List ℕ) (r : WorldRun) → RunsMid s at left pending old r
    → (t : WorldRun) × Settles (cluster_of s) line r t × RunsMid s at left pending new t

-- so many sessions as before
abbrev pub SameCount : Running → Running → Type 0
SameCount old new = length new.drivers.list.items ≡ length old.drivers.list.items

-- the session at an index with what an action does at its own link done
abbrev pub with_own : WorldRun → ℕ → Driver → Action → WorldRun
with_own r at d action = with_driver r at (own d action)

-- all bytes of the session's link moved, and what came down were bytes
abbrev pub PumpsOn : Setup → ℕ → ℕ → Option ℕ → WorldRun → WorldRun → Type 0
PumpsOn s line at limit r t = (moves : Pumps (cluster_of s) line at limit r t) × ComesAsBytes s line at limit r t moves

-- these bytes of the session's link go up, where there are some
abbrev pub rises_some : Setup → WorldRun → Option Driver → List ℕ → WorldRun
rises_some s r None bytes = r
rises_some s r (Some d) bytes = elim d.link [ Some link ↦ feeds_some (cluster_of s) r (link.conn - 1) bytes | None ↦ r ]

abbrev pub RisesOn : Setup → ℕ → List ℕ → Running → Running → Type 0
RisesOn s at bytes old new =
    (r : WorldRun) (pending : List ℕ) → RunsMid s at [] pending old r
    → RunsMid s at [] pending new (rises_some s r (driver_at r at) bytes)

-- how many more requests may go up behind so many that went up; none where the last did
abbrev pub left_after : Option ℕ → ℕ → Option (Option ℕ)
left_after None waiting = Some None
left_after (Some count) waiting = if nat_le count waiting then None else Some (Some (count - waiting))

-- One move of a pump: the last request that may go up went up and was answered, or nothing was left to move; or there is more to move, and
-- all that waited went up and was answered, or all that was written came down, and a number is lower.
abbrev pub MovesOnce : Setup → ℕ → ℕ → Option ℕ → WorldRun → Option (Option ℕ) → Running → Type 0
MovesOnce s line at limit r None new =
    (t : WorldRun) × PumpsOn s line at limit r t × RunsAll s new t
MovesOnce s line at limit r (Some next) new =
    (m : WorldRun) × ((t : WorldRun) → PumpsOn s line at next m t → PumpsOn s line at limit r t) × RunsAll s new m
    × (number (cluster_of s) at m < number (cluster_of s) at r)
