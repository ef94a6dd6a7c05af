-- A cluster as a world keeps it: members in lists, and no records. What its members do, and what becomes of them.
use Rattle.std.specs.Prelude.{◌≡◌, ℕ, ◌+◌, ◌-◌, ◌≤◌, Bool, true, ◌&&◌, nat_lt, nat_le, if◌then◌else◌, IsTrue}
use Rattle.std.specs.Prelude.{List, [], ◌∷◌, ◌++◌, length, map, replicate, slice_get, slice_index_or, slice_set, Some}
use Rattle.ncc_tx.specs.declared.entry.Entry.{Entry}
use Rattle.ncc_tx.specs.declared.entry.Item.{Item}
use Rattle.ncc_tx.specs.Items.{entry_allowed}
use Rattle.ncc_tx.specs.Kept.{max_items, max_vote}
use Rattle.ncc_raft.specs.declared.message.Envelope.{Envelope}
use Rattle.ncc_raft.specs.declared.message.Body.TheVariants.{Pull, Batch}
use Rattle.ncc_raft.specs.Member.{Seat, Member, Event, Timeout, Beat, Receive, Propose, Outcome, letter, is_core, is_leader, restarted}
use Rattle.ncc_raft.specs.Appending.{applied}
use Rattle.ncc_raft.specs.Pulled.{Grown, taken}
use Rattle.ncc_raft.specs.Step.{step}
use Rattle.ncc_safety.specs.Cluster.{grown, new_member}

-- how many members there are, and the greatest length of a log
pub record Shape : Type 0 where
  pub cores : ℕ
  pub replicas : ℕ
  pub limit : ℕ

pub record Fleet : Type 0 where
  pub cores : List Member  -- core 1 first
  pub lists : List (List Item)  -- of each replica, what it has applied; its number is behind those of the cores
  pub sent : List Envelope  -- all that was ever sent, in the order of sending

-- ---- its members, by their numbers, which count from 1

abbrev pub seat_at : Shape → ℕ → Seat
seat_at shape i = record { id = i; cores = shape.cores; limit = shape.limit }

abbrev pub is_replica : Shape → ℕ → Bool
is_replica shape j = nat_lt shape.cores j && nat_le j (shape.cores + shape.replicas)

abbrev pub core_at : Shape → Fleet → ℕ → Member
core_at shape f i = slice_index_or f.cores (i - 1) (new_member shape.cores)

abbrev pub list_at : Shape → Fleet → ℕ → List Item
list_at shape f j = slice_index_or f.lists (j - shape.cores - 1) []

-- what each member has applied, member 1 first
abbrev pub applied_lists : Fleet → List (List Item)
applied_lists f = map applied f.cores ++ f.lists

abbrev pub applied_at : Fleet → ℕ → List Item
applied_at f member = slice_index_or (applied_lists f) (member - 1) []

pub record HasShape (shape : Shape) (f : Fleet) : Type 0 where
  pub cores : length f.cores ≡ shape.cores
  pub lists : length f.lists ≡ shape.replicas

-- ---- how it changes

-- core i becomes m, and all that was ever sent is this
abbrev pub core_becomes : Fleet → ℕ → Member → List Envelope → Fleet
core_becomes f i m sent = record { cores = slice_set f.cores (i - 1) m; lists = f.lists; sent = sent }

-- replica j has this list
abbrev pub list_becomes : Shape → Fleet → ℕ → List Item → Fleet
list_becomes shape f j list = record { cores = f.cores; lists = slice_set f.lists (j - shape.cores - 1) list; sent = f.sent }

abbrev pub also_sends : Fleet → List Envelope → Fleet
also_sends f new = record { cores = f.cores; lists = f.lists; sent = f.sent ++ new }

-- what comes of an event at core i
abbrev pub outcome_at : Shape → Fleet → ℕ → Event → Outcome
outcome_at shape f i event = step (seat_at shape i) (core_at shape f i) event

-- It is so, and all that it sends is sent.
abbrev pub steps_to : Shape → Fleet → ℕ → Event → Fleet
steps_to shape f i event = core_becomes f i (outcome_at shape f i event).member (f.sent ++ (outcome_at shape f i event).sent)

-- It is so, and all that it sends is lost.
abbrev pub loses_to : Shape → Fleet → ℕ → Event → Fleet
loses_to shape f i event = core_becomes f i (outcome_at shape f i event).member f.sent

-- core i starts again from what it keeps, and has applied nothing
abbrev pub starts_again : Shape → Fleet → ℕ → Fleet
starts_again shape f i = core_becomes f i (restarted shape.cores 0 (core_at shape f i)) f.sent

-- cores that keep nothing yet, replicas that have nothing, and nothing sent
abbrev pub fleet_start : Shape → Fleet
fleet_start shape = record { cores = replicate shape.cores (new_member shape.cores); lists = replicate shape.replicas []; sent = [] }

-- ---- what happens

abbrev pub WasSent : Fleet → Envelope → Type 0
WasSent f e = (n : ℕ) × (slice_get f.sent n ≡ Some e)

-- What may happen to a core at any time: a message comes that was sent, once or again, and an entry is proposed that a log may have.
abbrev pub MayHappen : Fleet → Event → Type 0
MayHappen f (Receive e) = WasSent f e
MayHappen f (Propose entry) = IsTrue (entry_allowed entry)
MayHappen f _ = Unit {0}

-- one thing that members do
pub data Moves (shape : Shape) (f : Fleet) : Fleet → Type 0 where
  -- a core's time runs out
  TimesOut : (i : ℕ) → is_core shape.cores i ≡ true → Moves shape f (steps_to shape f i Timeout)
  -- a core's beat is due
  Beats : (i : ℕ) → is_core shape.cores i ≡ true → Moves shape f (steps_to shape f i Beat)
  -- a message comes to the core that it is for
  Hears : (e : Envelope) → is_core shape.cores e.to ≡ true → WasSent f e → Moves shape f (steps_to shape f e.to (Receive e))
  -- a replica asks a core for what is behind its list
  Asks : (j i : ℕ) → is_replica shape j ≡ true → is_core shape.cores i ≡ true →
      Moves shape f (also_sends f (letter j i (Pull (length (list_at shape f j))) ∷ []))
  -- a replica's list grows by a Batch that was sent to it
  Takes : (j from first : ℕ) (items list : List Item) → is_replica shape j ≡ true → WasSent f (letter from j (Batch first items)) →
      taken (list_at shape f j) first items ≡ Grown list → Moves shape f (list_becomes shape f j list)
  -- nothing changes, as where a message is for nobody
  Rests : Moves shape f f

-- a member starts again
pub data Restarts (shape : Shape) (member : ℕ) (f : Fleet) : Fleet → Type 0 where
  -- a core
  Again : is_core shape.cores member ≡ true → Restarts shape member f (starts_again shape f member)
  -- a core that stopped amid a step, which stands in what it keeps, though all that it sent is lost
  Amid : (event : Event) → is_core shape.cores member ≡ true → MayHappen f event →
      Restarts shape member f (starts_again shape (loses_to shape f member event) member)
  -- a replica, which has nothing then
  Empties : is_replica shape member ≡ true → Restarts shape member f (list_becomes shape f member [])

-- ---- proposals

abbrev pub leads : Shape → Fleet → ℕ → Bool
leads shape f i = is_core shape.cores i && is_leader (core_at shape f i).role

abbrev pub is_full : Shape → Fleet → ℕ → Bool
is_full shape f i = nat_le shape.limit (length (core_at shape f i).log)

abbrev pub proposed : Shape → Fleet → ℕ → Entry → Fleet
proposed shape f i entry = steps_to shape f i (Propose entry)

-- what becomes of an entry that is proposed at a member
pub data Answer : Type 0 where
  -- the member does not lead
  Elsewhere : Answer
  -- it leads, and its log has so many items, as many as it may have
  Full : (items : ℕ) → Answer
  -- its log has the entry as its last, at this place, from 1, and in this term; then the members are these
  Placed : (place term : ℕ) (fleet : Fleet) → Answer

abbrev pub answer : Shape → Fleet → ℕ → Entry → Answer
answer shape f i entry =
    if leads shape f i
    then (
    if is_full shape f i
    then Full (length (core_at shape f i).log)
    else Placed (length (outcome_at shape f i (Propose entry)).member.log) (outcome_at shape f i (Propose entry)).member.term
    (proposed shape f i entry)
    )
    else Elsewhere

-- an entry that a log may have is proposed at a member, and gets a place and a term; then the members are these
pub record Places (shape : Shape) (f : Fleet) (i : ℕ) (entry : Entry) (place term : ℕ) (g : Fleet) : Type 0 where
  pub allowed : IsTrue (entry_allowed entry)
  pub placed : answer shape f i entry ≡ Placed place term g

-- ---- the history, and how all goes on

-- a fleet, and the longest list that any member ever applied
pub record Seen : Type 0 where
  pub fleet : Fleet
  pub history : List Item

-- The fleet is this now, and the history is looked at again.
abbrev pub seen_next : Seen → Fleet → Seen
seen_next x g = record { fleet = g; history = grown x.history (applied_lists g) }

abbrev pub seen_start : Shape → Seen
seen_start shape = record { fleet = fleet_start shape; history = [] }

-- one small thing, and then a look at the history
pub data Goes (shape : Shape) (x : Seen) : Seen → Type 0 where
  ByMove : (g : Fleet) → Moves shape x.fleet g → Goes shape x (seen_next x g)
  ByProposal : (i : ℕ) (entry : Entry) (place term : ℕ) (g : Fleet) → Places shape x.fleet i entry place term g →
      Goes shape x (seen_next x g)
  ByRestart : (member : ℕ) (g : Fleet) → Restarts shape member x.fleet g → Goes shape x (seen_next x g)

-- one small thing after another
pub data Path (shape : Shape) : Seen → Seen → Type 0 where
  Here : (x : Seen) → Path shape x x
  Then : (x y z : Seen) → Goes shape x y → Path shape y z → Path shape x z

abbrev pub Reached : Shape → Seen → Type 0
Reached shape x = Path shape (seen_start shape) x

-- 1 to 7 cores, at most 16 replicas, and logs of 1 to 2^24 items at most: what members and their frames are made for
pub record IsSmall (shape : Shape) : Type 0 where
  pub some : 1 ≤ shape.cores
  pub few : shape.cores ≤ max_vote
  pub replicas : shape.replicas ≤ 16
  pub room : 1 ≤ shape.limit
  pub limit : shape.limit ≤ max_items
