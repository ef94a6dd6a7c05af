-- What a world keeps, and the runs that it stands for. It keeps no client's bytes: a connection keeps what it needs of them.
use Rattle.std.specs.Prelude.{◌≡◌, ℕ, ◌+◌, ◌<◌, ◌≤◌, Bool, true, false, if◌then◌else◌, ◌==◌, nat_eq, ◌&&◌, not}
use Rattle.std.specs.Prelude.{List, [], ◌∷◌, ◌++◌, length, map, Option, Some, None, slice_index_or}
use Rattle.std.specs.List.{AllByRecursion, list_any}
use Rattle.ncc_wait.specs.declared.parked.Parked.{Parked}
use Rattle.ncc_tx.specs.declared.entry.Item.{Item}
use Rattle.ncc_apply.specs.Shelf.{Shown as Shelved, Stands as ShelfStands}
use Rattle.ncc_session.specs.Question.{Question, enter, leave, some_writes}
use Rattle.ncc_session.specs.Talk.{Stands as TalkStands, asked}
use Rattle.ncc_clients.specs.declared.told.Told.{Told}
use Rattle.ncc_clients.specs.Members.{config_of}
use Rattle.ncc_clients.specs.Run.{Client, Placing, question_of, deadline_of, has_ended}
use Rattle.ncc_world.specs.declared.setup.Setup.{Setup}
use Rattle.ncc_world.specs.declared.error.Which.{Which}
use Rattle.ncc_world.specs.declared.error.WorldError.{WorldError}
use Rattle.ncc_world.specs.declared.error.WorldError.TheVariants.{Memory, Limit}
use Rattle.ncc_world.specs.declared.seen.MemberSeen.{MemberSeen}
use Rattle.ncc_world.specs.declared.seen.ConnSeen.{ConnSeen}
use Rattle.ncc_world.specs.declared.earlier.Earlier.{Earlier}
use Rattle.ncc_world.specs.declared.served.ProposedAt.{ProposedAt}
use Rattle.ncc_world.specs.declared.served.Served.{Served}
use Rattle.ncc_world.specs.Setting.{Lists, Seats, over_list, over_raft, lists_of, cluster_of, list_at}
use Rattle.ncc_world.specs.Happening.{WorldRun}
use Rattle.ncc_world.specs.Showing.{members_from, conn_seen}
use Rattle.ncc_world.specs.Earlier.{AllRemember}
use Rattle.ncc_world.specs.Drivers.{KeptDrivers, AreAtWork}

-- it goes on; or a limit was passed, or memory was wanting, and it answers so from then on
pub data Standing : Type 0 where
  alive : Standing
  past : Which → Standing
  spent : Standing

-- ---- members: the longest list, and what each has applied

pub record KeptMembers : Type 0 where
  pub items : List Item
  pub shelves : List Shelved
  pub seen : List MemberSeen

-- a member has applied the beginning of the one list
pub record IsShelf (items : List Item) (shelf : Shelved) (list : List Item) : Type 0 where
  pub stands : ShelfStands shelf list
  pub rest : List Item
  pub begins : list ++ rest ≡ items

unfoldable pub AreShelves : List Item → List Shelved → Lists → Type 0
AreShelves items [] [] = Unit {0}
AreShelves items (shelf ∷ shelves) (list ∷ lists) = IsShelf items shelf list × AreShelves items shelves lists
AreShelves items _ _ = ⊥

-- over one list, of which member 1 has applied all
pub record AreOneList (s : Setup) (m : KeptMembers) (lists : Lists) : Type 0 where
  pub shelves : AreShelves m.items m.shelves lists
  pub first : list_at lists 1 ≡ m.items
  pub some : 0 < length lists
  pub seen : m.seen ≡ members_from s 1 lists

-- the members of a run, and its history
abbrev pub AreMembers : Setup → KeptMembers → Seats → List Item → Type 0
AreMembers s m (over_list lists) history = AreOneList s m lists × (m.items ≡ history)
AreMembers s m (over_raft fleet) history = ⊥

-- ---- connections: their numbers, what is kept of each, what each shows, and who waits at each member and has not ended

pub record KeptClients : Type 0 where
  pub numbers : List ℕ
  pub table : List Served
  pub seen : List ConnSeen
  pub rooms : List (List Parked)
  pub live : List (List ℕ)

abbrev pub placing_of : Option ProposedAt → Option Placing
placing_of None = None
placing_of (Some p) = Some (record { place = p.place; term = p.term })

-- the question that waits; once it is closed there is none
abbrev pub asked_by : Served → Option Question
asked_by v = if v.closed then None else asked v.conn

-- Its session was fed the client's bytes and told its facts; what it wrote last, and where it stands, may not be shown yet.
pub record IsKept (s : Setup) (v : Served) (seen : ConnSeen) (c : Client) : Type 0 where
  pub talk : TalkStands v.conn (config_of (cluster_of s) c.number) c.bytes c.facts seen.out
  pub since : v.since ≡ c.since
  pub placing : placing_of v.placing ≡ c.placing
  pub closed : v.closed ≡ c.closed
  pub conn : seen.conn ≡ c.number
  pub member : seen.member ≡ c.member
  pub printed : seen.printed ≡ c.printed

-- and all of it is shown
pub record IsClient (s : Setup) (v : Served) (seen : ConnSeen) (c : Client) : Type 0 where
  pub kept : IsKept s v seen c
  pub handed : v.conn.out ≡ []
  pub seen_is : seen ≡ conn_seen s c

unfoldable pub AreClients : Setup → List Served → List ConnSeen → List Client → Type 0
AreClients s [] [] [] = Unit {0}
AreClients s (v ∷ vs) (seen ∷ seens) (c ∷ cs) = IsClient s v seen c × AreClients s vs seens cs
AreClients s _ _ _ = ⊥

-- they have the numbers from this one on
unfoldable pub AreNumbered : ℕ → List Client → Type 0
AreNumbered from [] = Unit {0}
AreNumbered from (c ∷ cs) = (c.number ≡ from) × AreNumbered (from + 1) cs

-- its member is one of so many, and the place of its proposal is one
abbrev pub IsSomewhere : Option Placing → Type 0
IsSomewhere None = Unit {0}
IsSomewhere (Some p) = 0 < p.place

pub record IsThere (count : ℕ) (c : Client) : Type 0 where
  pub low : 1 ≤ c.member
  pub high : c.member ≤ count
  pub placed : IsSomewhere c.placing

-- each connection with a question waits at its member for the place that it needs, 0 for what can be answered at once
abbrev pub place_for : Option Placing → ℕ
place_for None = 0
place_for (Some p) = p.place

abbrev pub need_for : Question → Option Placing → ℕ
need_for (enter need) placing = need
need_for (leave calls told) placing = if some_writes calls then place_for placing else 0
need_for _ placing = 0

abbrev pub parked_by : ℕ → ℕ → Option Placing → Option Question → Option Parked
parked_by number deadline placing None = None
parked_by number deadline placing (Some question) =
    Some (record { conn = number; need = need_for question placing; deadline = deadline })

abbrev pub parked_of : Setup → Client → Option Parked
parked_of s c = parked_by c.number (deadline_of (cluster_of s) c) c.placing (question_of (cluster_of s) c)

abbrev pub listed : Option Parked → List Parked
listed None = []
listed (Some p) = p ∷ []

abbrev pub parked_one : Setup → ℕ → Client → List Parked
parked_one s member c = if c.member == member then listed (parked_of s c) else []

unfoldable pub parked_at : Setup → ℕ → List Client → List Parked
parked_at s member [] = []
parked_at s member (c ∷ cs) = parked_one s member c ++ parked_at s member cs

-- a connection of this number and this member that has not ended
abbrev pub is_live : Setup → ℕ → ℕ → Client → Bool
is_live s member number c = (c.number == number) && ((c.member == member) && not (has_ended (cluster_of s) c))

pub record AreServed (s : Setup) (count : ℕ) (k : KeptClients) (clients : List Client) : Type 0 where
  pub each : AreClients s k.table k.seen clients
  pub numbered : AreNumbered 1 clients
  -- each is kept by its number
  pub keyed : k.numbers ≡ map (λ (c : Client). c.number) clients
  pub there : AllByRecursion (IsThere count) clients
  pub count_is : length k.rooms ≡ count
  pub rooms : (index : ℕ) → index < count → slice_index_or k.rooms index [] ≡ parked_at s (index + 1) clients
  -- each member has exactly the numbers of its connections that have not ended
  pub live_count : length k.live ≡ count
  pub live : (index number : ℕ) → index < count
      → list_any (nat_eq number) (slice_index_or k.live index []) ≡ list_any (is_live s (index + 1) number) clients

-- ---- which runs it stands for

pub record KeptRun : Type 0 where
  pub now : ℕ
  pub members : KeptMembers
  pub clients : KeptClients
  pub told : List Told
  -- what is kept of the transaction that is open at each connection
  pub earlier : List (Option Earlier)

pub record RunsAs (s : Setup) (k : KeptRun) (r : WorldRun) : Type 0 where
  pub now : k.now ≡ r.now
  pub members : AreMembers s k.members r.members r.history
  pub clients : AreServed s (length (lists_of r.members)) k.clients r.clients
  pub told : k.told ≡ r.told
  pub earlier : AllRemember s k.earlier r

pub record Kept : Type 0 where
  pub setup : Setup
  pub standing : Standing
  pub run : KeptRun
  pub drivers : KeptDrivers

pub record Stands (w : Kept) (r : WorldRun) : Type 0 where
  pub goes_on : w.standing ≡ alive
  pub runs_as : RunsAs w.setup w.run r
  pub drives : AreAtWork w.setup 0 [] [] w.drivers r.now r.driving
  pub members : length (lists_of r.members) ≡ w.setup.cores + w.setup.replicas

-- an error that refuses an event
abbrev pub is_refusal : WorldError → Bool
is_refusal Memory = false
is_refusal (Limit which) = false
is_refusal _ = true
