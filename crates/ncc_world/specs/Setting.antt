-- Which clusters there are, and their members. Over one list core 1 leads in term 1 and applies each entry as it appends it; the other
-- members apply later, as far as they are told to. Over Raft cores have logs and elect who leads, and replicas pull.
use Rattle.std.specs.Prelude.{◌≡◌, ℕ, ◌+◌, ◌-◌, ◌^◌, ◌<◌, ◌≤◌, nat_le, ◌==◌, if◌then◌else◌, Bool, List, [], ◌∷◌, ◌++◌}
use Rattle.std.specs.Prelude.{length, take, drop, replicate, slice_index_or, slice_set}
use Rattle.ncc_tx.specs.declared.entry.Entry.{Entry}
use Rattle.ncc_tx.specs.declared.entry.Item.{Item}
use Rattle.ncc_raft.specs.Member.{is_core}
use Rattle.ncc_safety.specs.Fleet.{Shape, Fleet, Answer, applied_lists, core_at, leads, answer, Moves, Restarts}
use Rattle.ncc_safety.specs.Fleet.{Elsewhere as Nowhere, Full, Placed}
use Rattle.ncc_clients.specs.Members.{Cluster, Proposed, elsewhere, full, placed}
use Rattle.ncc_world.specs.declared.setup.Setup.{Setup}

-- the clusters that may be
pub record IsSetup (s : Setup) : Type 0 where
  pub cores : (1 ≤ s.cores) × (s.cores ≤ 7)
  pub replicas : s.replicas ≤ 16
  pub id : s.cluster < 2 ^ 64
  pub wait : s.wait ≤ 86_400_000
  pub limit : (1 ≤ s.limit) × (s.limit ≤ 2 ^ 24)

-- ---- lists: what each member has applied, member 1 first

abbrev pub Lists : Type 0
Lists = List (List Item)

abbrev pub list_at : Lists → ℕ → List Item
list_at lists member = slice_index_or lists (member - 1) []

-- ---- members: lists alone, or cores and replicas with all that they sent

pub data Seats : Type 0 where
  over_list : Lists → Seats
  over_raft : Fleet → Seats

abbrev pub lists_of : Seats → Lists
lists_of (over_list lists) = lists
lists_of (over_raft fleet) = applied_lists fleet

-- ---- members over one list

-- nobody has applied anything
abbrev pub nobody : Setup → Lists
nobody s = replicate (s.cores + s.replicas) []

abbrev pub item_of : Entry → Item
item_of entry = record { term = 1; entry = entry }

-- core 1 appends an entry, and applies it
abbrev pub appended : Lists → Entry → Lists
appended lists entry = slice_set lists 0 (list_at lists 1 ++ (item_of entry ∷ []))

abbrev pub proposes : ℕ → Lists → Entry → Proposed Seats
proposes limit lists entry =
    if nat_le limit (length (list_at lists 1)) then full (length (list_at lists 1))
    else placed (length (list_at lists 1) + 1) 1 (over_list (appended lists entry))

-- with so many further entries of another
abbrev pub extended : List Item → List Item → ℕ → List Item
extended own all count = own ++ take count (drop (length own) all)

-- a member applies up to so many further entries of the list of core 1
abbrev pub lagging : Lists → ℕ → ℕ → Lists
lagging lists member count = slice_set lists (member - 1) (extended (list_at lists member) (list_at lists 1) count)

pub record Applies (old new : Lists) : Type 0 where
  pub member : ℕ
  pub count : ℕ
  pub follows : 1 < member
  pub there : member ≤ length old
  pub same : new ≡ lagging old member count

-- ---- members over Raft

abbrev pub shape_of : Setup → Shape
shape_of s = record { cores = s.cores; replicas = s.replicas; limit = s.limit }

abbrev pub answered : Answer → Proposed Seats
answered Nowhere = elsewhere
answered (Full items) = full items
answered (Placed place term fleet) = placed place term (over_raft fleet)

-- ---- the four views of a member. Over one list other cores know core 1 as leader; replicas know nobody.

abbrev pub leads_at : Setup → Seats → ℕ → Bool
leads_at s (over_list lists) member = member == 1
leads_at s (over_raft fleet) member = leads (shape_of s) fleet member

abbrev pub leader_at : Setup → Seats → ℕ → ℕ
leader_at s (over_list lists) member = if nat_le member s.cores then 1 else 0
leader_at s (over_raft fleet) member = if is_core s.cores member then (core_at (shape_of s) fleet member).leader else 0

abbrev pub propose_at : Setup → Seats → ℕ → Entry → Proposed Seats
propose_at s (over_list lists) member entry = if member == 1 then proposes s.limit lists entry else elsewhere
propose_at s (over_raft fleet) member entry = answered (answer (shape_of s) fleet member entry)

-- what members do by themselves
abbrev pub MovesTo : Setup → Seats → Seats → Type 0
MovesTo s (over_list lists) new = (later : Lists) × Applies lists later × (new ≡ over_list later)
MovesTo s (over_raft fleet) new = (later : Fleet) × Moves (shape_of s) fleet later × (new ≡ over_raft later)

-- Over one list no member ever starts again.
abbrev pub RestartsTo : Setup → Seats → ℕ → Seats → Type 0
RestartsTo s (over_list lists) member new = ⊥
RestartsTo s (over_raft fleet) member new = (later : Fleet) × Restarts (shape_of s) member fleet later × (new ≡ over_raft later)

abbrev pub cluster_of : Setup → Cluster Seats
cluster_of s = record {
  cores = s.cores;
  replicas = s.replicas;
  id = s.cluster;
  wait = s.wait;
  lists = lists_of;
  leads = leads_at s;
  leader = leader_at s;
  propose = propose_at s;
  Moves = MovesTo s;
  Restarts = RestartsTo s;
}

-- the members at the beginning
abbrev pub seats_of : Setup → Seats
seats_of s = over_list (nobody s)
