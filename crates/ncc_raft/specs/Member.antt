-- A core: what it is, what may happen to it, and what comes of it. Extended Raft paper, Figure 2, "State".
use Rattle.std.specs.Prelude.{ℕ, ◌-◌, ◌*◌, min, Bool, true, false, ◌&&◌, nat_lt, nat_le, List, [], replicate}
use Rattle.std.specs.Prelude.{slice_index_or, slice_set}
use Rattle.std.specs.List.{count_by, range_with_len}
use Rattle.ncc_tx.specs.declared.entry.Entry.{Entry}
use Rattle.ncc_tx.specs.declared.entry.Item.{Item}
use Rattle.ncc_tx.specs.declared.entry.Saved.{Saved}
use Rattle.ncc_raft.specs.declared.message.Envelope.{Envelope}
use Rattle.ncc_raft.specs.declared.message.Body.{Body}
use Rattle.ncc_raft.specs.declared.message.Note.{Note}
use Rattle.ncc_raft.specs.declared.message.Note.TheVariants.{Nothing}
use Rattle.ncc_raft.specs.declared.message.RaftRole.{RaftRole}
use Rattle.ncc_raft.specs.declared.message.RaftRole.TheVariants.{Leader, Candidate, Follower}

-- what of a core never changes: its number, the number of cores, the greatest length of a log
pub record Seat : Type 0 where
  pub id : ℕ
  pub cores : ℕ
  pub limit : ℕ

-- term, vote and log are kept over a crash. The lists at the end have a slot for each core
pub record Member : Type 0 where
  pub term : ℕ
  pub vote : ℕ  -- in this term; 0: nobody
  pub log : List Item
  pub role : RaftRole
  pub leader : ℕ  -- of this term; 0: nobody that it knows
  pub commit : ℕ  -- so many items are applied
  pub votes : List Bool  -- who voted for it, while it is a candidate
  pub next : List ℕ  -- the place from which on the next Append goes, while it leads
  pub match : List ℕ  -- the place up to which each is known to have its log, while it leads

-- what may happen to a core
pub data Event : Type 0 where
  Timeout : Event
  Beat : Event
  Receive : (envelope : Envelope) → Event
  Propose : (entry : Entry) → Event

-- what comes of an event: what the core is then, what it sends, and what it noticed
pub record Outcome : Type 0 where
  pub member : Member
  pub sent : List Envelope
  pub note : Note

abbrev pub still : Member → Outcome
still m = record { member = m; sent = []; note = Nothing }

abbrev pub sends : Member → List Envelope → Outcome
sends m es = record { member = m; sent = es; note = Nothing }

abbrev pub notes : Member → Note → Outcome
notes m n = record { member = m; sent = []; note = n }

abbrev pub letter : ℕ → ℕ → Body → Envelope
letter from to body = record { from = from; to = to; body = body }

-- ---- cores and their slots

-- the numbers of so many cores, ascending
abbrev pub cores_of : ℕ → List ℕ
cores_of n = range_with_len 1 n

unfoldable pub is_core : ℕ → ℕ → Bool
is_core n i = nat_lt 0 i && nat_le i n

-- more than half of n cores pass the test
unfoldable pub majority : ℕ → (ℕ → Bool) → Bool
majority n test = nat_lt n (2 * count_by test (cores_of n))

-- the slot of a core is read past the end as 0 or false
abbrev pub next_of : Member → ℕ → ℕ
next_of m core = slice_index_or m.next (core - 1) 0

abbrev pub match_of : Member → ℕ → ℕ
match_of m core = slice_index_or m.match (core - 1) 0

abbrev pub has_vote_of : Member → ℕ → Bool
has_vote_of m core = slice_index_or m.votes (core - 1) false

abbrev pub with_slot : {A : Type 0} → List A → ℕ → A → List A
with_slot slots core x = slice_set slots (core - 1) x

-- ---- roles

abbrev pub is_leader : RaftRole → Bool
is_leader Leader = true
is_leader Candidate = false
is_leader Follower = false

abbrev pub is_candidate : RaftRole → Bool
is_candidate Candidate = true
is_candidate Leader = false
is_candidate Follower = false

-- ---- starting

-- what is kept over a crash
abbrev pub kept : Member → Saved
kept m = record { term = m.term; vote = m.vote; log = m.log }

-- one of n cores as it starts from what was kept: a follower that has applied nothing and knows nobody
abbrev pub started : ℕ → Saved → Member
started n s = record {
  term = s.term;
  vote = s.vote;
  log = s.log;
  role = Follower;
  leader = 0;
  commit = 0;
  votes = replicate n false;
  next = replicate n 0;
  match = replicate n 0;
}

-- the same where it knows already that so many of its items are committed; by itself a core starts with none
abbrev pub restarted : ℕ → ℕ → Member → Member
restarted n commit m = record (started n (kept m)) { commit = min commit m.commit }
