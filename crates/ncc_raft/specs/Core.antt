-- What contracts see of a core, and what it keeps at each moment.
use Rattle.std.specs.Prelude.{◌≡◌, ℕ, ◌+◌, ◌≤◌, ◌<◌, IsTrue, length}
use Rattle.ncc_tx.specs.declared.entry.Saved.{Saved}
use Rattle.ncc_tx.specs.Kept.{MayKeep, max_items, max_vote}
use Rattle.ncc_raft.specs.Member.{Seat, Member, is_core, is_leader, kept, next_of, match_of, started}

-- a core at its seat
pub record Seated : Type 0 where
  pub seat : Seat
  pub member : Member

abbrev pub seated : ℕ → ℕ → ℕ → Saved → Seated
seated id cores limit saved = record { seat = record { id = id; cores = cores; limit = limit }; member = started cores saved }

-- 1 to 7 cores, this one among them, and a log of 1 to 2^24 items at most
pub record IsSeat (s : Seat) : Type 0 where
  pub this : 1 ≤ s.id
  pub among : s.id ≤ s.cores
  pub few : s.cores ≤ max_vote
  pub some : 1 ≤ s.limit
  pub limit : s.limit ≤ max_items

-- of each core: what it is known to have stands before what is sent next, and that at most directly behind the log
abbrev pub Leads : Seat → Member → Type 0
Leads seat m = (core : ℕ) → IsTrue (is_core seat.cores core) → (match_of m core < next_of m core) × (next_of m core ≤ length m.log + 1)

-- what a core keeps may be kept over a crash, its commit lies within its log, and that within its limit
pub record IsSound (seat : Seat) (m : Member) : Type 0 where
  pub saved : MayKeep (kept m)
  pub commit : m.commit ≤ length m.log
  pub few : length m.log ≤ seat.limit
  pub votes : length m.votes ≡ seat.cores
  pub next : length m.next ≡ seat.cores
  pub match : length m.match ≡ seat.cores
  pub leads : IsTrue (is_leader m.role) → Leads seat m

pub record IsCore (s : Seated) : Type 0 where
  pub seat : IsSeat s.seat
  pub sound : IsSound s.seat s.member
