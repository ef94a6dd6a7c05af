-- What a journal asks of its disk, and what that leaves.
use Rattle.std.specs.Prelude.{◌≡◌, ◌⊎◌, ℕ, zero, suc, ◌+◌, ◌<◌, ◌≤◌, true, false, List, [], ◌∷◌, ◌++◌, length}
use Rattle.ncc_base.specs.declared.disk.Disk.{Ghosts}
use Rattle.ncc_base.specs.Disk.{Asked, LeavesOnly, Stays, Sync, Write}

-- ---- calls

-- a body behind a closed gate, and then the gate
abbrev pub gated : ℕ → List ℕ → List Asked
gated gate body = Write (gate + 1) body true ∷ Sync true ∷ Write gate (1 ∷ []) true ∷ Sync true ∷ []

abbrev pub failed : Asked → Asked
failed (Write at bytes ok) = Write at bytes false
failed (Sync ok) = Sync false

-- so many of these calls, and the next one, which failed
abbrev pub stopped : ℕ → List Asked → List Asked
stopped n [] = []
stopped zero (c ∷ cs) = failed c ∷ []
stopped (suc n) (c ∷ cs) = c ∷ stopped n cs

-- these calls stand behind those that were asked before
abbrev pub AsksBehind : {D : Type 0} → Ghosts D → D → D → List Asked → Type 0
AsksBehind {D} g old new calls = (t : ℕ) (before : List Asked) → t ≤ g.moment old → g.asked_since old t before →
    g.asked_since new t (before ++ calls)

-- these writes and syncs were asked between two states of a disk, in this order and with these outcomes, and nothing else
-- leads from the one to the other
pub record Asks {D : Type 0} (g : Ghosts D) (old new : D) (calls : List Asked) : Type 0 where
  pub since : AsksBehind g old new calls
  pub went : g.went old calls new

-- some of these calls, the last of which failed
abbrev pub AsksUntilFailed : {D : Type 0} → Ghosts D → D → D → List Asked → Type 0
AsksUntilFailed {D} g old new calls = (n : ℕ) × (n < length calls) × Asks g old new (stopped n calls)

-- at most one sync
abbrev pub AsksOneSync : {D : Type 0} → Ghosts D → D → D → Type 0
AsksOneSync {D} g old new = Asks g old new [] ⊎ Asks g old new (Sync false ∷ []) ⊎ Asks g old new (Sync true ∷ [])

-- ---- states of a disk

-- Nothing was written and nothing synced: all that the disk tells is as it was, but for the moment, its faults and its room.
pub record Looks {D : Type 0} (g : Ghosts D) (old new : D) : Type 0 where
  pub stays : g.told → Stays (g.seen old) (g.seen new) (g.may_leave old) (g.may_leave new)
  pub time : g.told → LeavesOnly g.moment g.left_since old new (g.may_leave old)
  pub asked : g.told → Asks g old new []
  pub calm : g.calm old → g.calm new
  pub never_falls : g.fault_count old ≤ g.fault_count new
  pub room_calls : g.room_calls old ≤ g.room_calls new
  pub room_bytes : g.room_bytes old ≤ g.room_bytes new

-- and no call was made
pub record MakesRoom {D : Type 0} (g : Ghosts D) (old new : D) : Type 0 where
  pub looks : Looks g old new
  pub faults : g.fault_count new ≡ g.fault_count old

-- a setting that takes effect later: all that the disk tells is as it was
pub record Arms {D : Type 0} (g : Ghosts D) (old new : D) : Type 0 where
  pub stays : g.told → Stays (g.seen old) (g.seen new) (g.may_leave old) (g.may_leave new)
  pub moment : g.moment new ≡ g.moment old
  pub left : g.told → (t : ℕ) (c : List ℕ) → g.left_since new t c → g.left_since old t c
  pub asked : AsksBehind g old new []
  pub faults : g.fault_count new ≡ g.fault_count old
  pub room_calls : g.room_calls new ≡ g.room_calls old
  pub room_bytes : g.room_bytes new ≡ g.room_bytes old
