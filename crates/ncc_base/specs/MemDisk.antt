-- A disk in memory: what it holds, by what it was asked and what of that had its effect.
use Rattle.std.specs.Prelude.{◌≡◌, ℕ, zero, suc, ◌+◌, ◌-◌, ◌<◌, ◌≤◌, ◌%◌, nat_lt, nat_le, nat_eq, Bool, true, false, ◌&&◌, ◌||◌}
use Rattle.std.specs.Prelude.{if◌then◌else◌, List, [], ◌∷◌, ◌++◌, length, take, drop, map}
use Rattle.std.proofs.Common.{get_or}
use Rattle.std.specs.List.{list_any}
use Rattle.rand_core.specs.Pcg32Seed.{pcg32_seed}
use Rattle.rand_pcg.specs.Lcg.{Lcg}
use Rattle.rand_pcg.specs.Pcg.{pcg32, pcg32_of_seed}
use Rattle.ncc_base.specs.Faults.{one_more}
use Rattle.ncc_base.specs.Disk.{Asked, Write, Sync}
use Rattle.ncc_base.specs.declared.mem_disk.Range.{Range}
use Rattle.ncc_base.specs.declared.mem_disk.Setting.{Setting}
use Rattle.ncc_base.specs.declared.mem_disk.Setting.TheVariants.{Sound, FailAt, StopAt, Stopped}
use Rattle.ncc_base.specs.declared.mem_disk.Course.{Course}
use Rattle.ncc_base.specs.declared.mem_disk.Course.TheVariants.{Goes, Begins, Fails}

-- ---- contents

pub record Content : Type 0 where
  -- what a read gives
  pub seen : List ℕ
  -- what was there at the last sync that succeeded, or at the start
  pub stable : List ℕ
  -- the ranges that were written since
  pub ranges : List Range

-- a call, and whether it had its effect: a write that a stop begins has it, though it fails
pub record Done : Type 0 where
  pub asked : Asked
  pub made : Bool

abbrev pub begun : List ℕ → Content
begun base = record { seen = base; stable = base; ranges = [] }

-- with these bytes at this place
abbrev pub with_bytes : ℕ → List ℕ → List ℕ → List ℕ
with_bytes at bytes old = take at old ++ bytes ++ drop (at + length bytes) old

abbrev pub effect : Asked → Content → Content
effect (Write at bytes ok) c = record {
  seen = with_bytes at bytes c.seen;
  stable = c.stable;
  ranges = c.ranges ++ record { at = at; count = length bytes } ∷ [];
}
effect (Sync ok) c = record { seen = c.seen; stable = c.seen; ranges = [] }

abbrev pub one : Done → Content → Content
one d c = if d.made then effect d.asked c else c

-- one call after the other
unfoldable pub after : List Done → Content → Content
after [] c = c
after (d ∷ ds) c = after ds (one d c)

-- ---- what a crash may leave

abbrev pub is_in : ℕ → Range → Bool
is_in p r = nat_le r.at p && nat_lt p (r.at + r.count)

abbrev pub is_written : ℕ → List Range → Bool
is_written p rs = list_any (is_in p) rs

-- the byte at a place
abbrev pub byte_at : List ℕ → ℕ → ℕ
byte_at content p = get_or content p 0

-- Of the bytes as of the last sync, those that were not written since stay. All others are any bytes, at any length from
-- that at the last sync to the greatest since, which is the one that a read gives.
pub record IsImage (c : Content) (left : List ℕ) : Type 0 where
  pub no_shorter : length c.stable ≤ length left
  pub no_longer : length left ≤ length c.seen
  pub same : (p : ℕ) → p < length c.stable → is_written p c.ranges ≡ false → byte_at left p ≡ byte_at c.stable p

-- ---- settings

abbrev pub course : Setting → Course
course Sound = Goes
course (FailAt n) = if nat_lt 1 n then Goes else Fails
course (StopAt n) = if nat_lt 1 n then Goes else Begins
course Stopped = Fails

-- the setting after one more call
abbrev pub next : Setting → Setting
next Sound = Sound
next (FailAt n) = if nat_lt 1 n then FailAt (n - 1) else Sound
next (StopAt n) = if nat_lt 1 n then StopAt (n - 1) else Stopped
next Stopped = Stopped

abbrev pub goes : Course → Bool
goes Goes = true
goes Begins = false
goes Fails = false

abbrev pub writes : Course → Bool
writes Goes = true
writes Begins = true
writes Fails = false

-- ---- the disk

pub record Device : Type 0 where
  -- what it held at the start, or what the last crash left
  pub base : List ℕ
  -- the writes and syncs that it was asked since, in order
  pub past : List Done
  pub setting : Setting
  pub faults : ℕ

abbrev pub content : Device → Content
content d = after d.past (begun d.base)

abbrev pub noted : Done → Device → Device
noted done d = record {
  base = d.base;
  past = d.past ++ done ∷ [];
  setting = next d.setting;
  faults = if goes (course d.setting) then d.faults else one_more d.faults;
}

-- after a write, and after a sync
abbrev pub wrote : ℕ → List ℕ → Device → Device
wrote at bytes d = noted (record { asked = Write at bytes (goes (course d.setting)); made = writes (course d.setting) }) d

abbrev pub did_sync : Device → Device
did_sync d = noted (record { asked = Sync (goes (course d.setting)); made = goes (course d.setting) }) d

-- ---- runs

-- a call, which succeeds or fails as the setting says
abbrev pub called : Asked → Device → Device
called (Write at bytes ok) d = wrote at bytes d
called (Sync ok) d = did_sync d

abbrev pub is_said_ok : Asked → Bool
is_said_ok (Write at bytes ok) = ok
is_said_ok (Sync ok) = ok

-- one call after the other
unfoldable pub run : List Asked → Device → Device
run [] d = d
run (c ∷ cs) d = run cs (called c d)

-- each call succeeds where it is said to, and no other does
unfoldable pub GoesAsSaid : List Asked → Device → Type 0
GoesAsSaid [] d = Unit {0}
GoesAsSaid (c ∷ cs) d = (goes (course d.setting) ≡ is_said_ok c) × GoesAsSaid cs (called c d)

-- these calls with these outcomes lead from one device to another
pub record Went (old : Device) (calls : List Asked) (new : Device) : Type 0 where
  pub device : new ≡ run calls old
  pub said : GoesAsSaid calls old

-- ---- orders

abbrev pub with_setting : Setting → Device → Device
with_setting setting d = record { base = d.base; past = d.past; setting = setting; faults = d.faults }

-- to fail, or to stop, at the call of this number from now, where 0 names none
abbrev pub fails_at : ℕ → Device → Device
fails_at call d = with_setting (if nat_eq call 0 then Sound else FailAt call) d

abbrev pub stops_at : ℕ → Device → Device
stops_at call d = with_setting (if nat_eq call 0 then Sound else StopAt call) d

-- ---- crashes

-- the byte at a place is past the old end, or was written since
abbrev pub is_pending : List ℕ → List Range → ℕ → Bool
is_pending stable ranges p = nat_le (length stable) p || is_written p ranges

-- the byte that a crash leaves at a place, and the words behind it: one that is pending is the low byte of the next word
abbrev pub drawn_byte : Lcg → List ℕ → List Range → ℕ → ℕ × Lcg
drawn_byte g stable ranges p = if is_pending stable ranges p then ((pcg32 g).0 % 256, (pcg32 g).1) else (byte_at stable p, g)

-- so many bytes, from a place on
unfoldable pub drawn : Lcg → List ℕ → List Range → ℕ → ℕ → List ℕ
drawn g stable ranges p zero = []
drawn g stable ranges p (suc n) = (drawn_byte g stable ranges p).0 ∷ drawn (drawn_byte g stable ranges p).1 stable ranges (p + 1) n

abbrev pub seeded : ℕ → Lcg
seeded word = pcg32_of_seed (pcg32_seed 16 word)

-- the first byte that a word draws
unfoldable pub first_drawn : ℕ → ℕ
first_drawn word = (pcg32 (seeded word)).0 % 256

-- word 0 leaves what was stable, word 1 what a read gives; any other draws what is pending, at the length that a read gives
abbrev pub left_by : ℕ → Content → List ℕ
left_by word c = if nat_eq word 0 then c.stable else (if nat_eq word 1 then c.seen else drawn (seeded word) c.stable c.ranges 0
    (length c.seen))

abbrev pub crashed : ℕ → Device → Device
crashed word d = record { base = left_by word (content d); past = []; setting = Sound; faults = d.faults }

-- ---- moments

-- some number of calls at least t were asked, and a crash then might have left this
pub record LeftSince (d : Device) (t : ℕ) (left : List ℕ) : Type 0 where
  pub moment : ℕ
  pub from : t ≤ moment
  pub until : moment ≤ length d.past
  pub image : IsImage (after (take moment d.past) (begun d.base)) left

abbrev pub AskedSince : Device → ℕ → List Asked → Type 0
AskedSince d t calls = calls ≡ map (λ (x : Done). x.asked) (drop t d.past)

-- what a disk in memory shows: the device, and the room for further calls
pub record MemState : Type 0 where
  pub device : Device
  pub room_calls : ℕ
  pub room_bytes : ℕ
