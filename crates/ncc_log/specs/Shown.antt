-- What a contract sees of a journal.
use Rattle.std.specs.Prelude.{◌≡◌, ℕ, ◌+◌, ◌^◌, ◌<◌, ◌≤◌, Bool, false, List, ◌++◌, length, take, refl, Result, Ok, Err}
use Rattle.std.proofs.Common.{get_or}
use Rattle.std.specs.Coded.{Coded, code_by, coded×, coded_bool, coded_ℕ}
use Rattle.ncc_base.specs.declared.disk.Disk.{Ghosts}
use Rattle.ncc_base.specs.Disk.{Only}
use Rattle.ncc_tx.specs.declared.entry.Saved.{Saved}
use Rattle.ncc_log.specs.declared.error.Unopened.{Unopened}
use Rattle.ncc_log.specs.Records.{Stands}
use Rattle.ncc_log.specs.Saves.{Saves}

pub record Shown (D : Type 0) : Type 0 where
  pub disk : D
  -- whose journal it is
  pub cluster : ℕ
  pub member : ℕ
  -- the place of the closed gate, behind which the next record comes
  pub gate : ℕ
  -- the next save of a payload of at most so many bytes finds memory
  pub room : ℕ
  -- a save failed, and the disk is to be recovered
  pub failed : Bool

abbrev pub shown_code : {D : Type 0} → Coded D → Coded (Shown D)
shown_code {D} disk =
    code_by (D × (ℕ × (ℕ × (ℕ × (ℕ × Bool)))))
    (coded× disk (coded× coded_ℕ (coded× coded_ℕ (coded× coded_ℕ (coded× coded_ℕ coded_bool)))))
    (λ s. (s.disk, (s.cluster, (s.member, (s.gate, (s.room, s.failed))))))
    (λ p. record {
      disk = p.0;
      cluster = p.1.0;
      member = p.1.1.0;
      gate = p.1.1.1.0;
      room = p.1.1.1.1.0;
      failed = p.1.1.1.1.1;
    }) (λ _. refl)

-- the greatest length of a journal
abbrev pub max_length : ℕ
max_length = 2 ^ 62

-- whatever stands behind these bytes, from a gate on, goes on from this part
pub record LeadsTo (cluster member : ℕ) (front : List ℕ) (s : Saved) : Type 0 where
  pub on : (tail : List ℕ) (t : Saved) → Stands s tail t → Saves cluster member (front ++ tail) t

-- a closed gate stands at this place
pub record ClosedAt (gate : ℕ) (file : List ℕ) : Type 0 where
  pub within : gate < length file
  pub closed : get_or file gate 1 ≡ 0

-- the file is whole records and a closed gate, and all of it is on the disk
pub record Ready (cluster member gate : ℕ) (seen : List ℕ) (images : List ℕ → Type 0) : Type 0 where
  pub closed : ClosedAt gate seen
  pub part : Saved
  pub leads : LeadsTo cluster member (take gate seen) part
  pub only : Only seen images

-- room for a record with a payload of so many bytes, in memory and in the file
pub record HasRoom (calls bytes capacity gate room : ℕ) : Type 0 where
  pub calls_left : 4 ≤ calls
  pub bytes_left : room + 6 ≤ bytes
  pub body : room + 5 ≤ capacity
  pub file : gate + (room + 6) ≤ max_length

-- what every journal keeps
pub record IsUsable {D : Type 0} (g : Ghosts D) (s : Shown D) (capacity : ℕ) : Type 0 where
  pub ready : s.failed ≡ false → g.told → Ready s.cluster s.member s.gate (g.seen s.disk) (g.may_leave s.disk)
  pub room : 0 < s.room → HasRoom (g.room_calls s.disk) (g.room_bytes s.disk) capacity s.gate s.room

-- but for the disk and the room, it is as it was
pub record IsSame {D : Type 0} (old new : Shown D) : Type 0 where
  pub cluster : new.cluster ≡ old.cluster
  pub member : new.member ≡ old.member
  pub gate : new.gate ≡ old.gate
  pub failed : new.failed ≡ old.failed

-- the disk that an answer hands out
abbrev pub disk_of : {A D : Type 0} → (A → D) → Result A (Unopened D) → D
disk_of disk (Ok x) = disk x
disk_of disk (Err u) = u.disk
