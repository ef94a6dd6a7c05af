-- What a save leaves that a disk in memory stops, and a crash behind it.
use Rattle.std.specs.Prelude.{◌≡◌, ℕ, ◌+◌, ◌<◌, ◌≤◌, nat_eq, nat_lt, ◌||◌, if◌then◌else◌, List, [], ◌∷◌, ◌++◌}
use Rattle.ncc_base.specs.MemDisk.{Device, IsImage, Went, content, crashed, first_drawn}
use Rattle.ncc_base.specs.declared.mem_disk.Setting.TheVariants.{StopAt}
use Rattle.ncc_tx.specs.declared.entry.ChangeSet.{ChangeSet}
use Rattle.ncc_tx.specs.declared.entry.Saved.{Saved}
use Rattle.ncc_tx.specs.Kept.{part_after}
use Rattle.ncc_log.specs.Calls.{gated, stopped}
use Rattle.ncc_log.specs.Records.{MayStandBehind, recorded}
use Rattle.ncc_log.specs.Saves.{Saves}
use Rattle.ncc_log.specs.Shown.{Ready}

-- What a crash with this word leaves of the gate, where nothing but the opened gate is pending: the closed gate that was
-- there, the open one, or the first byte that the word draws.
abbrev pub gate_left : ℕ → ℕ
gate_left word = if nat_eq word 0 then 0 else (if nat_eq word 1 then 1 else first_drawn word)

-- the part before, where the save stopped before it opened the gate, or the crash leaves the gate closed; else the part after
abbrev pub left_part : ℕ → ℕ → Saved → Saved → Saved
left_part call word before after = if nat_lt call 3 || nat_eq (gate_left word) 0 then before else after

-- A device holds a journal with its closed gate at this place and nothing pending, stands for this part, and is told to stop
-- in the call of this number.
pub record IsToStop (cluster member gate call : ℕ) (d : Device) (s : Saved) : Type 0 where
  pub first : 1 ≤ call
  pub setting : d.setting ≡ StopAt call
  pub ready : Ready cluster member gate (content d).seen (IsImage (content d))
  pub saves : Saves cluster member (content d).seen s

-- A save whose calls went so far stopped in the call that was told, and a crash with a word leaves just that part.
abbrev pub StoppedSaveLeaves : Type 0
StoppedSaveLeaves = (cluster member gate call word n : ℕ) (old new : Device) (s : Saved) (c : ChangeSet) →
    IsToStop cluster member gate call old s → MayStandBehind s c → n < 4 → Went old (stopped n (gated gate (recorded c ++ 0 ∷ []))) new →
    (call ≡ n + 1) × Saves cluster member (content (crashed word new)).seen (left_part call word s (part_after s c))

-- where it is told to stop in one of the four calls, they don't all succeed
abbrev pub StoppedSaveFails : Type 0
StoppedSaveFails = (call gate : ℕ) (old new : Device) (body : List ℕ) → old.setting ≡ StopAt call → call ≤ 4 →
    Went old (gated gate body) new → ⊥
