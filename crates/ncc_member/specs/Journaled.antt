-- What a contract sees of a node: its core, and the disk that its journal is on.
use Rattle.std.specs.Prelude.{◌≡◌, ℕ, ◌≤◌, Bool, true, false, List, refl}
use Rattle.std.specs.Coded.{Coded, code_by, coded×, coded_bool, coded_ℕ}
use Rattle.ncc_base.specs.declared.disk.Disk.{Ghosts}
use Rattle.ncc_base.specs.Faults.{Rose}
use Rattle.ncc_tx.specs.declared.entry.Saved.{Saved}
use Rattle.ncc_log.specs.Calls.{MakesRoom}
use Rattle.ncc_log.specs.Saves.{Saves}
use Rattle.ncc_log.specs.Shown.{Shown}
use Rattle.ncc_raft.specs.Core.{IsCore, Seated}
use Rattle.ncc_raft.specs.Member.{Seat, Member, kept}

pub record Journaled (D : Type 0) : Type 0 where
  pub disk : D
  pub cluster : ℕ
  pub seat : Seat
  pub member : Member
  -- the place of the journal's closed gate
  pub gate : ℕ
  -- the disk's count of faults when the node was made
  pub made : ℕ
  -- a save failed, and the disk is to be recovered
  pub down : Bool

abbrev pub journaled_code : {D : Type 0} → Coded D → Coded Seated → Coded (Journaled D)
journaled_code {D} disk core =
    code_by (D × (ℕ × (Seated × (ℕ × (ℕ × Bool)))))
    (coded× disk (coded× coded_ℕ (coded× core (coded× coded_ℕ (coded× coded_ℕ coded_bool)))))
    (λ n. (n.disk, (n.cluster, (record { seat = n.seat; member = n.member }, (n.gate, (n.made, n.down))))))
    (λ p. record {
      disk = p.0;
      cluster = p.1.0;
      seat = p.1.1.0.seat;
      member = p.1.1.0.member;
      gate = p.1.1.1.0;
      made = p.1.1.1.1.0;
      down = p.1.1.1.1.1;
    }) (λ _. refl)

abbrev pub shown : {D : Type 0} → Shown D → Seated → ℕ → Bool → Journaled D
shown j core made down = record {
  disk = j.disk;
  cluster = j.cluster;
  seat = core.seat;
  member = core.member;
  gate = j.gate;
  made = made;
  down = down;
}

-- whatever a crash leaves now of the disk stands for this part
abbrev pub Rests : {D : Type 0} → Ghosts D → ℕ → ℕ → D → Saved → Type 0
Rests g cluster member disk s = (c : List ℕ) → g.may_leave disk c → Saves cluster member c s

-- a journal that did not fail, and the core whose saved part it holds
pub record Agrees {D : Type 0} (g : Ghosts D) (j : Shown D) (c : Seated) : Type 0 where
  pub sound : j.failed ≡ false
  pub member : j.member ≡ c.seat.id
  pub core : IsCore c
  pub rests : g.told → Rests g j.cluster j.member j.disk (kept c.member)

-- what every node keeps
pub record IsNode {D : Type 0} (g : Ghosts D) (j : Shown D) (core : Seated) (most made : ℕ) (down : Bool) : Type 0 where
  pub up : down ≡ false → Agrees g j core
  pub limit : most ≡ core.seat.limit
  pub falls : made ≤ g.fault_count j.disk
  pub rose : down ≡ true → Rose made (g.fault_count j.disk)

-- but for room it is as it was
pub record IsSame {D : Type 0} (g : Ghosts D) (old new : Journaled D) : Type 0 where
  pub disk : MakesRoom g old.disk new.disk
  pub cluster : new.cluster ≡ old.cluster
  pub seat : new.seat ≡ old.seat
  pub member : new.member ≡ old.member
  pub gate : new.gate ≡ old.gate
  pub made : new.made ≡ old.made
  pub down : new.down ≡ old.down
