-- What a node's answers say.
use Rattle.std.specs.Prelude.{◌≡◌, ℕ, ◌-◌, true, List, [], ◌∷◌, ◌++◌, Option, Some, None}
use Rattle.ncc_base.specs.declared.disk.Disk.{Ghosts}
use Rattle.ncc_base.specs.Disk.{Asked}
use Rattle.ncc_base.specs.Faults.{Rose}
use Rattle.ncc_tx.specs.declared.entry.ChangeSet.{ChangeSet}
use Rattle.ncc_tx.specs.declared.entry.Item.{Item}
use Rattle.ncc_log.specs.Calls.{gated}
use Rattle.ncc_log.specs.Records.{recorded}
use Rattle.ncc_raft.specs.Appending.{applied}
use Rattle.ncc_raft.specs.Member.{Member, Outcome}
use Rattle.ncc_raft.specs.Step.{step}
use Rattle.ncc_member.specs.declared.event.NodeError.{NodeError}
use Rattle.ncc_member.specs.declared.event.NodeError.TheVariants.{Down, Elsewhere, Full, Memory}
use Rattle.ncc_member.specs.declared.event.NodeEvent.{NodeEvent}
use Rattle.ncc_member.specs.Event.{meant}
use Rattle.ncc_member.specs.Journaled.{IsSame, Journaled}

-- what the definition of Raft makes of the event
abbrev pub stepped : {D : Type 0} → Journaled D → NodeEvent → Outcome
stepped n event = step n.seat n.member (meant event)

-- what was committed stays
abbrev pub GoesOn : Member → Member → Type 0
GoesOn old new = (more : List Item) × (applied new ≡ applied old ++ more)

-- the node is down, and the number is by how much its disk's count rose since it was made
pub record IsDown {D : Type 0} (g : Ghosts D) (n : Journaled D) (faults : ℕ) : Type 0 where
  pub down : n.down ≡ true
  pub rose : Rose n.made (g.fault_count n.disk)
  pub number : faults ≡ g.fault_count n.disk - n.made

-- a refused proposal changes nothing, and want of memory nothing but room
abbrev pub Refused : {D : Type 0} → Ghosts D → NodeError → Journaled D → Journaled D → Type 0
Refused g (Down faults) old new = IsDown g new faults
Refused g Elsewhere old new = new ≡ old
Refused g (Full entries) old new = new ≡ old
Refused g Memory old new = IsSame g old new

-- what the disk is asked for a change behind a closed gate: its record, and then the gate; and nothing where there is no change
abbrev pub calls_of : ℕ → Option ChangeSet → List Asked
calls_of gate None = []
calls_of gate (Some c) = gated gate (recorded c ++ 0 ∷ [])
