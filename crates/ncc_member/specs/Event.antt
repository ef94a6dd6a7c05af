-- What an event of a node is to its core.
use Rattle.std.specs.Prelude.{ℕ, Bool, true, false, nat_eq, if◌then◌else◌, length, Option, Some, None}
use Rattle.ncc_raft.specs.Member as raft
use Rattle.ncc_raft.specs.Member.{Seat, Member, is_leader}
use Rattle.ncc_member.specs.declared.event.NodeError.{NodeError}
use Rattle.ncc_member.specs.declared.event.NodeError.TheVariants.{Elsewhere, Full}
use Rattle.ncc_member.specs.declared.event.NodeEvent.{NodeEvent}
use Rattle.ncc_member.specs.declared.event.NodeEvent.TheVariants.{Timeout, Beat, Receive, Propose}

-- the event of the core
abbrev pub meant : NodeEvent → raft.Event
meant Timeout = raft.Timeout
meant Beat = raft.Beat
meant (Receive envelope) = raft.Receive envelope
meant (Propose entry) = raft.Propose entry

abbrev pub is_proposal : NodeEvent → Bool
is_proposal (Propose entry) = true
is_proposal _ = false

-- of a proposal the place and the term of its entry, which is the last of the log
abbrev pub placed_by : NodeEvent → Member → Option (ℕ × ℕ)
placed_by (Propose entry) m = Some (length m.log, m.term)
placed_by _ m = None

-- why a proposal is refused
abbrev pub refusal : Seat → Member → NodeEvent → Option NodeError
refusal seat m (Propose entry) =
    if is_leader m.role then (if nat_eq (length m.log) seat.limit then Some (Full seat.limit) else None) else Some Elsewhere
refusal seat m _ = None
