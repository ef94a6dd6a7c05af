-- How long the payload of a change can be that an event makes.
use Rattle.std.specs.Prelude.{ℕ, ◌≤◌, length}
use Rattle.ncc_tx.specs.declared.entry.ChangeSet.{ChangeSet}
use Rattle.ncc_tx.specs.Kept.{IsChange, payload}
use Rattle.ncc_raft.specs.Core.{IsSeat, IsSound}
use Rattle.ncc_raft.specs.Member.{Event, Seat, Member, kept}
use Rattle.ncc_raft.specs.Step.{step}

-- whatever core meets the event, its change has at most so many bytes
abbrev pub Suffices : Event → ℕ → Type 0
Suffices event most = (seat : Seat) (m : Member) (c : ChangeSet) → IsSeat seat → IsSound seat m →
    IsChange (kept m) (kept (step seat m event).member) c → length (payload c) ≤ most
