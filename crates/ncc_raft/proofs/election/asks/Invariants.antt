use Rattle.std.proofs.Common.{◌≡◌}
use Rattle.std.specs.Prelude.{map}
use Rattle.ncc_raft.specs.Elections.{ask_to}
use Rattle.ncc_raft.specs.Member.{cores_of}
use Rattle.ncc_raft.specs.State.{at, member_of, seat_of}
use Rattle.ncc_raft.proofs.election.asks.Given as goal

abbrev pub invariant-loop-i : goal.invariant-loop-i
invariant-loop-i l = l.out ≡ map (ask_to (seat_of l.seat) (at l.standing (member_of l.state))) (cores_of l.i)
