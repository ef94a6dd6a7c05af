use Rattle.std.proofs.Common.{◌≡◌}
use Rattle.std.specs.Prelude.{map, nat_eq, not}
use Rattle.std.specs.List.{filter}
use Rattle.ncc_raft.specs.Appending.{append_to}
use Rattle.ncc_raft.specs.Member.{cores_of}
use Rattle.ncc_raft.specs.State.{seat_of, sender}
use Rattle.ncc_raft.proofs.appending.appends.Given as goal

abbrev pub invariant-loop-i : goal.invariant-loop-i
invariant-loop-i l =
    l.out ≡ map (append_to (seat_of l.seat) (sender l.term l.commit l.log l.next)) (filter (λ c. not (nat_eq c l.seat.id)) (cores_of l.i))
