use Rattle.ncc_raft.proofs.Tallies.{Counted}
use Rattle.ncc_raft.proofs.slots.elects.Given as goal

abbrev pub invariant-loop-i : goal.invariant-loop-i
invariant-loop-i l = Counted l.votes l.from l.i l.count
