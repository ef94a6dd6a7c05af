use Rattle.ncc_raft.proofs.Tallies.{Having}
use Rattle.ncc_raft.proofs.slots.majority_has.Given as goal

abbrev pub invariant-loop-i : goal.invariant-loop-i
invariant-loop-i l = Having l.matches l.id l.own l.place l.i l.count
