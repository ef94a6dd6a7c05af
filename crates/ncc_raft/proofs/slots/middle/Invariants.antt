use Rattle.ncc_raft.proofs.Tallies.{Best}
use Rattle.ncc_raft.proofs.slots.middle.Given as goal

abbrev pub invariant-loop-i : goal.invariant-loop-i
invariant-loop-i l = Best l.matches l.id l.own l.i l.best
