use Rattle.ncc_raft.proofs.Fronts.{TakenSoFar}
use Rattle.ncc_raft.proofs.logs.front_len.Given as goal

abbrev pub invariant-loop-i : goal.invariant-loop-i
invariant-loop-i l = TakenSoFar l.sizes l.i l.room
