use Rattle.ncc_raft.proofs.Conflicts.{Passed}
use Rattle.ncc_raft.proofs.logs.first_conflict.Given as goal

abbrev pub invariant-loop-i : goal.invariant-loop-i
invariant-loop-i l = Passed l.log l.last l.place l.items l.i
