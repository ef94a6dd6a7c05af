use Rattle.ncc_tx.proofs.Terms.{SameSoFar}
use Rattle.ncc_tx.proofs.kept.same_terms.Given as goal

abbrev pub invariant-loop-i : goal.invariant-loop-i
invariant-loop-i l = SameSoFar l.items l.others l.i
