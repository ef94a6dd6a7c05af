use Rattle.std.proofs.Common.{◌≡◌, length}
use Rattle.ncc_cypher.specs.Slots.{hash_from}
use Rattle.ncc_cypher.proofs.draft.hash.Given as goal

abbrev pub invariant-loop-rest : goal.invariant-loop-rest
invariant-loop-rest l = hash_from l.hash l.rest ≡ hash_from 0 l.key

abbrev pub decreases-loop-rest : goal.decreases-loop-rest
decreases-loop-rest l = length l.rest
