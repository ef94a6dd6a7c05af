use Rattle.std.proofs.Common.{◌≡◌, [], replicate}
use Rattle.ncc_world.specs.Parts.{numbers_in}
use Rattle.ncc_world.proofs.clients.no_numbers.Given as goal

abbrev pub invariant-loop-index : goal.invariant-loop-index
invariant-loop-index l = numbers_in l.sets.items ≡ replicate l.index []
