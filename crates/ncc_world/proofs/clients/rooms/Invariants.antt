use Rattle.std.proofs.Common.{◌≡◌, [], replicate}
use Rattle.ncc_world.proofs.clients.rooms.Given as goal

abbrev pub invariant-loop-index : goal.invariant-loop-index
invariant-loop-index l = l.rooms.items ≡ replicate l.index []
