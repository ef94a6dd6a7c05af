use Rattle.std.proofs.Common.{◌≡◌}
use Rattle.ncc_clients.specs.Members.{addresses}
use Rattle.ncc_world.proofs.config.addresses.Given as goal

-- the addresses of so many members
abbrev pub invariant-loop-index : goal.invariant-loop-index
invariant-loop-index l = l.all ≡ addresses l.index l.first
