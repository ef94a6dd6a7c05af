use Rattle.std.proofs.Common.{◌≡◌, take}
use Rattle.ncc_route.specs.Routing.{following}
use Rattle.ncc_route.proofs.table.following_cores.Given as goal

-- the others among the cores so far
abbrev pub invariant-loop-i : goal.invariant-loop-i
invariant-loop-i l = l.others ≡ following l.leader (take l.i l.core-items)
