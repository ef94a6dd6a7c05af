use Rattle.std.proofs.Common.{◌≡◌, ◌++◌, take}
use Rattle.ncc_route.proofs.table.with_more.Given as goal

-- the values so far stand behind those that were there
abbrev pub invariant-loop-value : goal.invariant-loop-value
invariant-loop-value l = l.all ≡ l.fn.values ++ take l.value-index l.value-items
