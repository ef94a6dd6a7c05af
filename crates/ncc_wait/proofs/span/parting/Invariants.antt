use Rattle.std.proofs.Common.{◌≡◌, ◌+◌, ◌-◌, ◌/◌, ◌≤◌}
use Rattle.ncc_wait.proofs.span.parting.Given as goal

abbrev pub invariant-loop-split : goal.invariant-loop-split
invariant-loop-split l = (l.from ≤ l.low) × (l.high ≤ l.to) × (l.split ≡ l.from + (l.to - l.from) / 2 + 1)

abbrev pub decreases-loop-split : goal.decreases-loop-split
decreases-loop-split l = l.to - l.from
