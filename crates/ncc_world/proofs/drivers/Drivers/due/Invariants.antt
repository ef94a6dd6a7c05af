use Rattle.std.proofs.Common.{◌≡◌, length}
use Rattle.ncc_wait.specs.Room.{Ascending}
use Rattle.ncc_world.specs.Parts.{drivers_in}
use Rattle.ncc_world.proofs.Taking.{TakesOut}
use Rattle.ncc_world.proofs.drivers.Drivers.due.Given as goal

-- Some were taken out, and all else is as it was.
abbrev pub invariant-loop-due : goal.invariant-loop-due
invariant-loop-due l = record {
  same : drivers_in l.self ≡ record (drivers_in l.fn.self) { sleepers = l.self.sleepers };
  out : Ascending l.fn.self.sleepers → TakesOut l.now l.fn.self.sleepers l.due.items l.self.sleepers;
}

abbrev pub decreases-loop-due : goal.decreases-loop-due
decreases-loop-due l = length l.self.sleepers
