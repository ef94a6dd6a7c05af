use Rattle.std.proofs.Common.{◌≡◌, drop, length}
use Rattle.ncc_world.specs.Happening.{WorldRun}
use Rattle.ncc_world.specs.Parts.{RunsAll}
use Rattle.ncc_world.proofs.Emptying.{WakesOn}
use Rattle.ncc_world.proofs.Waking.{AreNext}
use Rattle.ncc_world.proofs.running.Running.wake_all.Given as goal

abbrev pub invariant-loop-number : goal.invariant-loop-number
invariant-loop-number l = record {
  count : length l.self.drivers.list.items ≡ length l.fn.self.drivers.list.items;
  next : AreNext (length l.fn.self.drivers.list.items) (drop l.number-index l.number-items);
  on : (r : WorldRun) → RunsAll l.setup l.fn.self r → WakesOn l.setup l.line (drop l.number-index l.number-items) r l.self;
}
