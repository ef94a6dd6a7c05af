use Rattle.std.proofs.Common.{◌≡◌}
use Rattle.ncc_clients.specs.Turn.{Turns}
use Rattle.ncc_world.specs.Setting.{cluster_of}
use Rattle.ncc_world.specs.Happening.{WorldRun}
use Rattle.ncc_world.specs.World.{RunsAs}
use Rattle.ncc_world.specs.Parts.{left_in, run_in}
use Rattle.ncc_world.proofs.running.Running.settle.Given as goal

abbrev pub invariant-turns : goal.invariant-turns
invariant-turns l =
    ((r : WorldRun) → RunsAs l.setup (run_in l.fn.self) r
    → (t : WorldRun) × Turns (cluster_of l.setup) l.line r t × RunsAs l.setup (run_in l.self) t)
    × (l.self.drivers ≡ l.fn.self.drivers)

abbrev pub decreases-turns : goal.decreases-turns
decreases-turns l = left_in l.self.clients
