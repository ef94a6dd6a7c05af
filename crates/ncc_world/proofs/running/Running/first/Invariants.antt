use Rattle.std.proofs.Common.{◌≡◌}
use Rattle.ncc_world.specs.Happening.{WorldRun}
use Rattle.ncc_world.specs.World.{RunsAs}
use Rattle.ncc_world.specs.Parts.{run_in}
use Rattle.ncc_world.proofs.Firsts.{first_within}
use Rattle.ncc_world.proofs.running.Running.first.Given as goal

abbrev pub invariant-loop-index : goal.invariant-loop-index
invariant-loop-index l = (r : WorldRun) → RunsAs l.setup (run_in l.self) r → l.lowest ≡ first_within l.setup r l.index
