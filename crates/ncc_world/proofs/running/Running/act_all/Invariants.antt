use Rattle.std.proofs.Common.{◌≡◌, ℕ, List, Some}
use Rattle.std.specs.Prelude.{slice_get}
use Rattle.ncc_driver.specs.declared.action.Action.{Action}
use Rattle.ncc_clients.specs.Links.{Driver}
use Rattle.ncc_clients.specs.Drives.{driver_at}
use Rattle.ncc_world.specs.Happening.{WorldRun}
use Rattle.ncc_world.specs.Parts.{RunsMid, SameCount}
use Rattle.ncc_world.proofs.Doing.{queued_in}
use Rattle.ncc_world.proofs.Emptying.{DoesOn}
use Rattle.ncc_world.proofs.running.Running.act_all.Given as goal

abbrev pub invariant-loop-told : goal.invariant-loop-told
invariant-loop-told l = record {
  count : SameCount l.fn.self l.self;
  does : (r : WorldRun) (d : Driver) (left : List Action) (pending : List ℕ) → driver_at r l.index ≡ Some d
      → RunsMid l.setup l.index left pending l.fn.self r → DoesOn l.setup l.line l.index left pending r l.self l.told;
}

abbrev pub decreases-loop-told : goal.decreases-loop-told
decreases-loop-told l = queued_in (slice_get l.self.drivers.list.items l.index)
