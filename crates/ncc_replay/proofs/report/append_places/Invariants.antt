use Rattle.std.proofs.Common.{◌≡◌, ◌++◌, ◌+◌, drop}
use Rattle.ncc_tx.specs.State.{stamps}
use Rattle.ncc_world.specs.Happening.{WorldRun}
use Rattle.ncc_world.specs.World.{Stands}
use Rattle.ncc_replay.specs.Report.{place_lines}
use Rattle.ncc_replay.proofs.report.append_places.Given as goal

-- what is written so far and the places that are left
abbrev pub invariant-loop-index : goal.invariant-loop-index
invariant-loop-index l = (r : WorldRun) → Stands l.world r → l.history ≡ r.history
    → l.into ++ place_lines (l.index + 1) (drop l.index l.history) (drop l.index (stamps l.history))
    ≡ l.initial.into ++ place_lines 1 l.history (stamps l.history)
