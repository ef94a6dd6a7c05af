use Rattle.std.proofs.Common.{◌≡◌, drop, map}
use Rattle.ncc_store.specs.Exec.{call_of}
use Rattle.ncc_session.specs.Question.{some_writes}
use Rattle.ncc_session.proofs.fit.some_writes.Given as goal

-- what the steps so far leave open
abbrev pub invariant-loop-step : goal.invariant-loop-step
invariant-loop-step l = some_writes (map call_of (drop l.step-index l.steps)) ≡ some_writes (map call_of l.steps)
