use Rattle.ncc_world.specs.Happening.{WorldRun}
use Rattle.ncc_world.specs.Parts.{RunsAll, SameCount}
use Rattle.ncc_world.proofs.Emptying.{MovesOn}
use Rattle.ncc_world.proofs.running.Running.pump.Given as goal

abbrev pub invariant-loop : goal.invariant-loop
invariant-loop l = record {
  count : SameCount l.fn.self l.self;
  on : (r : WorldRun) → RunsAll l.setup l.fn.self r → MovesOn l.setup l.line l.index l.counter l.fn.requests l.limit r l.self;
}
