use Rattle.std.proofs.Common.{true, ◌≤◌}
use Rattle.ncc_session.specs.Core.{place_of}
use Rattle.ncc_session.specs.Steps.{Nexts}
use Rattle.ncc_session.specs.Talk.{facts_left}
use Rattle.ncc_session.proofs.stream.settle.Given as goal

abbrev pub invariant-messages : goal.invariant-messages
invariant-messages l = record {
  gone : Nexts l.config (place_of l.initial.core) l.initial.dechunker l.initial.out (place_of l.core) l.dechunker l.out true;
  lowers : facts_left (place_of l.core) l.dechunker ≤ facts_left (place_of l.initial.core) l.initial.dechunker;
}
