use Rattle.ncc_session.specs.declared.state.ConnStop.TheVariants as stop
use Rattle.ncc_session.specs.Asking.{NeverForMemory}
use Rattle.ncc_session.proofs.Never.{never_memory}
use Rattle.ncc_session.proofs.laws.never_for_memory.Goals as goal

never : NeverForMemory
never config bytes facts number at cause e = never_memory config bytes facts (stop.Malformed number at cause) e

pub returns : goal.returns
returns c = record { never = never }
