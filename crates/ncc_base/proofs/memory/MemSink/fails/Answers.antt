use Rattle.ncc_base.proofs.Fronts.{front_of}
use Rattle.ncc_base.proofs.memory.MemSink.fails.Goals as goal

pub returns-then-failing-clause-from_front : goal.returns-then-failing-clause-from_front
returns-then-failing-clause-from_front c = front_of c.self.inside.flushed c.self.inside.bytes.items

pub returns-else-failing-clause-from_front : goal.returns-else-failing-clause-from_front
returns-else-failing-clause-from_front c = front_of c.self.inside.flushed c.self.inside.bytes.items
