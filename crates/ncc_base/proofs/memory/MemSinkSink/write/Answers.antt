use Rattle.ncc_base.proofs.Fronts.{front_of}
use Rattle.ncc_base.proofs.memory.MemSinkSink.write.Goals as goal

pub returns-clause-from_front : goal.returns-clause-from_front
returns-clause-from_front c = front_of c.self.inside.flushed c.extend_from_slice.new.self.items
