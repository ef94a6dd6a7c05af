use Rattle.std.proofs.Common.{◌-◌}
use Rattle.ncc_log.proofs.Going.{Going}
use Rattle.ncc_log.proofs.open.read_records.Given as goal

abbrev pub invariant-loop-part : goal.invariant-loop-part
invariant-loop-part g l = Going g.D.Disk l.fn.disk l.disk l.file l.window.from l.window.held l.gate l.part

abbrev pub decreases-loop-part : goal.decreases-loop-part
decreases-loop-part g l = l.file - l.gate
