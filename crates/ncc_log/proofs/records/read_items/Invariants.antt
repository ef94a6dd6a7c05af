use Rattle.std.proofs.Common.{◌-◌}
use Rattle.ncc_log.proofs.ItemsRead.{Pending}
use Rattle.ncc_log.proofs.records.read_items.Given as goal

abbrev pub invariant-loop : goal.invariant-loop
invariant-loop l = Pending l.payload l.count l.least l.greatest l.items l.at (l.count - l.counter) l.last
