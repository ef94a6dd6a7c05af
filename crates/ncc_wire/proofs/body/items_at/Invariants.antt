use Rattle.ncc_wire.proofs.Lists.{Pending}
use Rattle.ncc_wire.proofs.body.items_at.Given as goal

abbrev pub invariant-loop : goal.invariant-loop
invariant-loop l = Pending l.listing l.frame l.at l.counter l.items l.place l.least
