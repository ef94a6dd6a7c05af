use Rattle.ncc_world.proofs.Naming.{NamedSo}
use Rattle.ncc_world.proofs.drivers.Drivers.named.Given as goal

-- none of those before it has the address
abbrev pub invariant-loop-index : goal.invariant-loop-index
invariant-loop-index l = NamedSo l.self.names l.address l.index
