use Rattle.std.proofs.Common.{arith}
use Rattle.ncc_log.proofs.GateRead.{open_is}
use Rattle.ncc_log.proofs.open.open_gate.Goals as goal

pub returns : goal.returns
returns c = open_is c.args.bytes.now c.read_size-size.result (λ k. omega (arith, c.type_inv.bytes k)) c.requires.long c.requires.first
    (omega arith) c.read_size-size.ensures
