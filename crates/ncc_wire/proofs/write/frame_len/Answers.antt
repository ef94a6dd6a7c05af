use Rattle.std.proofs.Common.{arith}
use Rattle.ncc_wire.proofs.Parts.{frame_long}
use Rattle.ncc_wire.proofs.write.frame_len.Goals as goal

pub returns-clause-length : goal.returns-clause-length
returns-clause-length c = λ cluster. omega (arith, frame_long cluster c.args.envelope.now, c.body_len.ensures.exact)
