use Rattle.std.proofs.Common.{arith}
use Rattle.ncc_log.proofs.WrongByte.{wrong_step, wrong_found, wrong_short}
use Rattle.ncc_log.proofs.header.wrong_byte.Goals as goal

pub returns-then-i-bytes : goal.returns-then-i-bytes
returns-then-i-bytes c = wrong_short c.args.bytes.now c.loop-i.i (omega arith) c.loop-i.invariant (omega arith)

pub returns-then-bytes-i : goal.returns-then-bytes-i
returns-then-bytes-i c = wrong_found c.args.bytes.now c.loop-i.i (omega arith) c.loop-i.invariant (omega arith) c.if-bytes-i.true

pub loop-i-preserved : goal.loop-i-preserved
loop-i-preserved c = wrong_step c.args.bytes.now c.loop-i.i (omega arith) c.loop-i.invariant (omega arith) c.if-bytes-i.false
