use Rattle.std.proofs.Common.{arith}
use Rattle.ncc_wire.proofs.Answered.{exact_by, found_by, length_by, only_by}
use Rattle.ncc_wire.proofs.read.read_frame.Goals as goal

pub returns-clause-found : goal.returns-clause-found
returns-clause-found c = found_by c.args.cluster c.args.bytes.now c.judged.result (omega arith) (λ i. omega (arith, c.type_inv.bytes i))
    c.judged.ensures

pub returns-clause-length : goal.returns-clause-length
returns-clause-length c = length_by c.args.cluster c.args.bytes.now c.judged.result (omega arith) (λ i. omega (arith, c.type_inv.bytes i))
    c.judged.ensures

pub returns-clause-only : goal.returns-clause-only
returns-clause-only c = only_by c.args.cluster c.args.bytes.now c.judged.result c.judged.ensures

pub returns-clause-exact : goal.returns-clause-exact
returns-clause-exact c = exact_by c.args.cluster c.args.bytes.now c.judged.result c.judged.ensures
