use Rattle.std.proofs.Common.{◌∙◌, sym, arith}
use Rattle.ncc_log.proofs.HeaderRead.{right_there}
use Rattle.ncc_log.proofs.header.header_fault.Goals as goal

pub returns-then-told_member-member-clause-right : goal.returns-then-told_member-member-clause-right
returns-then-told_member-member-clause-right c = λ none.
    right_there c.args.cluster c.args.member c.args.bytes.now (λ k. omega (arith, c.type_inv.bytes k)) (sym c.in_default.ensures)
    (omega arith) (sym c.read_cluster-told_cluster.ensures ∙ c.if-told_cluster-cluster.true) c.if-told_member-member.true
