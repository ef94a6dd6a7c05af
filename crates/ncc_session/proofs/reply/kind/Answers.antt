use Rattle.std.proofs.Common.{refl, codes}
use Rattle.ncc_session.proofs.Spellable.{literal, kind_of_tail}
use Rattle.ncc_session.proofs.reply.kind.Goals as goal

pub returns-then-writes-clause-fits : goal.returns-then-writes-clause-fits
returns-then-writes-clause-fits c = rw c.has_return.ensures (kind_of_tail c.args.statement.now.tail)

pub returns-else-writes-clause-fits : goal.returns-else-writes-clause-fits
returns-else-writes-clause-fits c = literal (codes "r") refl
