use Rattle.std.proofs.Common.{rules}
use Rattle.ncc_session.specs.Replies.{table_meta}
use Rattle.ncc_session.proofs.Spellable.{table_fits, ok_fits}
use Rattle.ncc_session.proofs.reply.table.Goals as goal

pub returns-clause-fits : goal.returns-clause-fits
returns-clause-fits c = λ h. ok_fits c.with-2.result (table_meta c.args.members.now c.args.leader c.args.ttl) (search rules)
    (table_fits c.args.members.now c.args.leader c.args.ttl h c.requires.ttl)
