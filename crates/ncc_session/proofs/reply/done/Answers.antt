use Rattle.std.proofs.Common.{rules}
use Rattle.ncc_session.specs.Replies.{done_meta}
use Rattle.ncc_session.proofs.Spellable.{done_fits, ok_fits}
use Rattle.ncc_session.proofs.reply.done.Goals as goal

pub returns-clause-fits : goal.returns-clause-fits
returns-clause-fits c = λ h. ok_fits c.with_end.result (done_meta c.args.cluster c.args.place c.args.kind.now) (search rules)
    (done_fits c.args.cluster c.args.place c.args.kind.now h)
