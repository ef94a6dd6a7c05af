use Rattle.std.proofs.Common.{rules}
use Rattle.ncc_session.specs.Replies.{end_meta}
use Rattle.ncc_session.proofs.Spellable.{end_fits, ok_fits}
use Rattle.ncc_session.proofs.reply.end.Goals as goal

pub returns-clause-fits : goal.returns-clause-fits
returns-clause-fits c = λ h. ok_fits c.with_end.result (end_meta c.args.kind.now) (search rules) (end_fits c.args.kind.now h)
