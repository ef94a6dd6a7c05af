use Rattle.std.proofs.Common.{rules}
use Rattle.ncc_session.specs.Replies.{more_meta}
use Rattle.ncc_session.proofs.Spellable.{more_fits, ok_fits}
use Rattle.ncc_session.proofs.reply.more.Goals as goal

pub returns-clause-fits : goal.returns-clause-fits
returns-clause-fits c = ok_fits c.with.result more_meta (search rules) more_fits
