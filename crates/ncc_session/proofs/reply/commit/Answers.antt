use Rattle.std.proofs.Common.{rules}
use Rattle.ncc_session.specs.Replies.{commit_meta}
use Rattle.ncc_session.proofs.Spellable.{commit_fits, ok_fits}
use Rattle.ncc_session.proofs.reply.commit.Goals as goal

pub returns-clause-fits : goal.returns-clause-fits
returns-clause-fits c = ok_fits c.with.result (commit_meta c.args.cluster c.args.place) (search rules) (commit_fits c.args.cluster c.args.place)
