use Rattle.std.proofs.Common.{rules}
use Rattle.ncc_session.specs.Replies.{hello_meta}
use Rattle.ncc_session.proofs.Spellable.{hello_fits, ok_fits}
use Rattle.ncc_session.proofs.reply.hello.Goals as goal

pub returns-clause-fits : goal.returns-clause-fits
returns-clause-fits c = ok_fits c.with_text-2.result (hello_meta c.args.conn) (search rules) (hello_fits c.args.conn c.ranges.conn.fits)
