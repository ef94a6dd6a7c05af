use Rattle.std.proofs.Common.{rules}
use Rattle.ncc_session.specs.Refusals.{message_of}
use Rattle.ncc_session.specs.declared.refusal.Refusal.TheVariants as r
use Rattle.ncc_session.proofs.Spellable.{syntax_fits, text_fits}
use Rattle.ncc_session.proofs.refusal.syntax_message.Goals as goal

pub returns-clause-fits : goal.returns-clause-fits
returns-clause-fits c = text_fits c.from_str.result (message_of (r.Syntax c.args.at)) (search rules) (syntax_fits c.args.at c.ranges.at.fits)
