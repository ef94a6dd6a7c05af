use Rattle.std.proofs.Common.{◌≡◌, true, rules}
use Rattle.std.specs.Prelude.{IsTrue}
use Rattle.ncc_pack.specs.Fits.{fits_text}
use Rattle.ncc_session.specs.Refusals.{message_of}
use Rattle.ncc_session.specs.Replies.{failure_meta}
use Rattle.ncc_session.proofs.Spellable.{failure_fits}
use Rattle.ncc_session.proofs.reply.failure.Goals as goal

pub returns-clause-fits : goal.returns-clause-fits
returns-clause-fits c =
    let same : c.in_ok-text.text ≡ message_of c.args.refusal = search rules in
    let told : IsTrue (fits_text c.in_ok-text.text) = search rules in
    let short : fits_text (message_of c.args.refusal) ≡ true = rw (← same) told in
    let meta : c.in_ok-meta-2.meta ≡ failure_meta c.args.refusal = search rules in
    rw meta (failure_fits c.args.refusal short)
