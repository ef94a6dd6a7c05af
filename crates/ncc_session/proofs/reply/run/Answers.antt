use Rattle.std.proofs.Common.{◌≡◌, true, rules}
use Rattle.ncc_pack.specs.declared.value.Value.TheVariants as v
use Rattle.ncc_pack.specs.Fits.{fits_within}
use Rattle.ncc_session.specs.Replies.{run_meta}
use Rattle.ncc_session.proofs.Spellable.{run_fits, ok_fits}
use Rattle.ncc_session.proofs.reply.run.Goals as goal

pub returns-clause-fits : goal.returns-clause-fits
returns-clause-fits c =
    let short : fits_within (v.List c.args.columns.now) 31 ≡ true = search rules in
    ok_fits c.with_number.result (run_meta c.args.columns.now) (search rules) (run_fits c.args.columns.now short)
