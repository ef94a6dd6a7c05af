use Rattle.std.proofs.Common.{◌≡◌, true, rules}
use Rattle.ncc_pack.specs.declared.value.Value.TheVariants as v
use Rattle.ncc_pack.specs.Fits.{fits_within}
use Rattle.ncc_session.specs.Replies.{step_meta}
use Rattle.ncc_session.proofs.Spellable.{step_fits, ok_fits}
use Rattle.ncc_session.proofs.reply.step.Goals as goal

pub returns-clause-fits : goal.returns-clause-fits
returns-clause-fits c =
    let short : fits_within (v.List c.args.columns.now) 31 ≡ true = search rules in
    ok_fits c.with_number.result (step_meta c.args.columns.now c.args.number) (search rules)
    (step_fits c.args.columns.now c.args.number short c.requires)
