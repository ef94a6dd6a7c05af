use Rattle.std.proofs.Common.{◌≡◌, true, subst, sym}
use Rattle.std.proofs.lemmas.Result.{IfOk-weaker}
use Rattle.ncc_driver.specs.declared.answers.Told.{Told}
use Rattle.ncc_driver.specs.Keeping.{told_fits}
use Rattle.ncc_driver.proofs.ToldFits.{success_fits, record_fits, code_fits, meta_fits, failure_fits}
use Rattle.ncc_driver.proofs.answers.read_answer.Goals as goal

pub returns-in-Success-clause-fits : goal.returns-in-Success-clause-fits
returns-in-Success-clause-fits c =
    IfOk-weaker c.success.result _ _
    (λ told e. subst (λ (t : Told). told_fits c.args.rows.now t ≡ true) (sym e)
    (success_fits c.args.asked c.args.now _ c.args.rows.now (meta_fits _ _ _ c.in-Ok.ensures.found c.in-Success.is))) c.success.ensures

pub returns-in-Row-clause-fits : goal.returns-in-Row-clause-fits
returns-in-Row-clause-fits c =
    subst (λ (t : Told). told_fits c.args.rows.now t ≡ true) (sym c.record.ensures) (record_fits c.args.asked c.args.rows.now _)

pub returns-in-Failure-clause-fits : goal.returns-in-Failure-clause-fits
returns-in-Failure-clause-fits c =
    IfOk-weaker c.failed.result _ _
    (λ told e. subst (λ (t : Told). told_fits c.args.rows.now t ≡ true) (sym e)
    (code_fits _ c.args.rows.now (failure_fits _ _ _ c.in-Ok.ensures.found c.in-Failure.is))) c.failed.ensures
