use Rattle.std.proofs.lemmas.Result.{err_from_is_err_and}
use Rattle.ncc_store.proofs.Made.{never, same}
use Rattle.ncc_store.proofs.step.Step.of.Goals as goal

pub returns-in_err-statement-clause-only : goal.returns-in_err-statement-clause-only
returns-in_err-statement-clause-only c = λ statement spelled.
    let p = err_from_is_err_and c.from_residual.result c.from_residual.ensures.1 in
    rw (p.1, p.2) (never c.in_err-statement.field-0.0 statement (c.in_err-statement.ensures.only statement spelled))

pub returns-clause-only : goal.returns-clause-only
returns-clause-only c = λ statement spelled. same c.in_ok-statement.statement statement (c.in_ok-statement.ensures.only statement spelled)
