use Rattle.std.proofs.Common.{[], refl, ◌∙◌}
use Rattle.ncc_session.proofs.Spellable.{literal}
use Rattle.ncc_session.proofs.Written.{kind_is}
use Rattle.ncc_session.proofs.pulls.kind_at.Goals as goal

pub returns-then-number-steps-clause-fits : goal.returns-then-number-steps-clause-fits
returns-then-number-steps-clause-fits c = literal [] refl

pub returns-clause-exact : goal.returns-clause-exact
returns-clause-exact c =
    let same = rw (← c.index-steps-number.is) at c.kind.ensures.exact in
    same ∙ kind_is c.args.steps.now c.args.number c.index-steps-number.result c.if-number-steps.false c.index-steps-number.is
