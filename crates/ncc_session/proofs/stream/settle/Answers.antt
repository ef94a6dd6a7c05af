use Rattle.std.proofs.Common.{refl, sym, ◌∙◌, arith}
use Rattle.ncc_session.proofs.Moves.{nexts_not, nexts_on, nexts_still, nexts_broke, on_err}
use Rattle.ncc_session.proofs.stream.settle.Goals as goal

pub messages-init : goal.messages-init
messages-init c = record { gone = nexts_not _ _ _ _; lowers = omega arith }

pub messages-preserved : goal.messages-preserved
messages-preserved c = record {
  gone = nexts_on _ _ _ _ _ _ _ _ _ _ _ _ c.messages.invariant.gone c.in_ok-more.ensures.ok c.if-not-more.false;
  lowers = let a = c.messages.invariant.lowers in let b = c.in_ok-more.ensures.lowers in omega arith;
}

pub returns-then-not-may_read-clause-ok : goal.returns-then-not-may_read-clause-ok
returns-then-not-may_read-clause-ok c = nexts_still _ _ _ _ _ _ _ c.messages.invariant.gone (sym c.may_read.ensures ∙ c.if-not-may_read.true)

pub returns-then-not-may_read-clause-lowers : goal.returns-then-not-may_read-clause-lowers
returns-then-not-may_read-clause-lowers c = c.messages.invariant.lowers

pub returns-in_err-more-clause-err : goal.returns-in_err-more-clause-err
returns-in_err-more-clause-err c =
    on_err c.from_residual.result _ (nexts_broke _ _ _ _ _ _ _ _ c.messages.invariant.gone c.in_err-more.ensures.err)

pub returns-then-not-more-clause-ok : goal.returns-then-not-more-clause-ok
returns-then-not-more-clause-ok c =
    nexts_on _ _ _ _ _ _ _ _ _ _ _ _ c.messages.invariant.gone c.in_ok-more.ensures.ok c.if-not-more.true

pub returns-then-not-more-clause-lowers : goal.returns-then-not-more-clause-lowers
returns-then-not-more-clause-lowers c = let a = c.messages.invariant.lowers in let b = c.in_ok-more.ensures.lowers in omega arith

pub returns-clause-err : goal.returns-clause-err
returns-clause-err c = nexts_broke _ _ _ _ _ _ _ _ c.messages.invariant.gone refl
