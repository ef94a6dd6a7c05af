use Rattle.std.proofs.Common.{[], ap, sym, ◌∙◌, drop, arith}
use Rattle.ncc_replay.proofs.Words.{some_words}
use Rattle.ncc_replay.proofs.raft_line.two.Goals as goal

pub returns-in_err-second-clause-none : goal.returns-in_err-second-clause-none
returns-in_err-second-clause-none c =
    rw c.from_residual-in_err-second.ensures
    (λ m n small few e. c.in_err-second.ensures.none n [] (omega (arith, few)) (ap (drop 1) (sym c.in_ok-first.ensures.some.1 ∙ e)))

pub returns-then-is_some-clause-none : goal.returns-then-is_some-clause-none
returns-then-is_some-clause-none c = λ m n small few e.
    some_words c.in_ok-second.rest (sym c.is_some.ensures ∙ c.if-is_some.true) (ap (drop 1) (sym c.in_ok-second.ensures.some.1
    ∙ ap (drop 1) (sym c.in_ok-first.ensures.some.1 ∙ e)))
