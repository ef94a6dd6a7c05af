use Rattle.std.proofs.Common.{[], ap, sym, ◌∙◌, drop, arith}
use Rattle.ncc_replay.proofs.Words.{some_words}
use Rattle.ncc_replay.proofs.session_line.moves.Goals as goal

pub returns-in_err-bytes-clause-none : goal.returns-in_err-bytes-clause-none
returns-in_err-bytes-clause-none c =
    rw c.from_residual-in_err-bytes.ensures
    (λ session count small few e. c.in_err-bytes.ensures.none count [] (omega (arith, few))
    (ap (drop 1) (sym c.in_ok-session.ensures.some.1 ∙ e)))

pub returns-then-is_some-clause-none : goal.returns-then-is_some-clause-none
returns-then-is_some-clause-none c = λ session count small few e.
    some_words c.in_ok-bytes.rest (sym c.is_some.ensures ∙ c.if-is_some.true) (ap (drop 1) (sym c.in_ok-bytes.ensures.some.1
    ∙ ap (drop 1) (sym c.in_ok-session.ensures.some.1 ∙ e)))
