use Rattle.std.proofs.Common.{◌≡◌, [], ◌∷◌, not, ap, sym, ◌∙◌, drop, decimal, arith}
use Rattle.std.proofs.lemmas.Fmt.{decimal_injective}
use Rattle.ncc_replay.specs.Reading.{words_in}
use Rattle.ncc_replay.proofs.Lines.{first_word_of}
use Rattle.ncc_replay.proofs.SessionLines.{limit_none}
use Rattle.ncc_replay.proofs.Words.{some_words}
use Rattle.ncc_replay.proofs.session_line.limit.Goals as goal
use Rattle.ncc_replay.proofs.session_line.limit.Goals.{then-requests-eq0-via-then-requests-eq0, then-requests-eq0-via-else-requests-eq0+then-is_some}

pub returns-in_err-requests-clause-none : goal.returns-in_err-requests-clause-none
returns-in_err-requests-clause-none c =
    rw c.from_residual.ensures
    (limit_none c.args.rest (c.is_none.ensures ∙ ap not c.if-is_none.false)
    (λ n some small e. c.in_err-requests.ensures.none n [] (omega (arith, small)) e))

pub returns-then-requests-eq0-clause-none : goal.returns-then-requests-eq0-clause-none
returns-then-requests-eq0-clause-none c =
    limit_none c.args.rest (c.is_none.ensures ∙ ap not c.if-is_none.false) (λ n some small e.
    let numbers : decimal c.in_ok-requests.requests ∷ words_in c.in_ok-requests.rest ≡ decimal n ∷ [] =
    sym c.in_ok-requests.ensures.some.1 ∙ e in
    elim c.then-requests-eq0.branch [
      | then-requests-eq0-via-then-requests-eq0 w ↦ omega (
        arith,
        decimal_injective c.in_ok-requests.requests n (omega (arith, c.in_ok-requests.ensures.some.0)) small (ap first_word_of numbers),
        w.if-requests-eq0.true,
        some,
      )
      | then-requests-eq0-via-else-requests-eq0+then-is_some w ↦
          some_words c.in_ok-requests.rest (sym w.is_some.ensures ∙ w.if-is_some.true) (ap (drop 1) numbers)
    ])
