use Rattle.std.proofs.Common.{ap, sym, ◌∙◌, drop, ◌≡◌, [], ◌∷◌, decimal, arith}
use Rattle.std.proofs.lemmas.Fmt.{decimal_injective}
use Rattle.ncc_replay.specs.Reading.{words_in}
use Rattle.ncc_replay.proofs.Lines.{apply_bad, first_word_of}
use Rattle.ncc_replay.proofs.Words.{some_words}
use Rattle.ncc_replay.proofs.line.apply.Goals as goal
use Rattle.ncc_replay.proofs.line.apply.Goals.{then-count-eq0-via-then-count-eq0, then-count-eq0-via-else-count-eq0+then-is_some}

pub returns-in_err-count-clause-none : goal.returns-in_err-count-clause-none
returns-in_err-count-clause-none c =
    rw c.from_residual-in_err-count.ensures
    (apply_bad (words_in c.args.rest)
    (λ member count small some fits e. c.in_err-count.ensures.none count [] (omega arith)
    (ap (drop 1) (sym c.in_ok-member.ensures.some.1 ∙ e))))

pub returns-then-count-eq0-clause-none : goal.returns-then-count-eq0-clause-none
returns-then-count-eq0-clause-none c =
    apply_bad (words_in c.args.rest) (λ member count small some fits e.
    let counts : decimal c.in_ok-count.count ∷ words_in c.in_ok-count.rest ≡ decimal count ∷ [] = sym c.in_ok-count.ensures.some.1
    ∙ ap (drop 1) (sym c.in_ok-member.ensures.some.1 ∙ e) in
    elim c.then-count-eq0.branch [
      | then-count-eq0-via-then-count-eq0 w ↦ omega (
        arith,
        decimal_injective c.in_ok-count.count count (omega (arith, c.in_ok-count.ensures.some.0)) fits (ap first_word_of counts),
        w.if-count-eq0.true,
      )
      | then-count-eq0-via-else-count-eq0+then-is_some w ↦ some_words c.in_ok-count.rest (sym w.is_some.ensures
          ∙ w.if-is_some.true) (ap (drop 1) counts)
    ])
