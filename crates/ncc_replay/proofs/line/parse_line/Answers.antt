use Rattle.std.proofs.Common.{ap, sym, ◌∙◌, ◌∷◌, subst}
use Rattle.ncc_bookmark.proofs.Texts.{err_again}
use Rattle.ncc_replay.specs.Reading.{words_in, AreBad}
use Rattle.ncc_replay.proofs.Lines.{words_say, bad_line, is_known}
use Rattle.ncc_replay.proofs.line.parse_line.Goals as goal

pub returns-in-Ok-clause-says : goal.returns-in-Ok-clause-says
returns-in-Ok-clause-says c =
    let words = c.cut.ensures.words ∙ ap (λ w. w ∷ words_in c.cut.result.1) c.in-Some.ensures.some in
    words_say c.args.cluster c.args.line.now c.in-Ok.event (c.in-Ok.ensures.ok.0, words ∙ c.in-Ok.ensures.ok.1)

pub returns-in-Err-clause-bad : goal.returns-in-Err-clause-bad
returns-in-Err-clause-bad c = λ cause h.
    let words = c.cut.ensures.words ∙ ap (λ w. w ∷ words_in c.cut.result.1) c.in-Some.ensures.some in
    let bad = c.in-Err.ensures.bad cause (err_again c.in-Err.error _ h) in
    bad_line c.args.cluster c.args.line.now cause
    (is_known c.args.line.now c.in-Some.verb (sym c.cut.ensures.first ∙ c.in-Some.ensures.some))
    (subst (λ l. AreBad c.args.cluster l cause) (sym words) bad)
