use Rattle.std.proofs.Common.{◌∷◌, ap, ◌∙◌, arith, decimal}
use Rattle.ncc_bookmark.proofs.Texts.{err_again}
use Rattle.ncc_replay.specs.Reading.{words_in}
use Rattle.ncc_replay.proofs.Lines.{get_no_bookmarks}
use Rattle.ncc_replay.proofs.line.get.Goals as goal

pub returns-in-Err-clause-bad : goal.returns-in-Err-clause-bad
returns-in-Err-clause-bad c = λ cause h.
    let member = c.in-Some.ensures.some in
    let key = c.in-Some-next_name.ensures.some in
    get_no_bookmarks c.args.cluster (words_in c.args.rest) c.in-Some.member c.in-Some-next_name.key.now
    (words_in c.in-Some-next_name.rest) cause (omega (arith, member.0)) key.0
    (member.1 ∙ ap (λ l. decimal c.in-Some.member ∷ l) key.1)
    (c.in-Err.ensures.bad cause (err_again c.in-Err.error _ h))
