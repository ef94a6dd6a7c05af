use Rattle.std.proofs.Common.{◌∷◌, ap, ◌∙◌, arith, decimal}
use Rattle.ncc_bookmark.proofs.Texts.{err_again}
use Rattle.ncc_replay.specs.Reading.{words_in}
use Rattle.ncc_replay.proofs.Lines.{put_no_bookmarks}
use Rattle.ncc_replay.proofs.line.put.Goals as goal

pub returns-in-Err-clause-bad : goal.returns-in-Err-clause-bad
returns-in-Err-clause-bad c = λ cause h.
    let member = c.in-Some.ensures.some in
    let key = c.in-Some-next_name.ensures.some in
    let value = c.in-Some-next_name-2.ensures.some in
    put_no_bookmarks c.args.cluster (words_in c.args.rest) c.in-Some.member c.in-Some-next_name.key.now c.in-Some-next_name-2.value.now
    (words_in c.in-Some-next_name-2.rest) cause (omega (arith, member.0)) key.0 value.0
    (member.1 ∙ (ap (λ l. decimal c.in-Some.member ∷ l) key.1
    ∙ ap (λ l. decimal c.in-Some.member ∷ c.in-Some-next_name.key.now ∷ l) value.1))
    (c.in-Err.ensures.bad cause (err_again c.in-Err.error _ h))
