use Rattle.std.proofs.Common.{ap, sym, ◌∙◌, ◌++◌}
use Rattle.ncc_bookmark.proofs.Texts.{err_again}
use Rattle.ncc_replay.specs.Line.{bookmark_words}
use Rattle.ncc_replay.specs.Reading.{words_in}
use Rattle.ncc_replay.proofs.Lines.{bad_bookmark}
use Rattle.ncc_replay.proofs.line.read_bookmarks.Goals as goal

pub returns-in-Err-clause-bad : goal.returns-in-Err-clause-bad
returns-in-Err-clause-bad c = λ cause h.
    let bad = c.in-Err.ensures.bad cause (err_again c.in-Err.error _ h) in
    let front = bookmark_words c.loop-rest.read in (
      bad.0,
      λ b f. bad_bookmark c.args.cluster c.loop-rest.read b c.cut.result.0.now (words_in c.cut.result.1) bad.1 f.0
          (sym f.1 ∙ (c.loop-rest.invariant.words ∙ (ap (λ r. front ++ words_in r) c.in-Some.is
          ∙ ap (λ l. front ++ l) c.cut.ensures.words))),
    )
