use Rattle.std.proofs.Common.{sym, ◌∙◌}
use Rattle.ncc_replay.specs.Reading.{words_in}
use Rattle.ncc_replay.proofs.Lines.{no_words, cause_is}
use Rattle.ncc_replay.proofs.line.bookmarks.Goals as goal

pub returns-then-not-are_bookmark_words-clause-bad :
    goal.returns-then-not-are_bookmark_words-clause-bad
returns-then-not-are_bookmark_words-clause-bad c = λ cause h.
    no_words c.args.cluster (words_in c.args.words) cause (sym c.are_bookmark_words.ensures ∙ c.if-not-are_bookmark_words.true)
    (cause_is _ cause h)
