use Rattle.std.proofs.Common.{◌≡◌, length}
use Rattle.std.specs.List.{list_all}
use Rattle.ncc_replay.specs.Line.{is_bookmark_word}
use Rattle.ncc_replay.specs.Reading.{words_in}
use Rattle.ncc_replay.proofs.line.are_bookmark_words.Given as goal

-- the words so far have the form
abbrev pub invariant-loop-rest : goal.invariant-loop-rest
invariant-loop-rest l = list_all is_bookmark_word (words_in l.rest) ≡ list_all is_bookmark_word (words_in l.fn.words)

abbrev pub decreases-loop-rest : goal.decreases-loop-rest
decreases-loop-rest l = length (words_in l.rest)
