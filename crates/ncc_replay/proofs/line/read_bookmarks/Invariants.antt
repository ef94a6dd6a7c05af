use Rattle.std.proofs.Common.{◌≡◌, ◌++◌, length}
use Rattle.ncc_replay.specs.Line.{bookmark_words}
use Rattle.ncc_world.specs.Events.{AreOf}
use Rattle.ncc_replay.specs.Reading.{words_in}
use Rattle.ncc_replay.proofs.line.read_bookmarks.Given as goal

-- the words are those of the bookmarks that are read, and then those that are left
abbrev pub invariant-loop-rest : goal.invariant-loop-rest
invariant-loop-rest l = record {
  are_of : AreOf l.cluster l.read;
  words : words_in l.fn.words ≡ bookmark_words l.read ++ words_in l.rest;
}

abbrev pub decreases-loop-rest : goal.decreases-loop-rest
decreases-loop-rest l = length (words_in l.rest)
