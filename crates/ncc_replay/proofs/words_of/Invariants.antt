use Rattle.std.proofs.Common.{◌≡◌, ◌++◌, drop, map}
use Rattle.std.specs.String.{string_bytes}
use Rattle.ncc_replay.proofs.words_of.Given as goal

-- the words so far and the texts that are left
abbrev pub invariant-loop-text : goal.invariant-loop-text
invariant-loop-text l = l.words ++ map string_bytes (drop l.text-index l.texts) ≡ map string_bytes l.texts
