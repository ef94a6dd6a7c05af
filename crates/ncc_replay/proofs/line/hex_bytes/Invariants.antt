use Rattle.std.proofs.Common.{◌≡◌, ◌++◌, ◌<◌, ◌^◌, All, length}
use Rattle.ncc_replay.specs.Line.{hex}
use Rattle.ncc_replay.proofs.line.hex_bytes.Given as goal

-- the word is the digits of the bytes that are read, and then those that are left
abbrev pub invariant-loop-rest : goal.invariant-loop-rest
invariant-loop-rest l = record {
  are_bytes : All (λ b. b < 2 ^ 8) l.bytes;
  word : l.word ≡ hex l.bytes ++ l.rest;
}

abbrev pub decreases-loop-rest : goal.decreases-loop-rest
decreases-loop-rest l = length l.rest
