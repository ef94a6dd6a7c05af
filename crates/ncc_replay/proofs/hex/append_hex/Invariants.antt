use Rattle.std.proofs.Common.{◌≡◌, ◌++◌, drop}
use Rattle.ncc_replay.specs.Line.{hex}
use Rattle.ncc_replay.proofs.hex.append_hex.Given as goal

-- what is written so far and the bytes that are left
abbrev pub invariant-loop-byte : goal.invariant-loop-byte
invariant-loop-byte l = l.into ++ hex (drop l.byte-index l.bytes) ≡ l.initial.into ++ hex l.bytes
