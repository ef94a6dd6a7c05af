use Rattle.std.proofs.Common.{◌≡◌, drop}
use Rattle.ncc_log.specs.Header.{first_wrong, magic}
use Rattle.ncc_log.proofs.header.wrong_byte.Given as goal

abbrev pub invariant-loop-i : goal.invariant-loop-i
invariant-loop-i l = first_wrong magic l.bytes 0 ≡ first_wrong (drop l.i magic) (drop l.i l.bytes) l.i
