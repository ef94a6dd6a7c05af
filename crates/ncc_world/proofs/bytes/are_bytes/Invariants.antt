use Rattle.std.proofs.Common.{take}
use Rattle.ncc_driver.specs.LawsFits.{AreBytes}
use Rattle.ncc_world.proofs.bytes.are_bytes.Given as goal

-- the ones so far are bytes
abbrev pub invariant-loop-byte : goal.invariant-loop-byte
invariant-loop-byte l = AreBytes (take l.byte-index l.bytes)
