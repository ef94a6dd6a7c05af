use Rattle.std.proofs.Common.{◌≡◌, ◌++◌, take}
use Rattle.ncc_driver.specs.RowText.{hex_of}
use Rattle.ncc_driver.proofs.rows.push_hex.Given as goal

-- the digits of the bytes so far stand behind the text that was there
abbrev pub invariant-loop-byte : goal.invariant-loop-byte
invariant-loop-byte l = l.text ≡ l.initial.text ++ hex_of (take l.byte-index l.bytes)
