use Rattle.std.proofs.Common.{◌≡◌, true, take}
use Rattle.std.specs.List.{list_all}
use Rattle.ncc_driver.specs.RowText.{is_word_byte}
use Rattle.ncc_driver.proofs.rows.is_word.Given as goal

-- the bytes so far may stand in a word
abbrev pub invariant-loop-byte : goal.invariant-loop-byte
invariant-loop-byte l = list_all is_word_byte (take l.byte-index l.bytes) ≡ true
