use Rattle.std.proofs.Common.{◌≡◌, true, take}
use Rattle.std.specs.List.{list_all, All}
use Rattle.ncc_client.specs.Words as w
use Rattle.ncc_client.proofs.words.are_short.Given as goal

abbrev pub invariant-loop-word : goal.invariant-loop-word
invariant-loop-word l = record {
  short : list_all w.is_short (take l.word-index l.fn.words) ≡ true;
  fit : All w.fits_text (take l.word-index l.fn.words);
}
