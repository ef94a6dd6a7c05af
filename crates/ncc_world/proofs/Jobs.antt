-- What works are given has a spelling, or 64 bits.
use mir.Val.{SFits}
use Rattle.std.proofs.Common.{◌≡◌, ◌∙◌, ◌<◌, ◌^◌, ℕ, suc, ℤ, pos, negsuc, true, List, IsTrue, w64, arith}
use Rattle.std.proofs.lemmas.Bool.{leb-true}
use Rattle.ncc_pack.specs.declared.value.Value.TheVariants as v
use Rattle.ncc_pack.specs.Fits.{fits, fits_i64}
use Rattle.ncc_pack.proofs.Single.{fits_of_text}
use Rattle.ncc_world.specs.Events.{is_word}
use Rattle.ncc_world.proofs.Sending.{word_fits}

pub word_spelled : (word : List ℕ) → is_word word ≡ true → IsTrue (fits (v.Text word))
word_spelled word h = fits_of_text word ∙ word_fits word h

pub has_bits : (z : ℤ) → fits_i64 z ≡ true → SFits w64 z
has_bits (pos n) h = let l : n < 2 ^ 63 = omega (arith, leb-true (suc n) 0x8000_0000_0000_0000 h) in record { sfits = l }
has_bits (negsuc n) h = let l : n < 2 ^ 63 = omega (arith, leb-true (suc n) 0x8000_0000_0000_0000 h) in record { sfits = l }
