-- Numbers that may be below 0, as words.
use Rattle.std.proofs.Common.{◌≡◌, ℕ, suc, ℤ, pos, negsuc, ◌<◌, ◌^◌, ◌==◌, true, false, List, refl, sym, arith, subst}
use Rattle.std.proofs.Common.{decimal}
use Rattle.std.specs.Int.Signed.{mag}
use Rattle.std.specs.Str.{IsUtf8}
use Rattle.std.proofs.lemmas.Bool.{ltb-true}
use Rattle.std.proofs.lemmas.Fmt.{signed_decimal_injective, IsAscii-signed}
use Rattle.std.proofs.lemmas.List.Elements.{All-cons}
use Rattle.std.proofs.lemmas.Str.{IsUtf8-from_ascii}
use Rattle.ncc_pack.specs.Fits.{fits_i64}
use Rattle.ncc_replay.specs.Line.{signed_text}
use Rattle.ncc_replay.proofs.Words.{NoSpace, decimal_no_space}

-- of 64 bits
pub mag_below : (n : ℤ) → fits_i64 n ≡ true → mag n < 2 ^ 63
mag_below (pos n) h = ltb-true n 0x8000_0000_0000_0000 h
mag_below (negsuc n) h = ltb-true n 0x8000_0000_0000_0000 h

pub signed_no_space : (n : ℤ) → fits_i64 n ≡ true → NoSpace (signed_text n)
signed_no_space (pos n) h = decimal_no_space n (let k = mag_below (pos n) h in omega arith)
signed_no_space (negsuc n) h =
    All-cons (λ b. (b == 32) ≡ false) 45 (decimal (suc n)) refl (decimal_no_space (suc n) (let k = mag_below (negsuc n) h in omega arith))

pub signed_injective : (m n : ℤ) → fits_i64 m ≡ true → fits_i64 n ≡ true → signed_text m ≡ signed_text n → m ≡ n
signed_injective m n f g e = signed_decimal_injective m n (mag_below m f) (mag_below n g) e

pub signed_utf8 : (n : ℤ) (w : List ℕ) → mag n < 2 ^ 63 → w ≡ signed_text n → IsUtf8 w
signed_utf8 n w h e = subst IsUtf8 (sym e) (IsUtf8-from_ascii (signed_text n) (IsAscii-signed n h))
