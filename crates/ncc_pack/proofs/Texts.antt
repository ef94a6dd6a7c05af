-- Texts that are well formed, and texts whose bytes end too early.
use Rattle.std.proofs.Common.{◌≡◌, ℕ, ◌<◌, ◌≤◌, zero, suc, cond, Bool, true, false, List, [], length, take, drop, Ok, None, refl, sym}
use Rattle.std.proofs.Common.{◌∙◌, arith}
use Rattle.std.specs.Prelude.{IsUtf8, is_some}
use Rattle.std.specs.Str.{is_utf8}
use Rattle.std.specs.Str.Lossy.{utf8_valid_len, utf8_error_len, valid_len_up_to}
use Rattle.std.proofs.lemmas.Str.{utf8_valid_len-IsUtf8, IsUtf8-from_is_utf8, IsUtf8-nil}
use Rattle.std.proofs.lemmas.List.{drop_all, length-take}
use Rattle.std.proofs.Math.Seq.{take-length}
use Rattle.ncc_pack.specs.Reading.{text_at}

stays : (b : Bool) (x y : ℕ) → cond b x y ≡ x → y < x → b ≡ true
stays true x y e lt = refl
stays false x y e lt = absurd (omega arith)

pub no_error : utf8_error_len [] ≡ None
unfolding utf8_error_len
no_error = refl

pub all_well : (bytes : List ℕ) → IsUtf8 bytes → length bytes ≡ utf8_valid_len bytes
all_well bytes h = sym (utf8_valid_len-IsUtf8 bytes h)

pub none_ill : (bytes : List ℕ) → IsUtf8 bytes → false ≡ is_some (utf8_error_len (drop (utf8_valid_len bytes) bytes))
none_ill bytes h =
    let e : drop (utf8_valid_len bytes) bytes ≡ [] = rw (utf8_valid_len-IsUtf8 bytes h) (drop_all (length bytes) bytes (omega arith)) in
    rw (e, no_error) refl

pub text_whole : (total n : ℕ) (bytes : List ℕ) → n ≤ length bytes → IsUtf8 (take n bytes)
    → text_at total n bytes ≡ Ok (take n bytes, drop n bytes)
unfolding text_at
text_whole total n bytes le h =
    let e : utf8_valid_len (take n bytes) ≡ n = utf8_valid_len-IsUtf8 (take n bytes) h ∙ omega (arith, length-take n bytes) in
    grind (arith, e)

up_to_le : (bs : List ℕ) (m : ℕ) → valid_len_up_to bs m ≤ m
up_to_le bs zero = omega arith
up_to_le bs (suc m) = let below = up_to_le bs m in grind arith

pub well_le : (bytes : List ℕ) → utf8_valid_len bytes ≤ length bytes
unfolding utf8_valid_len
well_le bytes = up_to_le bytes (length bytes)

-- a cut that stops at its start is one
whole_up_to : (bs : List ℕ) (m : ℕ) → valid_len_up_to bs m ≡ m → IsUtf8 (take m bs)
whole_up_to bs zero e = IsUtf8-nil
whole_up_to bs (suc m) e =
    let below = up_to_le bs m in
    IsUtf8-from_is_utf8 _ (stays (is_utf8 (take (suc m) bs)) (suc m) (valid_len_up_to bs m) e (omega arith))

pub is_whole : (bs : List ℕ) → utf8_valid_len bs ≡ length bs → IsUtf8 bs
unfolding utf8_valid_len
is_whole bs e = rw take-length at (whole_up_to bs (length bs) e)
