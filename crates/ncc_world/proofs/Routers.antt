-- A session's routers have a spelling, so its configuration fits.
use Rattle.std.proofs.Common.{◌≡◌, ℕ, zero, suc, ◌+◌, ◌<◌, ◌≤◌, ◌^◌, Bool, true, ◌&&◌, not, List, [], ◌++◌, length, codes, IsTrue}
use Rattle.std.proofs.Common.{refl, ap, ◌∙◌, arith, length-append}
use Rattle.std.specs.Prelude.{decimal, ◌==◌}
use Rattle.std.specs.Str.{IsUtf8}
use Rattle.std.proofs.lemmas.Bool.{le-leb}
use Rattle.std.proofs.lemmas.Fmt.{IsAscii-decimal, length-decimal-le}
use Rattle.std.proofs.lemmas.Str.{is_utf8-from_IsUtf8, IsUtf8-append, IsUtf8-from_ascii, IsUtf8-from_is_utf8}
use Rattle.ncc_pack.specs.declared.value.Value.{Value}
use Rattle.ncc_pack.specs.Fits.{fits_text}
use Rattle.ncc_pack.specs.Limits.{max_size}
use Rattle.ncc_pack.proofs.Single.{fits_of_text}
use Rattle.ncc_session.proofs.Spellable.{utf8}
use Rattle.ncc_route.specs.declared.auth.Auth.TheVariants.{Nobody}
use Rattle.ncc_driver.specs.Config.{config_fits, text_has_spelling, texts_fit}
use Rattle.ncc_clients.specs.Members.{address, addresses}
use Rattle.ncc_world.specs.declared.setup.Setup.{Setup}
use Rattle.ncc_world.specs.Setting.{IsSetup}
use Rattle.ncc_world.specs.Happening.{config_of}
use Rattle.ncc_world.proofs.Rooms.{eq_no}

name_of : ℕ → List ℕ
name_of member = codes "n" ++ decimal member ++ codes ":7687"

name_fits : (member : ℕ) → member < 2 ^ 64 → fits_text (name_of member) ≡ true
unfolding name_of
name_fits member h =
    let few : length (decimal member) ≤ 20 = length-decimal-le 20 member (omega arith) (omega (arith, h)) h in
    let behind : List ℕ = decimal member ++ codes ":7687" in
    let small : length (codes "n" ++ behind) ≤ max_size =
    omega (arith, few, length-append (codes "n") behind, length-append (decimal member) (codes ":7687")) in
    let front : IsUtf8 (codes "n") = IsUtf8-from_is_utf8 (codes "n") (utf8 (codes "n") refl) in
    let number : IsUtf8 (decimal member) = IsUtf8-from_ascii (decimal member) (IsAscii-decimal member h) in
    let port : IsUtf8 (codes ":7687") = IsUtf8-from_is_utf8 (codes ":7687") (utf8 (codes ":7687") refl) in
    let text : IsUtf8 (codes "n" ++ behind) =
    IsUtf8-append (codes "n") behind front (IsUtf8-append (decimal member) (codes ":7687") number port) in
    rw (le-leb (length (codes "n" ++ behind)) max_size small, is_utf8-from_IsUtf8 (codes "n" ++ behind) text) refl

address_fits : (member : ℕ) → member < 2 ^ 64 → text_has_spelling (address member) ≡ true
unfolding text_has_spelling name_of
address_fits member h = fits_of_text (name_of member) ∙ name_fits member h

routers_fit : (count first : ℕ) → first + count < 2 ^ 64 → texts_fit (addresses count first) ≡ true
unfolding addresses
routers_fit zero first h = refl
routers_fit (suc n) first h =
    ap (λ (b : Bool). b && texts_fit (addresses n (first + 1))) (address_fits first (omega (arith, h)))
    ∙ routers_fit n (first + 1) (omega (arith, h))

some_routers : (count first : ℕ) → 1 ≤ count → not (length (addresses count first) == 0) ≡ true
unfolding addresses
some_routers zero first h = absurd (omega (arith, h))
some_routers (suc n) first h =
    ap (λ (b : Bool). not b) (eq_no (suc (length (addresses n (first + 1)))) 0 (λ e. absurd (omega (arith, e))))

pub session_fits : (s : Setup) (seed : ℕ) → IsSetup s → IsTrue (config_fits (config_of s seed))
session_fits s seed k =
    rw (some_routers s.cores 1 k.cores.0, routers_fit s.cores 1 (omega (arith, k.cores.1))) refl

-- what a session is made of
pub config_is : (s : Setup) (seed : ℕ) (routers bookmarks : List Value) → routers ≡ addresses s.cores 1 → bookmarks ≡ []
    → record { routers = routers; auth = Nobody; seed = seed; bookmarks = bookmarks } ≡ config_of s seed
config_is s seed routers bookmarks r b =
    ap (λ (x : List Value). record { routers = x; auth = Nobody; seed = seed; bookmarks = bookmarks }) r
    ∙ ap (λ (x : List Value). record { routers = addresses s.cores 1; auth = Nobody; seed = seed; bookmarks = x }) b
