-- What `put` and `get` send has a spelling.
use Rattle.std.proofs.Common.{◌≡◌, ℕ, ◌<◌, ◌≤◌, Bool, true, false, ◌&&◌, List, [], ◌∷◌, length, map, negsuc, codes}
use Rattle.std.proofs.Common.{refl, ap, ◌∙◌, arith, IsTrue}
use Rattle.std.specs.Prelude.{nat_le}
use Rattle.std.specs.List.{list_all}
use Rattle.std.specs.Str.{IsAscii, IsUtf8, is_utf8}
use Rattle.std.proofs.lemmas.Bool.{le-leb, leb-true}
use Rattle.std.proofs.lemmas.Bool.Decides.{nat_tests}
use Rattle.std.proofs.lemmas.List.{length-map}
use Rattle.std.proofs.lemmas.Str.{is_utf8-from_IsUtf8, IsUtf8-from_ascii, IsUtf8-from_is_utf8, IsUtf8-append}
use Rattle.std.proofs.lemmas.Str.Ascii.{IsAscii-nil, IsAscii-cons}
use Rattle.base64.specs.Engines.{standard}
use Rattle.base64.specs.GeneralPurpose.{encode_of}
use Rattle.base64.proofs.EngineFacts.{IsAscii-encode_of}
use Rattle.ncc_pack.specs.declared.value.Value.{Value}
use Rattle.ncc_pack.specs.declared.value.Value.TheOpen.{Value-F}
use Rattle.ncc_pack.specs.declared.value.Value.TheVariants as v
use Rattle.ncc_pack.specs.Limits.{max_size}
use Rattle.ncc_pack.specs.Keys.{distinct}
use Rattle.ncc_pack.specs.Fits.{Fit, fits, fits_text, fits_within}
use Rattle.ncc_pack.proofs.Loops.{fit_of}
use Rattle.ncc_bolt.specs.Fields.{Pairs}
use Rattle.ncc_bolt.specs.Writing.{fits_request}
use Rattle.ncc_bookmark.specs.Point.{Point}
use Rattle.ncc_bookmark.specs.Spelling.{payload, text_of}
use Rattle.ncc_bookmark.proofs.Texts.{length-text_of}
use Rattle.ncc_session.proofs.Spellable.{text_within, list_within, dict_within, literal, utf8}
use Rattle.ncc_world.specs.Events.{AreFew, is_word, is_word_byte}
use Rattle.ncc_world.specs.Requests.{bookmarks_at, get_request, get_source, pull, put_request, put_source, text_at}

-- ---- words

low : (b : ℕ) → is_word_byte b ≡ true → b < 128
low b h = grind (arith, nat_tests)

ascii : (w : List ℕ) → list_all is_word_byte w ≡ true → IsAscii w
ascii [] h = IsAscii-nil
ascii (b ∷ bs) h =
    let one : is_word_byte b ≡ true = grind arith in
    let rest : list_all is_word_byte bs ≡ true = grind arith in
    IsAscii-cons b bs (low b one) (ascii bs rest)

-- what makes a word
record Parts (w : List ℕ) : Type 0 where
  few : nat_le (length w) 64 ≡ true
  all : list_all is_word_byte w ≡ true

parts_by : (a b c : Bool) → a && b && c ≡ true → (b ≡ true) × (c ≡ true)
parts_by true true true h = (refl, refl)
parts_by true true false h = absurd (cc)
parts_by true false c h = absurd (cc)
parts_by false b c h = absurd (cc)

parts : (w : List ℕ) → is_word w ≡ true → Parts w
parts w h =
    let p = parts_by (nat_le 1 (length w)) (nat_le (length w) 64) (list_all is_word_byte w) h in
    record { few = p.0; all = p.1 }

pub word_fits : (w : List ℕ) → is_word w ≡ true → fits_text w ≡ true
word_fits w h =
    let p : Parts w = parts w h in
    let few : length w ≤ 64 = leb-true (length w) 64 p.few in
    let small : nat_le (length w) max_size ≡ true = le-leb (length w) max_size (omega (arith, few)) in
    let text : is_utf8 w ≡ true = is_utf8-from_IsUtf8 w (IsUtf8-from_ascii w (ascii w p.all)) in
    rw (small, text) refl

-- ---- bookmarks

bookmark_fits : (point : Point) → fits_text (text_of point) ≡ true
unfolding text_of
bookmark_fits point =
    let le : length (text_of point) ≤ max_size = omega (arith, length-text_of point) in
    let front : IsUtf8 (codes "ncc:") = IsUtf8-from_is_utf8 (codes "ncc:") (utf8 (codes "ncc:") refl) in
    let back : IsUtf8 (encode_of standard (payload point)) = IsUtf8-from_ascii (encode_of standard (payload point)) (IsAscii-encode_of standard (payload point)) in
    rw (le-leb (length (text_of point)) max_size le, is_utf8-from_IsUtf8 (text_of point) (IsUtf8-append (codes "ncc:") (encode_of standard (payload point)) front back)) refl

bookmarks_fit : (bookmarks : List Point) (d : ℕ) → list_all (λ x. fits_within x d) (map (λ b. v.Text (text_of b)) bookmarks) ≡ true
bookmarks_fit [] d = refl
bookmarks_fit (b ∷ bs) d = rw (text_within (text_of b) d (bookmark_fits b), bookmarks_fit bs d) refl

list_fits : (bookmarks : List Point) → AreFew bookmarks → fits_within (v.List (map (λ b. v.Text (text_of b)) bookmarks)) 31 ≡ true
list_fits bookmarks few =
    let texts : List Value = map (λ b. v.Text (text_of b)) bookmarks in
    let long : length texts ≡ length bookmarks = length-map bookmarks (λ b. v.Text (text_of b)) in
    let small : nat_le (length texts) max_size ≡ true = le-leb (length texts) max_size (omega (arith, few, long)) in
    list_within texts 31 (omega arith) ∙ rw (small, bookmarks_fit bookmarks 30) refl

-- ---- dictionaries

abbrev all_fit : Pairs → Bool
all_fit ps = list_all (λ p. fits_text p.0 && fits_within p.1 31) ps

dict_by : (ps : Pairs) → nat_le (length ps) max_size ≡ true → all_fit ps ≡ true → distinct [] ps ≡ true → fits (v.Dict ps) ≡ true
dict_by ps few all new = dict_within ps 32 (omega arith) ∙ rw (few, all, new) refl

pair_on : (key : List ℕ) (x : Value) (ps : Pairs) → fits_text key ≡ true → fits_within x 31 ≡ true → all_fit ps ≡ true
    → all_fit ((key, x) ∷ ps) ≡ true
pair_on key x ps h f g = rw (h, f, g) refl

key_fits : (w : List ℕ) (ps : Pairs) → is_word w ≡ true → all_fit ps ≡ true → all_fit (text_at (codes "k") w ∷ ps) ≡ true
key_fits w ps h g = pair_on (codes "k") (v.Text w) ps (literal (codes "k") refl) (text_within w 31 (word_fits w h)) g

value_fits : (w : List ℕ) (ps : Pairs) → is_word w ≡ true → all_fit ps ≡ true → all_fit (text_at (codes "v") w ∷ ps) ≡ true
value_fits w ps h g = pair_on (codes "v") (v.Text w) ps (literal (codes "v") refl) (text_within w 31 (word_fits w h)) g

extra_fits : (bookmarks : List Point) → AreFew bookmarks → fits (v.Dict (bookmarks_at bookmarks)) ≡ true
extra_fits bookmarks few =
    dict_by (bookmarks_at bookmarks) refl
    (pair_on (codes "bookmarks") (v.List (map (λ b. v.Text (text_of b)) bookmarks)) [] (literal (codes "bookmarks") refl) (list_fits bookmarks few) refl) refl

source_fits : (t : List ℕ) → fits_text t ≡ true → fits (v.Text t) ≡ true
source_fits t h = text_within t 32 h

-- ---- requests

pub put_fits : (key value : List ℕ) (bookmarks : List Point) → is_word key ≡ true → is_word value ≡ true → AreFew bookmarks
    → IsTrue (fits_request (put_request key value bookmarks))
put_fits key value bookmarks k w few =
    let params : Pairs = text_at (codes "k") key ∷ text_at (codes "v") value ∷ [] in
    let all : all_fit params ≡ true = key_fits key (text_at (codes "v") value ∷ []) k (value_fits value [] w refl) in
    rw (source_fits put_source (literal put_source refl), dict_by params refl all refl, extra_fits bookmarks few) refl

pub get_fits : (key : List ℕ) (bookmarks : List Point) → is_word key ≡ true → AreFew bookmarks
    → IsTrue (fits_request (get_request key bookmarks))
get_fits key bookmarks k few =
    let params : Pairs = text_at (codes "k") key ∷ [] in
    rw (source_fits get_source (literal get_source refl), dict_by params refl (key_fits key [] k refl) refl, extra_fits bookmarks few) refl

pub hello_fits : fits (v.Dict []) ≡ true
hello_fits = dict_by [] refl refl refl

pub pull_fits : IsTrue (fits_request pull)
pull_fits =
    let all = ap (λ (f : Fit). f.levels 31) (fit_of (v.Int (negsuc 0)) (Value-F.Int (negsuc 0)) (v.rolls-Int (negsuc 0))) in
    dict_by ((codes "n", v.Int (negsuc 0)) ∷ []) refl (pair_on (codes "n") (v.Int (negsuc 0)) [] (literal (codes "n") refl) all refl) refl
