-- Which values that are made here have a spelling: laws, for the works and for the requests.
use Rattle.std.proofs.Common.{◌≡◌, ℕ, suc, ◌-◌, ◌<◌, Bool, true, false, ◌&&◌, List, [], ◌∷◌, length, refl, ap, sym, ◌∙◌, subst, arith}
use Rattle.std.specs.Prelude.{ℤ, nat_le, nat_lt}
use Rattle.std.specs.List.{list_all}
use Rattle.std.specs.Str.{IsAscii, is_utf8}
use Rattle.std.proofs.lemmas.Str.{is_utf8-from_IsUtf8, IsUtf8-from_ascii}
use Rattle.std.proofs.lemmas.Str.Ascii.{IsAscii-nil, IsAscii-cons}
use Rattle.ncc_pack.specs.declared.value.Value.{Value, roll-Value, out-Value, roll-out-Value}
use Rattle.ncc_pack.specs.declared.value.Value.TheOpen.{Value-F}
use Rattle.ncc_pack.specs.declared.value.Value.TheVariants as v
use Rattle.ncc_pack.specs.declared.value.NodeValue.{NodeValue}
use Rattle.ncc_pack.specs.Limits.{max_size}
use Rattle.ncc_pack.specs.Keys.{distinct}
use Rattle.ncc_pack.specs.Fits.{Fit, fits, fits_text, fits_i64, fits_within}
use Rattle.ncc_pack.proofs.Loops.{fit_of}
use Rattle.ncc_pack.proofs.Fitting.{dict_more, list_more}
use Rattle.ncc_pack.proofs.Single.{fits_of_text}
use Rattle.ncc_driver.specs.Config.{text_has_spelling, texts_fit}

-- ---- texts, numbers, lists and dictionaries where so many levels are left

pub text_within : (t : List ℕ) (d : ℕ) → fits_text t ≡ true → fits_within (v.Text t) d ≡ true
text_within t d h = ap (λ (f : Fit). f.levels d) (fit_of (v.Text t) (Value-F.Text t) (v.rolls-Text t)) ∙ h

pub number_within : (z : ℤ) (d : ℕ) → fits_i64 z ≡ true → fits_within (v.Int z) d ≡ true
number_within z d h = ap (λ (f : Fit). f.levels d) (fit_of (v.Int z) (Value-F.Int z) (v.rolls-Int z)) ∙ h

pub list_within : (xs : List Value) (d : ℕ) → 0 < d
    → fits_within (v.List xs) d ≡ (nat_le (length xs) max_size && list_all (λ x. fits_within x (d - 1)) xs)
list_within xs d lt = ap (λ (f : Fit). f.levels d) (fit_of (v.List xs) (Value-F.List xs) (v.rolls-List xs)) ∙ list_more xs d lt

pub dict_within : (ps : List (List ℕ × Value)) (d : ℕ) → 0 < d → fits_within (v.Dict ps) d
    ≡ (nat_le (length ps) max_size && list_all (λ p. fits_text p.0 && fits_within p.1 (d - 1)) ps && distinct [] ps)
dict_within ps d lt = ap (λ (f : Fit). f.levels d) (fit_of (v.Dict ps) (Value-F.Dict ps) (v.rolls-Dict ps)) ∙ dict_more ps d lt

pub text_alone : (t : List ℕ) → fits (v.Text t) ≡ true → fits_text t ≡ true
text_alone t h = sym (fits_of_text t) ∙ h

-- ---- texts that are written in a program

abbrev plain : List ℕ → Bool
plain [] = true
plain (b ∷ bs) = nat_lt b 128 && plain bs

plain_ascii : (bs : List ℕ) → plain bs ≡ true → IsAscii bs
plain_ascii [] h = IsAscii-nil
plain_ascii (b ∷ bs) h =
    let small : b < 128 = grind arith in
    let rest : plain bs ≡ true = grind arith in
    IsAscii-cons b bs small (plain_ascii bs rest)

utf8 : (t : List ℕ) → plain t ≡ true → is_utf8 t ≡ true
utf8 t h = is_utf8-from_IsUtf8 t (IsUtf8-from_ascii t (plain_ascii t h))

abbrev pub short_plain : List ℕ → Bool
short_plain t = plain t && nat_le (length t) max_size

pub literal : (t : List ℕ) → short_plain t ≡ true → fits_text t ≡ true
literal t h =
    let small : nat_le (length t) max_size ≡ true = grind arith in
    let low : plain t ≡ true = grind arith in
    rw (small, utf8 t low) refl

pub literal_alone : (t : List ℕ) → short_plain t ≡ true → fits (v.Text t) ≡ true
literal_alone t h = fits_of_text t ∙ literal t h

-- ---- pairs whose keys are written in a program

abbrev pub all_fit : List (List ℕ × Value) → ℕ → Bool
all_fit ps d = list_all (λ p. fits_text p.0 && fits_within p.1 d) ps

pub pair_on : (key : List ℕ) (x : Value) (ps : List (List ℕ × Value)) (d : ℕ) → short_plain key ≡ true → fits_within x d ≡ true
    → all_fit ps d ≡ true → all_fit ((key, x) ∷ ps) d ≡ true
pair_on key x ps d h f g = rw (literal key h, f, g) refl

pub dict_by : (ps : List (List ℕ × Value)) (d : ℕ) → nat_le (length ps) max_size ≡ true → all_fit ps d ≡ true → distinct [] ps ≡ true
    → fits_within (v.Dict ps) (suc d) ≡ true
dict_by ps d few all new =
    let e : suc d - 1 ≡ d = omega arith in
    dict_within ps (suc d) (omega arith) ∙ rw (e, few, all, new) refl

pub text_on : (key t : List ℕ) (ps : List (List ℕ × Value)) (d : ℕ) → short_plain key ≡ true → fits_text t ≡ true → all_fit ps d ≡ true
    → all_fit ((key, v.Text t) ∷ ps) d ≡ true
text_on key t ps d h f g = pair_on key (v.Text t) ps d h (text_within t d f) g

pub none_fits : fits (v.Dict []) ≡ true
none_fits = dict_by [] 31 refl refl refl

-- ---- a text that fits, among values

-- Where it fits as a text, it fits wherever it stands.
abbrev Within : ℕ → Value → Type 0
Within d x = text_has_spelling x ≡ true → fits_within x d ≡ true

no_text : (x y : Value) (d : ℕ) → y ≡ x → text_has_spelling x ≡ false → Within d y
no_text x y d is h = subst (Within d) (sym is) (λ e. let f : false ≡ true = sym h ∙ e in absurd (cc))

text_by : (l : Value-F Value NodeValue) (d : ℕ) → Within d (roll-Value l)
unfolding text_has_spelling
text_by (Value-F.Text t) d = subst (Within d) (sym (v.rolls-Text t)) (λ h. text_within t d (text_alone t h))
text_by Value-F.Null d = no_text v.Null (roll-Value Value-F.Null) d v.rolls-Null refl
text_by (Value-F.Bool b) d = no_text (v.Bool b) (roll-Value (Value-F.Bool b)) d (v.rolls-Bool b) refl
text_by (Value-F.Int z) d = no_text (v.Int z) (roll-Value (Value-F.Int z)) d (v.rolls-Int z) refl
text_by (Value-F.Bytes b) d = no_text (v.Bytes b) (roll-Value (Value-F.Bytes b)) d (v.rolls-Bytes b) refl
text_by (Value-F.List xs) d = no_text (v.List xs) (roll-Value (Value-F.List xs)) d (v.rolls-List xs) refl
text_by (Value-F.Dict ps) d = no_text (v.Dict ps) (roll-Value (Value-F.Dict ps)) d (v.rolls-Dict ps) refl
text_by (Value-F.Node n) d = no_text (v.Node n) (roll-Value (Value-F.Node n)) d (v.rolls-Node n) refl

spelled_within : (x : Value) (d : ℕ) → Within d x
spelled_within x d = subst (Within d) (roll-out-Value x) (text_by (out-Value x) d)

pub texts_within : (xs : List Value) (d : ℕ) → texts_fit xs ≡ true → list_all (λ x. fits_within x d) xs ≡ true
texts_within [] d h = refl
texts_within (x ∷ xs) d h =
    let head : text_has_spelling x ≡ true = grind arith in
    let tail : texts_fit xs ≡ true = grind arith in
    rw (spelled_within x d head, texts_within xs d tail) refl
