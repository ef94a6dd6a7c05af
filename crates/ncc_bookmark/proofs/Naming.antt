-- The point that a text names.
use Rattle.std.proofs.Common.{◌≡◌, ◌≢◌, ℕ, ◌<◌, ◌^◌, ◌&&◌, Bool, true, false, cond, List, take, drop, Option, Some, None, Ok, Err}
use Rattle.std.proofs.Common.{refl, sym, ap, subst}
use Rattle.std.proofs.Common.{◌∙◌, inl, inr, MatchBool, arith}
use Rattle.std.specs.Prelude.{nat_lt, bytes_eq, ◌==◌}
use Rattle.std.specs.Cmp.Lexicographic.{told_text}
use Rattle.std.specs.Int.{w64, from_be_bytes}
use Rattle.std.proofs.lemmas.Bool.{eq-eqb}
use Rattle.std.proofs.lemmas.Bool.Decides.{nat_tests}
use Rattle.std.proofs.lemmas.Nat.{from_be_bytes-to_be_bytes_8}
use Rattle.std.specs.declared.result.Result.{Result}
use Rattle.base64.specs.declared.decode.DecodeError.{DecodeError}
use Rattle.base64.specs.Engines.{standard}
use Rattle.base64.specs.GeneralPurpose.{decode_of, encode_of}
use Rattle.ncc_bookmark.specs.Point.{Point, Fits}
use Rattle.ncc_bookmark.specs.Spelling.{payload, text_of}
use Rattle.ncc_bookmark.specs.Texts.{IsNoText, GivesOrMemory}
use Rattle.ncc_bookmark.specs.Reading.{point_in, is_text_of, point_by, point_named, reading_of, reading_for}
use Rattle.ncc_bookmark.specs.declared.bookmark.BookmarkError.{BookmarkError}
use Rattle.ncc_bookmark.specs.declared.bookmark.BookmarkError.TheVariants.{BadForm, OtherCluster, Memory}
use Rattle.ncc_bookmark.proofs.Texts.{back-text_of, decoded, point_same}

within_64 : (n : ℕ) → nat_lt n (2 ^ 64) ≡ true → n < 2 ^ 64
within_64 n e = grind (arith, nat_tests)

is_within_64 : (n : ℕ) → n < 2 ^ 64 → nat_lt n (2 ^ 64) ≡ true
is_within_64 n h = grind (arith, nat_tests)

same_text : (b : Bool) (xs ys : List ℕ) → MatchBool b (xs ≡ ys) (xs ≢ ys) → b ≡ true → xs ≡ ys
same_text true xs ys m e = m
same_text false xs ys m e = absurd (cc)

is_same_text : (b : Bool) (xs ys : List ℕ) → MatchBool b (xs ≡ ys) (xs ≢ ys) → xs ≡ ys → b ≡ true
is_same_text true xs ys m e = refl
is_same_text false xs ys m e = absurd (m e)

all_true : (a b c : Bool) → (a && b) && c ≡ true → (a ≡ true) × (b ≡ true) × (c ≡ true)
all_true true true true e = (refl, refl, refl)
all_true true true false e = absurd (cc)
all_true true false c e = absurd (cc)
all_true false b c e = absurd (cc)

pub text_told : (p : Point) (text : List ℕ) → is_text_of p text ≡ true → Fits p × (text ≡ text_of p)
text_told p text e =
    let all = all_true (nat_lt p.cluster (2 ^ 64)) (nat_lt p.place (2 ^ 64)) (bytes_eq (text_of p) text) e in (
      record { cluster = within_64 p.cluster all.0; place = within_64 p.place all.1 },
      sym (same_text (bytes_eq (text_of p) text) (text_of p) text (told_text (text_of p) text (bytes_eq (text_of p) text) refl) all.2),
    )

tell_text : (p : Point) (text : List ℕ) → Fits p → text ≡ text_of p → is_text_of p text ≡ true
tell_text p text f e =
    let t = is_same_text (bytes_eq (text_of p) text) (text_of p) text (told_text (text_of p) text (bytes_eq (text_of p) text) refl)
    (sym e) in
    rw (is_within_64 p.cluster f.cluster, is_within_64 p.place f.place, t) refl

-- the numbers of a payload are read back
point_back : (p : Point) → Fits p → point_in (payload p) ≡ p
unfolding payload
point_back p f =
    point_same (point_in (payload p)) p (from_be_bytes-to_be_bytes_8 p.cluster f.cluster) (from_be_bytes-to_be_bytes_8 p.place f.place)

at_ok : (text bytes : List ℕ) → decode_of standard (drop 4 text) ≡ Ok bytes
    → point_named text ≡ cond (is_text_of (point_in bytes) text) (Some (point_in bytes)) None
unfolding point_named
at_ok text bytes e = ap (λ r. point_by r text) e

at_err : (text : List ℕ) (x : DecodeError) → decode_of standard (drop 4 text) ≡ Err x → point_named text ≡ None
unfolding point_named
at_err text x e = ap (λ r. point_by r text) e

chosen : (b : Bool) (p q : Point) → cond b (Some p) None ≡ Some q → (b ≡ true) × (p ≡ q)
chosen true p q e = (refl, cc)
chosen false p q e = absurd (cc)

pub point_of_spelled : (text : List ℕ) (p : Point) → Fits p → text ≡ text_of p → point_named text ≡ Some p
point_of_spelled text p f e =
    let bytes : decode_of standard (drop 4 text) ≡ Ok (payload p) = ap (λ t. decode_of standard (drop 4 t)) e
    ∙ ap (decode_of standard) (back-text_of p) ∙ decoded p in
    let back = point_back p f in
    at_ok text (payload p) bytes
    ∙ ap (λ q. cond (is_text_of q text) (Some q) None) back
    ∙ ap (λ b. cond b (Some p) None) (tell_text p text f e)

named_point_by : (text : List ℕ) (p : Point) (r : Result (List ℕ) DecodeError) → decode_of standard (drop 4 text) ≡ r →
    point_named text ≡ Some p → Fits p × (text ≡ text_of p)
named_point_by text p (Ok bytes) e h =
    let c = chosen (is_text_of (point_in bytes) text) (point_in bytes) p (sym (at_ok text bytes e) ∙ h) in
    subst (λ (q : Point). Fits q × (text ≡ text_of q)) c.1 (text_told (point_in bytes) text c.0)
named_point_by text p (Err x) e h = let k : None ≡ Some p = sym (at_err text x e) ∙ h in absurd (cc)

pub named_point : (text : List ℕ) (p : Point) → point_named text ≡ Some p → Fits p × (text ≡ text_of p)
named_point text p h = named_point_by text p (decode_of standard (drop 4 text)) refl h

none_by : (text : List ℕ) (o : Option Point) → point_named text ≡ o → IsNoText text → point_named text ≡ None
none_by text None e n = e
none_by text (Some p) e n = let k = named_point text p e in absurd (n p k.0 k.1)

-- what the text gives, by its spelling
pub reads_none : (text : List ℕ) (cluster : ℕ) → IsNoText text → reading_of text cluster ≡ Err BadForm
reads_none text cluster n = ap (reading_for cluster) (none_by text (point_named text) refl n)

pub reads_same : (text : List ℕ) (cluster : ℕ) (p : Point) → Fits p → text ≡ text_of p → p.cluster ≡ cluster
    → reading_of text cluster ≡ Ok p
reads_same text cluster p f e h =
    ap (reading_for cluster) (point_of_spelled text p f e)
    ∙ ap (λ b. cond b (Ok p) (Err (OtherCluster p.cluster))) (eq-eqb p.cluster cluster h)

pub reads_other : (text : List ℕ) (cluster : ℕ) (p : Point) → Fits p → text ≡ text_of p → p.cluster ≢ cluster
    → reading_of text cluster ≡ Err (OtherCluster p.cluster)
reads_other text cluster p f e h =
    ap (reading_for cluster) (point_of_spelled text p f e)
    ∙ ap (λ b. cond b (Ok p) (Err (OtherCluster p.cluster))) (not_same p.cluster cluster h)
  where
    not_same : (m n : ℕ) → m ≢ n → (m == n) ≡ false
    not_same m n k = grind (arith, nat_tests)

-- an error of a text's parts is that of the text
pub error_read : (e : BookmarkError) (text : List ℕ) (cluster : ℕ) → (e ≡ BadForm → IsNoText text) → ((id : ℕ) → e ≡ OtherCluster id → ⊥)
    → GivesOrMemory (Err e) (reading_of text cluster)
error_read BadForm text cluster bad other = inl (sym (reads_none text cluster (bad refl)))
error_read (OtherCluster id) text cluster bad other = absurd (other id refl)
error_read Memory text cluster bad other = inr refl
