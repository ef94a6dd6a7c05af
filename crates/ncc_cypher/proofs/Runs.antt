-- A text is read run by run.
use Rattle.std.proofs.Common.{◌≡◌, ℕ, suc, ◌+◌, ◌<◌, ◌≤◌, Bool, true, false, not, cond, List, [], ◌∷◌, ◌++◌, length, get_or, take, drop, Option, Some, None, refl, sym, ap, ◌∙◌, append_assoc, inl, inr, arith, eq-eqb, add-zero, ◌-◌}
use Rattle.std.specs.Prelude.{◌==◌, ◌||◌}
use Rattle.std.specs.Str.{IsUtf8, IsCharBoundary}
use Rattle.std.specs.List.{prefix_len}
use Rattle.std.proofs.lemmas.Str.{IsCharBoundary-before_ascii, IsCharBoundary-end, IsCharBoundary-at_seam}
use Rattle.std.proofs.lemmas.List.{append-nil, length-append, length-drop, get_or-drop}
use Rattle.std.proofs.lemmas.List.Sums.{prefix_len_stops, prefix_len-le-length}
use Rattle.std.proofs.lemmas.Bool.{cases_lt, eqb-true}
use Rattle.ncc_cypher.specs.Class.{escape, is_escape}
use Rattle.ncc_cypher.specs.Piece.{rest_of}
use Rattle.ncc_cypher.specs.Body.{body_at, add, is_plain, with_front, Ends}

-- ---- where a text may be cut

pub cut_before : (text end : List ℕ) → IsUtf8 end → Ends text end → IsCharBoundary text (length text - length end)
cut_before text end u e =
    let n : length text - length end ≡ length e.0 = omega (arith, ap length e.1, length-append e.0 end) in
    rw n (IsCharBoundary-at_seam text e.0 end e.1 u)

small_case : (q b : ℕ) (x y : Bool) → (b == q) ≡ x → (b == 92) ≡ y → q < 92 → not (x || y) ≡ false → b ≤ 92
small_case q b true true ex ey lt e = let i : b ≡ q = eqb-true b q ex in omega arith
small_case q b true false ex ey lt e = let i : b ≡ q = eqb-true b q ex in omega arith
small_case q b false true ex ey lt e = let i : b ≡ 92 = eqb-true b 92 ey in omega arith
small_case q b false false ex ey lt e = absurd cc

slash_case : (q b : ℕ) (x y : Bool) → (b == q) ≡ x → (b == 92) ≡ y → not (x || y) ≡ false → ¬ (b ≡ q) → b ≡ 92
slash_case q b true true ex ey e ne = absurd (ne (eqb-true b q ex))
slash_case q b true false ex ey e ne = absurd (ne (eqb-true b q ex))
slash_case q b false true ex ey e ne = eqb-true b 92 ey
slash_case q b false false ex ey e ne = absurd cc

pub small_stop : (q b : ℕ) → q < 92 → is_plain q b ≡ false → b ≤ 92
small_stop q b lt e = small_case q b (b == q) (b == 92) refl refl lt e

pub at_end : (bs : List ℕ) (n : ℕ) → n ≡ length bs → IsCharBoundary bs n
at_end bs n e = rw e (IsCharBoundary-end bs)

pub cut_plain : (q : ℕ) (bs : List ℕ) → q < 92 → IsCharBoundary bs (prefix_len (is_plain q) bs)
cut_plain q bs lt =
    elim (cases_lt (prefix_len (is_plain q) bs) (length bs)) [
      | inl short ↦ let s : get_or bs (prefix_len (is_plain q) bs) 0 ≤ 92 = small_stop q _ lt (prefix_len_stops (is_plain q) bs 0 short) in IsCharBoundary-before_ascii bs (prefix_len (is_plain q) bs) short (omega arith)
      | inr long ↦ let le : prefix_len (is_plain q) bs ≤ length bs = prefix_len-le-length (is_plain q) bs in at_end bs (prefix_len (is_plain q) bs) (omega arith)
    ]

-- ---- runs

with_none : (d : Option (List ℕ × List ℕ)) → with_front [] d ≡ d
with_none None = refl
with_none (Some r) = refl

add_front : (b : ℕ) (front : List ℕ) (d : Option (List ℕ × List ℕ)) → add b (with_front front d) ≡ with_front (b ∷ front) d
add_front b front None = refl
add_front b front (Some r) = refl

pub with_more : (a b : List ℕ) (d : Option (List ℕ × List ℕ)) → with_front a (with_front b d) ≡ with_front (a ++ b) d
with_more a b None = refl
with_more a b (Some r) = ap (λ (z : List ℕ). Some (z, r.1)) (sym (append_assoc a b r.0))

plain_is : (q b : ℕ) (bs : List ℕ) → (b == q) ≡ false → (b == 92) ≡ false → body_at q false (b ∷ bs) ≡ add b (body_at q false bs)
unfolding body_at
plain_is q b bs e f = rw (e, f) refl

add_one : (b : ℕ) (d : Option (List ℕ × List ℕ)) → add b d ≡ with_front (b ∷ []) d
add_one b None = refl
add_one b (Some r) = refl

run_step : (q b : ℕ) (bs : List ℕ) (x y : Bool) → (b == q) ≡ x → (b == 92) ≡ y → body_at q false bs ≡ with_front (take (prefix_len (is_plain q) bs) bs) (body_at q false (drop (prefix_len (is_plain q) bs) bs))
    → body_at q false (b ∷ bs) ≡ with_front (take (cond (not (x || y)) (1 + prefix_len (is_plain q) bs) 0) (b ∷ bs)) (body_at q false (drop (cond (not (x || y)) (1 + prefix_len (is_plain q) bs) 0) (b ∷ bs)))
unfolding body_at
run_step q b bs true true ex ey h = sym (with_none (body_at q false (b ∷ bs)))
run_step q b bs true false ex ey h = sym (with_none (body_at q false (b ∷ bs)))
run_step q b bs false true ex ey h = sym (with_none (body_at q false (b ∷ bs)))
run_step q b bs false false ex ey h =
    let i : 1 + prefix_len (is_plain q) bs ≡ suc (prefix_len (is_plain q) bs) = omega arith in
    plain_is q b bs ex ey ∙ ap (add b) h ∙ add_front b (take (prefix_len (is_plain q) bs) bs) (body_at q false (drop (prefix_len (is_plain q) bs) bs)) ∙ rw i refl

pub runs : (q : ℕ) (bs : List ℕ) → body_at q false bs ≡ with_front (take (prefix_len (is_plain q) bs) bs) (body_at q false (drop (prefix_len (is_plain q) bs) bs))
runs q [] = sym (with_none (body_at q false []))
runs q (b ∷ bs) = run_step q b bs (b == q) (b == 92) refl refl (runs q bs)

pub stops : (q : ℕ) (bs : List ℕ) → 0 < length (drop (prefix_len (is_plain q) bs) bs) → is_plain q (get_or (drop (prefix_len (is_plain q) bs) bs) 0 0) ≡ false
stops q bs lt = let n : prefix_len (is_plain q) bs < length bs = omega (arith, length-drop (prefix_len (is_plain q) bs) bs) in rw (get_or-drop, add-zero) (prefix_len_stops (is_plain q) bs 0 n)

-- ---- what stops a run

pub is_backslash : (q b : ℕ) → is_plain q b ≡ false → ¬ (b ≡ q) → b ≡ 92
is_backslash q b e ne = slash_case q b (b == q) (b == 92) refl refl e ne

pub nothing : (q : ℕ) (bs : List ℕ) → length bs ≡ 0 → body_at q false bs ≡ None
unfolding body_at
nothing q [] e = refl
nothing q (b ∷ bs) e = absurd (omega arith)

pub at_quote : (q : ℕ) (bs : List ℕ) → 0 < length bs → get_or bs 0 0 ≡ q → body_at q false bs ≡ Some ([], drop 1 bs)
unfolding body_at
at_quote q [] lt e = absurd (omega arith)
at_quote q (b ∷ bs) lt e = let t : (b == q) ≡ true = eq-eqb b q e in rw t refl

pub bad_escape : (q : ℕ) (bs : List ℕ) → q < 92 → 1 < length bs → get_or bs 0 0 ≡ 92 → is_escape (get_or bs 1 0) ≡ false → body_at q false bs ≡ None
unfolding body_at
bad_escape q [] lt len e f = absurd (omega arith)
bad_escape q (b ∷ []) lt len e f = absurd (omega arith)
bad_escape q (b ∷ x ∷ bs) lt len e f =
    let t : (b == q) ≡ false = grind arith in
    let s : (b == 92) ≡ true = eq-eqb b 92 e in
    rw (t, s) (rw f refl)

pub no_escape : (q : ℕ) (bs : List ℕ) → q < 92 → length bs ≡ 1 → get_or bs 0 0 ≡ 92 → body_at q false bs ≡ None
unfolding body_at
no_escape q [] lt len e = refl
no_escape q (b ∷ []) lt len e =
    let t : (b == q) ≡ false = grind arith in
    let s : (b == 92) ≡ true = eq-eqb b 92 e in
    rw (t, s) refl
no_escape q (b ∷ x ∷ bs) lt len e = absurd (omega arith)

pub good_escape : (q : ℕ) (bs : List ℕ) → q < 92 → 1 < length bs → get_or bs 0 0 ≡ 92 → is_escape (get_or bs 1 0) ≡ true → body_at q false bs ≡ with_front (escape (get_or bs 1 0) ∷ []) (body_at q false (drop 1 (drop 1 bs)))
unfolding body_at
good_escape q [] lt len e f = absurd (omega arith)
good_escape q (b ∷ []) lt len e f = absurd (omega arith)
good_escape q (b ∷ x ∷ bs) lt len e f =
    let t : (b == q) ≡ false = grind arith in
    let s : (b == 92) ≡ true = eq-eqb b 92 e in
    rw (t, s) (rw f (add_one (escape x) (body_at q false bs)))

-- ---- for `text_of`

pub so_far : (q : ℕ) (text rest front after out new : List ℕ) (d : Option (List ℕ × List ℕ)) → with_front out (body_at q false rest) ≡ body_at q false text → front ≡ take (prefix_len (is_plain q) rest) rest → after ≡ drop (prefix_len (is_plain q) rest) rest
    → new ≡ out ++ front → body_at q false after ≡ d → with_front new d ≡ body_at q false text
so_far q text rest front after out new d same f a n e =
    let r : body_at q false rest ≡ with_front front d = runs q rest ∙ ap (λ (z : List ℕ). with_front z (body_at q false (drop (prefix_len (is_plain q) rest) rest))) (sym f) ∙ ap (λ (z : List ℕ). with_front front (body_at q false z)) (sym a) ∙ ap (with_front front) e in
    ap (λ (z : List ℕ). with_front z d) n ∙ sym (with_more out front d) ∙ ap (with_front out) (sym r) ∙ same

pub quoted : (new behind : List ℕ) (e : Option (List ℕ × List ℕ)) → with_front new (Some ([], behind)) ≡ e → Some (new, behind) ≡ e
quoted new behind e h = ap (λ (z : List ℕ). Some (z, behind)) (sym (append-nil new)) ∙ h

-- ---- for `past_body`

rest_front : (front : List ℕ) (d : Option (List ℕ × List ℕ)) → rest_of (with_front front d) ≡ rest_of d
rest_front front None = refl
rest_front front (Some r) = refl

pub rest_run : (q : ℕ) (rest after : List ℕ) → after ≡ drop (prefix_len (is_plain q) rest) rest → rest_of (body_at q false after) ≡ rest_of (body_at q false rest)
rest_run q rest after e =
    ap (λ (z : List ℕ). rest_of (body_at q false z)) e ∙ sym (rest_front (take (prefix_len (is_plain q) rest) rest) (body_at q false (drop (prefix_len (is_plain q) rest) rest))) ∙ sym (ap rest_of (runs q rest))

pub rest_more : (q : ℕ) (front after behind : List ℕ) → body_at q false after ≡ with_front front (body_at q false behind) → rest_of (body_at q false behind) ≡ rest_of (body_at q false after)
rest_more q front after behind e = sym (rest_front front (body_at q false behind)) ∙ sym (ap rest_of e)
