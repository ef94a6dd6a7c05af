-- Steps of the loops that ask whether values fit.
use Rattle.std.proofs.Common.{◌≡◌, ℕ, zero, suc, ◌-◌, ◌+◌, ◌<◌, ◌≤◌, Bool, true, false, not, cond, eqb, ◌||◌, ◌&&◌, List, [], ◌∷◌, ◌++◌}
use Rattle.std.proofs.Common.{length, map, take, drop, get_or, refl, sym, ap, ◌∙◌, subst, arith}
use Rattle.std.specs.Prelude.{nat_le, IsUtf8, ℤ, pos, negsuc}
use Rattle.std.specs.Borrow.{Bor}
use Rattle.std.specs.List.{list_all, list_any}
use Rattle.std.specs.Ordering.{nat_cmp}
use Rattle.std.specs.Cmp.Lexicographic.{slice_cmp}
use Rattle.std.specs.BTreeSet as sorted
use Rattle.std.specs.BTreeSet.{BTreeSet}
use Rattle.std.specs.Int.{w64}
use Rattle.std.specs.Int.RustNames.{FitsSigned}
use Rattle.std.specs.Str.{is_utf8, bytes_eq}
use Rattle.std.proofs.lemmas.Str.{is_utf8-from_IsUtf8}
use Rattle.std.proofs.lemmas.Bool.{le-leb, lt-ltb}
use Rattle.std.proofs.lemmas.List.{length-map, take_all, map_push, drop_all}
use Rattle.std.proofs.lemmas.List.Folds.{list_all-map, list_all_at, list_all_more, list_any-append}
use Rattle.std.proofs.lemmas.Map.Text.{is_eq-slice_cmp}
use Rattle.std.proofs.Math.Seq.{drop-cons, take-suc}
use Rattle.ncc_pack.specs.declared.value.Value.{Value, map-Value, roll-Value, out-Value, roll-out-Value}
use Rattle.ncc_pack.specs.declared.value.Value.TheOpen.{Value-F}
use Rattle.ncc_pack.specs.declared.value.Value.TheVariants as v
use Rattle.ncc_pack.specs.Texts.{is_text, texts_alone}
use Rattle.ncc_pack.specs.Limits.{max_size}
use Rattle.ncc_pack.specs.Keys.{keys, distinct}
use Rattle.ncc_pack.specs.Fits.{Fit, fit, fit_pair, fits_text, fits_list, fits_dict, fits_within, fits_i64, fits_node, fits_step}
use Rattle.ncc_pack.specs.declared.value.NodeValue.{NodeValue}
use Rattle.ncc_pack.proofs.Loops.{node_fits_by, fit_of}

-- ---- numbers and texts

pub in_range : (z : ℤ) → FitsSigned w64 z → true ≡ fits_i64 z
in_range (pos n) f = let h = f.sfits in sym (lt-ltb _ _ (omega (arith, h)))
in_range (negsuc n) f = let h = f.sfits in sym (lt-ltb _ _ (omega (arith, h)))

and_true : (a : Bool) → (a && true) ≡ a
and_true true = refl
and_true false = refl

pub and_false : (a : Bool) → (a && false) ≡ false
and_false true = refl
and_false false = refl

pub utf8_too : (a : Bool) (t : List ℕ) → IsUtf8 t → a ≡ (a && is_utf8 t)
utf8_too a t u = sym (ap (λ (b : Bool). a && b) (is_utf8-from_IsUtf8 t u) ∙ and_true a)

pub small_enough : (n : ℕ) → n ≤ max_size → (nat_le n max_size && true) ≡ true
small_enough n le = rw (le-leb n max_size le) refl

-- ---- lists, and the pairs of dictionaries

-- one that fails settles it, and all that pass do
pub one_fails : {A : Type 0} (p : A → Bool) (xs ys : List A) (i : ℕ) (x : A) → ys ≡ xs → i < length ys → x ≡ get_or ys i x → p x ≡ false
    → list_all p xs ≡ false
one_fails p xs ys i x same lt is f = ap (list_all p) (sym same) ∙ list_all_at p ys i x lt (ap p (sym is) ∙ f)

pub all_pass : {A : Type 0} (p : A → Bool) (xs ys : List A) (i : ℕ) → ys ≡ xs → length ys ≤ i → list_all p (take i ys) ≡ true
    → list_all p xs ≡ true
all_pass p xs ys i same done h = ap (list_all p) (sym same ∙ sym (take_all i ys done)) ∙ h

pub one_passes : {A : Type 0} (p : A → Bool) (ys : List A) (i : ℕ) (x : A) → i < length ys → x ≡ get_or ys i x
    → list_all p (take i ys) ≡ true → p x ≡ true → list_all p (take (i + 1) ys) ≡ true
one_passes p ys i x lt is h f = list_all_more p ys i x lt ∙ rw (h, ← is, f) refl

-- with levels left, a list fits where its size does and each item fits with one level less
pub list_more : (xs : List Value) (d : ℕ) → 0 < d → fits_list (map fit xs) d
    ≡ (nat_le (length xs) max_size && list_all (λ x. fits_within x (d - 1)) xs)
list_more xs zero lt = absurd (omega arith)
list_more xs (suc d) lt =
    let e : suc d - 1 ≡ d = omega arith in
    rw (e, length-map xs fit, list_all-map (λ (f : Fit). f.levels d) fit xs) refl

pub same_keys : (earlier : List (List ℕ)) (ps : List (List ℕ × Value)) → distinct earlier (map fit_pair ps) ≡ distinct earlier ps
same_keys earlier [] = refl
same_keys earlier (p ∷ ps) = ap (λ (b : Bool). not (list_any (bytes_eq p.0) earlier) && b) (same_keys (earlier ++ p.0 ∷ []) ps)

pub dict_more : (ps : List (List ℕ × Value)) (d : ℕ) → 0 < d → fits_dict (map fit_pair ps) d
    ≡ (nat_le (length ps) max_size && list_all (λ p. fits_text p.0 && fits_within p.1 (d - 1)) ps && distinct [] ps)
dict_more ps zero lt = absurd (omega arith)
dict_more ps (suc d) lt =
    let e : suc d - 1 ≡ d = omega arith in
    rw (e, length-map ps fit_pair, list_all-map (λ (p : List ℕ × Fit). fits_text p.0 && p.1.levels d) fit_pair ps, same_keys [] ps) refl

-- whether a value is a text is told beside its levels
abbrev Told : Value → Type 0
Told x = (fit x).is_text ≡ is_text x

told : (x : Value) (l : Value-F Value NodeValue) (is : roll-Value l ≡ x)
    → (fits_step (map-Value Value NodeValue Fit (ℕ → Bool) fit fits_node l)).is_text ≡ is_text x → Told (roll-Value l)
told x l is e = subst Told (sym is) (ap (λ (f : Fit). f.is_text) (fit_of x l is) ∙ e)

told_by : (l : Value-F Value NodeValue) → Told (roll-Value l)
told_by Value-F.Null = told v.Null Value-F.Null v.rolls-Null refl
told_by (Value-F.Bool b) = told (v.Bool b) (Value-F.Bool b) (v.rolls-Bool b) refl
told_by (Value-F.Int z) = told (v.Int z) (Value-F.Int z) (v.rolls-Int z) refl
told_by (Value-F.Bytes b) = told (v.Bytes b) (Value-F.Bytes b) (v.rolls-Bytes b) refl
told_by (Value-F.Text t) = told (v.Text t) (Value-F.Text t) (v.rolls-Text t) refl
told_by (Value-F.List xs) = told (v.List xs) (Value-F.List xs) (v.rolls-List xs) refl
told_by (Value-F.Dict ps) = told (v.Dict ps) (Value-F.Dict ps) (v.rolls-Dict ps) refl
told_by (Value-F.Node n) = told (v.Node n) (Value-F.Node n) (v.rolls-Node n) refl

told_text : (x : Value) → Told x
told_text x = subst Told (roll-out-Value x) (told_by (out-Value x))

told_alone : (xs : List Value) → list_all (λ x. (fit x).is_text) xs ≡ texts_alone xs
told_alone [] = refl
told_alone (x ∷ xs) = rw (told_text x, told_alone xs) refl

pub node_more : (n : NodeValue) (d : ℕ) → 0 < d → fits_node n d
    ≡ (fits_i64 n.id && (fits_list (map fit n.labels) (d - 1) && texts_alone n.labels) && fits_dict (map fit_pair n.props) (d - 1))
node_more n zero lt = absurd (omega arith)
node_more n (suc d) lt =
    let e : suc d - 1 ≡ d = omega arith in
    ap (λ (f : ℕ → Bool). f (suc d)) (node_fits_by n) ∙ rw (e, list_all-map (λ (f : Fit). f.is_text) fit n.labels, told_alone n.labels) refl

-- ---- keys

abbrev Pairs : Type 0
Pairs = List (List ℕ × Value)

keys_more : (ps : Pairs) (i : ℕ) (d : List ℕ × Value) → i < length ps → keys (take (i + 1) ps) ≡ keys (take i ps) ++ (get_or ps i d).0 ∷ []
keys_more ps i d lt =
    let e : i + 1 ≡ suc i = omega arith in
    rw (e, take-suc ps i d lt) (map_push (λ (p : List ℕ × Value). p.0) (take i ps) (get_or ps i d))

-- the next key, and then the rest
pub distinct_step : (ps : Pairs) (i : ℕ) (d : List ℕ × Value) → i < length ps
    → distinct (keys (take i ps)) (drop i ps) ≡ (not (list_any (bytes_eq (get_or ps i d).0) (keys (take i ps))) && distinct
    (keys (take (i + 1) ps)) (drop (i + 1) ps))
distinct_step ps i d lt =
    let e : i + 1 ≡ suc i = omega arith in
    rw (drop-cons ps i d lt, keys_more ps i d lt, e) refl

-- a key that was there, one that was not, and the end
pub came_before : (ps : Pairs) (i : ℕ) (d : List ℕ × Value) → i < length ps → distinct [] ps ≡ distinct (keys (take i ps)) (drop i ps)
    → list_any (bytes_eq (get_or ps i d).0) (keys (take i ps)) ≡ true → distinct [] ps ≡ false
came_before ps i d lt so_far h = so_far ∙ distinct_step ps i d lt ∙ rw h refl

pub is_fresh : (ps : Pairs) (i : ℕ) (d : List ℕ × Value) → i < length ps → distinct [] ps ≡ distinct (keys (take i ps)) (drop i ps)
    → list_any (bytes_eq (get_or ps i d).0) (keys (take i ps)) ≡ false
    → distinct [] ps ≡ distinct (keys (take (i + 1) ps)) (drop (i + 1) ps)
is_fresh ps i d lt so_far h = so_far ∙ distinct_step ps i d lt ∙ rw h refl

pub all_fresh : (ps : Pairs) (i : ℕ) → length ps ≤ i → distinct [] ps ≡ distinct (keys (take i ps)) (drop i ps) → distinct [] ps ≡ true
all_fresh ps i le so_far = so_far ∙ rw (drop_all i ps le) refl

abbrev pub has : BTreeSet (Bor (List ℕ)) → List ℕ → Bool
has s q = sorted.contains_by (λ k. slice_cmp nat_cmp q k.now) s

flipped : (xs ys : List ℕ) → bytes_eq xs ys ≡ bytes_eq ys xs
flipped [] [] = refl
flipped [] (y ∷ ys) = refl
flipped (x ∷ xs) [] = refl
flipped (x ∷ xs) (y ∷ ys) = let e : eqb x y ≡ eqb y x = grind arith in rw (e, flipped xs ys) refl

either : (a b : Bool) → cond a true b ≡ (b || (a || false))
either true true = refl
either true false = refl
either false true = refl
either false false = refl

pub one_key_more : (s n : BTreeSet (Bor (List ℕ))) (key : Bor (List ℕ)) (ps : Pairs) (i : ℕ) (d : List ℕ × Value) → i < length ps
    → key.now ≡ (get_or ps i d).0 → sorted.Updates (λ x y. slice_cmp nat_cmp x.now y.now) s n key true
    → ((q : List ℕ) → has s q ≡ list_any (bytes_eq q) (keys (take i ps))) → (q : List ℕ)
    → has n q ≡ list_any (bytes_eq q) (keys (take (i + 1) ps))
one_key_more s n key ps i d lt is up h q =
    let b : Bor (List ℕ) = record { ref_ptr = (0, 0); now = q } in
    up.0 b ∙ rw (
      is_eq-slice_cmp key.now q,
      h q,
      flipped key.now q,
      keys_more ps i d lt,
      list_any-append (bytes_eq q) (keys (take i ps))
          ((get_or ps i d).0 ∷ []),
      ← is,
    )
    (either (bytes_eq q key.now) (list_any (bytes_eq q) (keys (take i ps))))

pub in_set : (a b : Bool) → a ≡ false → a ≡ not b → b ≡ true
in_set a true e f = refl
in_set a false e f = absurd (let g : false ≡ true = sym e ∙ f in cc)

pub not_in_set : (a b : Bool) → a ≡ true → a ≡ not b → b ≡ false
not_in_set a true e f = absurd (let g : true ≡ false = sym e ∙ f in cc)
not_in_set a false e f = refl

or_true : (a : Bool) → (a || true) ≡ true
or_true true = refl
or_true false = refl

pub key_found : (key : List ℕ) (ps : Pairs) (i : ℕ) (p : List ℕ × Value) → i < length ps → p ≡ get_or ps i p → bytes_eq key p.0 ≡ true
    → list_any (bytes_eq key) (keys ps) ≡ true
key_found key [] i p lt is h = absurd (omega arith)
key_found key (q ∷ ps) zero p lt is h = let e : bytes_eq key q.0 ≡ true = ap (λ (x : List ℕ × Value). bytes_eq key x.0) (sym is)
    ∙ h in rw e refl
key_found key (q ∷ ps) (suc i) p lt is h = let lt' : i < length ps =
    omega arith in rw (key_found key ps i p lt' is h) (or_true (bytes_eq key q.0))
