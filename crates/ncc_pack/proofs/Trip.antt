-- The shortest spelling of a value that fits is one of its spellings.
use Rattle.std.proofs.Common.{◌≡◌, ℕ, zero, suc, ◌-◌, ◌^◌, ◌%◌, ◌<◌, ◌≤◌, Bool, true, false, cond, ◌&&◌, List, [], ◌∷◌, ◌++◌, length, map}
use Rattle.std.proofs.Common.{refl, sym, subst, arith}
use Rattle.std.specs.Prelude.{IsTrue, ℤ, pos, negsuc, nat_lt, nat_le, int_le, int_lt}
use Rattle.std.specs.List.{list_all}
use Rattle.std.specs.Str.{is_utf8}
use Rattle.std.specs.Int.{Width, w8, w16, w32, w64, to_be_bytes, cast_unsigned, cast_signed}
use Rattle.std.specs.Int.RustNames.{FitsSigned}
use borrow.Author.Tests.{ltb-true}
use borrow.Author.Differences.{ints}
use Rattle.std.proofs.lemmas.Str.{IsUtf8-from_is_utf8}
use Rattle.std.proofs.lemmas.List.{length-map}
use Rattle.std.proofs.lemmas.List.Folds.{list_all-map}
use Rattle.std.proofs.lemmas.Int.{to_z-of_z}
use Rattle.ncc_pack.specs.declared.value.Value.{Value, fold-roll-Value, out-Value, roll-Value, roll-out-Value, map-Value}
use Rattle.ncc_pack.specs.declared.value.NodeValue.{NodeValue}
use Rattle.ncc_pack.specs.declared.value.Value.TheOpen.{Value-F}
use Rattle.ncc_pack.specs.declared.value.Value.TheVariants as v
use Rattle.ncc_pack.specs.Limits.{max_size}
use Rattle.ncc_pack.specs.Keys.{distinct}
use Rattle.ncc_pack.specs.Short.{head, wide_head, integer, text, bytes, list, dict, concat, pairs, short, short_pair, short_node}
use Rattle.ncc_pack.specs.Short.{short_step, node_step}
use Rattle.ncc_pack.specs.Spells.{Kind, texts, lists, dicts, bytes_mark, IsWide, one, two, four, IsHead, tiny, wide, SpellsInt, positive}
use Rattle.ncc_pack.specs.Spells.{negative, int1, int2, int4, int8, SpellsText, Each, Listed, Pair, Label, label, Holding, Spells, null}
use Rattle.ncc_pack.specs.Spells.{no, yes, levels}
use Rattle.ncc_pack.specs.Spells as s
use Rattle.ncc_pack.specs.Fits.{Fit, fit, fit_pair, fits_i64, fits_text, fits_list, fits_dict, fits_labels, fits_step, fits_node_step}
use Rattle.ncc_pack.specs.Fits.{fits_node, fits_within}
use Rattle.ncc_pack.proofs.Loops.{no_true, both, list_parts, dict_parts, pair_fits, node_fits_by, node_short_by}
use Rattle.ncc_pack.proofs.Fitting.{same_keys}

test : {A : Type 0} (P : A → Type 0) (b : Bool) (x y : A) → (b ≡ true → P x) → (b ≡ false → P y) → P (cond b x y)
test P true x y f g = f refl
test P false x y f g = g refl

-- ---- heads

wide_is : (mark n : ℕ) → n ≤ max_size → IsWide mark n (wide_head mark n)
wide_is mark n le =
    test (IsWide mark n) (nat_lt n 0x100) _ _ (λ e. let lt : n < 256 = ltb-true n 0x100 e in let m : n % 256 ≡ n =
    omega arith in subst (λ (k : ℕ). IsWide mark n (mark ∷ k ∷ [])) m (one lt)) (λ _.
    test (IsWide mark n) (nat_lt n 0x1_0000) _ _ (λ e. two (ltb-true n 0x1_0000 e)) (λ _. four le))

pub head_is : (kind : Kind) (n : ℕ) → n ≤ max_size → IsHead kind n (head kind n)
unfolding head
head_is kind n le = test (IsHead kind n) (nat_lt n 16) _ _ (λ e. tiny (ltb-true n 16 e))
    (λ _. wide (wide_head kind.wide n) (wide_is kind.wide n le))

-- ---- integers

small_is : (z : ℤ) → (int_le (negsuc 15) z && int_lt z (pos 128)) ≡ true → SpellsInt z (cast_unsigned w8 z ∷ [])
small_is (pos n) e =
    let lt : n < 128 = grind (arith, ints) in
    let k : n ≡ cast_unsigned w8 (pos n) = omega (arith, ints) in
    subst (λ (y : ℕ). SpellsInt (pos n) (y ∷ [])) k (positive n lt)
small_is (negsuc n) e =
    let lt : n < 16 = grind (arith, ints) in
    let k : 255 - n ≡ cast_unsigned w8 (negsuc n) = omega (arith, ints) in
    subst (λ (y : ℕ). SpellsInt (negsuc n) (y ∷ [])) k (negative n lt)

behind : (z : ℤ) (w : Width) (m limit : ℕ) → FitsSigned w z → cast_unsigned w z < limit
    → ((n : ℕ) → n < limit → SpellsInt (cast_signed w n) (m ∷ to_be_bytes w n)) → SpellsInt z (m ∷ to_be_bytes w (cast_unsigned w z))
behind z w m limit f lt h = subst (λ (y : ℤ). SpellsInt y (m ∷ to_be_bytes w (cast_unsigned w z))) (to_z-of_z w z f)
    (h (cast_unsigned w z) lt)

fits_8 : (z : ℤ) → (int_le (negsuc 127) z && int_lt z (pos 128)) ≡ true → FitsSigned w8 z
fits_8 (pos n) e = record { sfits = grind (arith, ints) }
fits_8 (negsuc n) e = record { sfits = grind (arith, ints) }

fits_16 : (z : ℤ) → (int_le (negsuc 0x7FFF) z && int_lt z (pos 0x8000)) ≡ true → FitsSigned w16 z
fits_16 (pos n) e = record { sfits = grind (arith, ints) }
fits_16 (negsuc n) e = record { sfits = grind (arith, ints) }

fits_32 : (z : ℤ) → (int_le (negsuc 0x7FFF_FFFF) z && int_lt z (pos 0x8000_0000)) ≡ true → FitsSigned w32 z
fits_32 (pos n) e = record { sfits = grind (arith, ints) }
fits_32 (negsuc n) e = record { sfits = grind (arith, ints) }

fits_64 : (z : ℤ) → IsTrue (fits_i64 z) → FitsSigned w64 z
fits_64 (pos n) e = record { sfits = grind (arith, ints) }
fits_64 (negsuc n) e = record { sfits = grind (arith, ints) }

below_8 : (z : ℤ) → FitsSigned w8 z → cast_unsigned w8 z < 2 ^ 8
below_8 (pos n) f = omega (arith, f.sfits)
below_8 (negsuc n) f = omega arith

below_16 : (z : ℤ) → FitsSigned w16 z → cast_unsigned w16 z < 2 ^ 16
below_16 (pos n) f = omega (arith, f.sfits)
below_16 (negsuc n) f = omega arith

below_32 : (z : ℤ) → FitsSigned w32 z → cast_unsigned w32 z < 2 ^ 32
below_32 (pos n) f = omega (arith, f.sfits)
below_32 (negsuc n) f = omega arith

below_64 : (z : ℤ) → FitsSigned w64 z → cast_unsigned w64 z < 2 ^ 64
below_64 (pos n) f = omega (arith, f.sfits)
below_64 (negsuc n) f = omega arith

one_byte : (z : ℤ) → FitsSigned w8 z → SpellsInt z (0xC8 ∷ cast_unsigned w8 z ∷ [])
one_byte z f =
    let lt : cast_unsigned w8 z < 2 ^ 8 = below_8 z f in
    let m : cast_unsigned w8 z % 256 ≡ cast_unsigned w8 z = omega arith in
    subst (λ (k : ℕ). SpellsInt z (0xC8 ∷ k ∷ [])) m (behind z w8 0xC8 (2 ^ 8) f lt int1)

integer_is : (z : ℤ) → IsTrue (fits_i64 z) → SpellsInt z (integer z)
unfolding integer
integer_is z h =
    let P : List ℕ → Type 0 = SpellsInt z in
    test P (int_le (negsuc 15) z && int_lt z (pos 128)) _ _ (small_is z) (λ _.
    test P (int_le (negsuc 127) z && int_lt z (pos 128)) _ _ (λ e. one_byte z (fits_8 z e)) (λ _.
    test P (int_le (negsuc 0x7FFF) z && int_lt z (pos 0x8000)) _ _
    (λ e. let f = fits_16 z e in behind z w16 0xC9 (2 ^ 16) f (below_16 z f) int2) (λ _.
    test P (int_le (negsuc 0x7FFF_FFFF) z && int_lt z (pos 0x8000_0000)) _ _
    (λ e. let f = fits_32 z e in behind z w32 0xCA (2 ^ 32) f (below_32 z f) int4) (λ _.
    let f = fits_64 z h in behind z w64 0xCB (2 ^ 64) f (below_64 z f) int8))))

-- ---- texts and bytes

size_le : (n : ℕ) → IsTrue (nat_le n max_size) → n ≤ max_size
size_le n h = grind arith

text_is : (t : List ℕ) → IsTrue (fits_text t) → SpellsText t (text t)
unfolding text
text_is t h =
    let p = both (nat_le (length t) max_size) (is_utf8 t) h in
    (head texts (length t), head_is texts (length t) (size_le (length t) p.0), IsUtf8-from_is_utf8 t p.1, refl)

-- ---- one spelling after another

each_is : {A : Type 0} (R : A → List ℕ → Type 0) (f : A → List ℕ) (p : A → Bool) → ((x : A) → IsTrue (p x) → R x (f x)) → (xs : List A)
    → IsTrue (list_all p xs) → Each R xs (concat (map f xs))
each_is R f p h [] t = refl
each_is R f p h (x ∷ xs) t =
    let b = both (p x) (list_all p xs) t in
    (f x, concat (map f xs), h x b.0, each_is R f p h xs b.1, refl)

abbrev Shortly : ℕ → Type 0
Shortly d = (x : Value) → IsTrue (fits_within x d) → Spells (levels d) x (short x)

each_pair_is : (d : ℕ) → Shortly d → (ps : List (List ℕ × Value)) → IsTrue (list_all (pair_fits d) ps)
    → Each (Pair (Spells (levels d))) ps (pairs (map short_pair ps))
each_pair_is d h [] t = refl
each_pair_is d h (p ∷ ps) t =
    let b = both (pair_fits d p) (list_all (pair_fits d) ps) t in
    let c = both (fits_text p.0) (fits_within p.1 d) b.0 in (
      text p.0 ++ short p.1,
      pairs (map short_pair ps),
      (text p.0, short p.1, text_is p.0 c.0, h p.1 c.1, refl),
      each_pair_is d h ps b.1,
      refl,
    )

-- ---- one layer of a value

abbrev Layer : Type 0
Layer = Value-F Value NodeValue

short_of : (l : Layer) → short (roll-Value l) ≡ short_step (map-Value Value NodeValue (List ℕ) (List ℕ) short short_node l)
short_of l = fold-roll-Value (List ℕ) (List ℕ) short_step node_step l

fit_of : (l : Layer) → fit (roll-Value l) ≡ fits_step (map-Value Value NodeValue Fit (ℕ → Bool) fit fits_node l)
fit_of l = fold-roll-Value Fit (ℕ → Bool) fits_step fits_node_step l

-- ---- labels

label_layer : (d : ℕ) (l : Layer) → IsTrue ((fits_step (map-Value Value NodeValue Fit (ℕ → Bool) fit fits_node l)).is_text)
    → IsTrue ((fits_step (map-Value Value NodeValue Fit (ℕ → Bool) fit fits_node l)).levels d)
    → Label (roll-Value l) (short_step (map-Value Value NodeValue (List ℕ) (List ℕ) short short_node l))
label_layer d (Value-F.Text t) e f = subst (λ (y : Value). Label y (text t)) (sym (v.rolls-Text t)) (label t (text t) (text_is t f))
label_layer d Value-F.Null e f = absurd (no_true e)
label_layer d (Value-F.Bool b) e f = absurd (no_true e)
label_layer d (Value-F.Int z) e f = absurd (no_true e)
label_layer d (Value-F.Bytes b) e f = absurd (no_true e)
label_layer d (Value-F.List xs) e f = absurd (no_true e)
label_layer d (Value-F.Dict ps) e f = absurd (no_true e)
label_layer d (Value-F.Node n) e f = absurd (no_true e)

label_is : (d : ℕ) (x : Value) → IsTrue (fits_within x d && (fit x).is_text) → Label x (short x)
label_is d x h =
    let b = both (fits_within x d) ((fit x).is_text) h in
    let e = roll-out-Value x in
    let levels' : IsTrue ((fit (roll-Value (out-Value x))).levels d) = rw e b.0 in
    let is_text' : IsTrue ((fit (roll-Value (out-Value x))).is_text) = rw e b.1 in
    let l = label_layer d (out-Value x) (subst (λ (g : Fit). IsTrue g.is_text) (fit_of (out-Value x)) is_text')
    (subst (λ (g : Fit). IsTrue (g.levels d)) (fit_of (out-Value x)) levels') in
    let l' : Label (roll-Value (out-Value x)) (short (roll-Value (out-Value x))) = rw (short_of (out-Value x)) l in
    subst (λ (y : Value). Label y (short y)) e l'

all_both : {A : Type 0} (p q : A → Bool) (xs : List A) → IsTrue (list_all p xs) → IsTrue (list_all q xs)
    → IsTrue (list_all (λ x. p x && q x) xs)
all_both p q [] h k = k
all_both p q (x ∷ xs) h k =
    let a = both (p x) (list_all p xs) h in
    let b = both (q x) (list_all q xs) k in
    let c = all_both p q xs a.1 b.1 in
    grind arith

-- ---- what holds values

pub record Held (d : ℕ) : Type 0 where
  pub list : (xs : List Value) → IsTrue (fits_list (map fit xs) d) → (levels d).list xs (list (map short xs))
  pub dict : (ps : List (List ℕ × Value)) → IsTrue (fits_dict (map fit_pair ps) d) → (levels d).dict ps (dict (map short_pair ps))
  pub node : (n : NodeValue) → IsTrue (fits_node n d) → (levels d).node n (short_node n)

listed_is : {A : Type 0} (kind : Kind) (R : A → List ℕ → Type 0) (f : A → List ℕ) (p : A → Bool) → ((x : A) → IsTrue (p x) → R x (f x))
    → (xs : List A) → length xs ≤ max_size → IsTrue (list_all p xs) → Listed kind R xs (head kind (length xs) ++ concat (map f xs))
listed_is kind R f p h xs le t = (head kind (length xs), concat (map f xs), head_is kind (length xs) le, each_is R f p h xs t, refl)

list_short : (xs : List Value) → head lists (length xs) ++ concat (map short xs) ≡ list (map short xs)
unfolding list
list_short xs = rw (length-map xs short) refl

dict_short : (ps : List (List ℕ × Value)) → head dicts (length ps) ++ pairs (map short_pair ps) ≡ dict (map short_pair ps)
unfolding dict
dict_short ps = rw (length-map ps short_pair) refl

list_is : (d : ℕ) → Shortly d → (xs : List Value) → IsTrue (fits_list (map fit xs) (suc d))
    → Listed lists (Spells (levels d)) xs (list (map short xs))
list_is d h xs f =
    let p = list_parts xs d f in
    subst (Listed lists (Spells (levels d)) xs) (list_short xs)
    (listed_is lists (Spells (levels d)) short (λ x. fits_within x d) h xs p.0 p.1)

dict_is : (d : ℕ) → Shortly d → (ps : List (List ℕ × Value)) → IsTrue (fits_dict (map fit_pair ps) (suc d))
    → Listed dicts (Pair (Spells (levels d))) ps (dict (map short_pair ps)) × IsTrue (distinct [] ps)
dict_is d h ps f =
    let p = dict_parts ps d f in
    let keys : IsTrue (distinct [] (map fit_pair ps)) = grind arith in (
      subst (Listed dicts (Pair (Spells (levels d))) ps) (dict_short ps)
          (head dicts (length ps), pairs (map short_pair ps), head_is dicts (length ps) p.0, each_pair_is d h ps p.1, refl),
      rw
          (← same_keys [] ps) keys,
    )

labels_is : (d : ℕ) (xs : List Value) → IsTrue (fits_labels (map fit xs) (suc d)) → Listed lists Label xs (list (map short xs))
labels_is d xs f =
    let b = both (fits_list (map fit xs) (suc d)) (list_all (λ f. f.is_text) (map fit xs)) f in
    let p = list_parts xs d b.0 in
    let t : IsTrue (list_all (λ x. (fit x).is_text) xs) = rw (← list_all-map (λ (f : Fit). f.is_text) fit xs) b.1 in
    subst (Listed lists Label xs) (list_short xs) (listed_is lists Label short (λ x. fits_within x d && (fit x).is_text)
    (label_is d) xs p.0 (all_both (λ x. fits_within x d) (λ x. (fit x).is_text) xs p.1 t))

node_joined : (a b c : List ℕ) → (((0xB3 ∷ 0x4E ∷ a) ++ b) ++ c) ≡ 0xB3 ∷ 0x4E ∷ a ++ b ++ c
node_joined a b c = refl

node_is : (d : ℕ) → Held d → (n : NodeValue) → IsTrue (fits_node n (suc d)) → (levels (suc d)).node n (short_node n)
unfolding levels
node_is zero h n f =
    let f' = subst (λ (g : ℕ → Bool). IsTrue (g 1)) (node_fits_by n) f in
    let none : IsTrue false = grind arith in
    absurd (no_true none)
node_is (suc d) h n f =
    let f' = subst (λ (g : ℕ → Bool). IsTrue (g (suc (suc d)))) (node_fits_by n) f in
    let id : IsTrue (fits_i64 n.id) = grind arith in
    let labels : IsTrue (fits_labels (map fit n.labels) (suc d)) = grind arith in
    let props : IsTrue (fits_dict (map fit_pair n.props) (suc d)) = grind arith in (
      integer n.id,
      list (map short n.labels),
      dict (map short_pair n.props),
      integer_is n.id id,
      labels_is d n.labels labels,
      h.dict
          n.props props,
      node_short_by n,
    )

layer_is : (d : ℕ) → Held d → (l : Layer) → IsTrue ((fits_step (map-Value Value NodeValue Fit (ℕ → Bool) fit fits_node l)).levels d)
    → Spells (levels d) (roll-Value l) (short_step (map-Value Value NodeValue (List ℕ) (List ℕ) short short_node l))
unfolding bytes
layer_is d h Value-F.Null f = subst (λ (y : Value). Spells (levels d) y (0xC0 ∷ [])) (sym v.rolls-Null) null
layer_is d h (Value-F.Bool true) f = subst (λ (y : Value). Spells (levels d) y (0xC3 ∷ [])) (sym (v.rolls-Bool true)) yes
layer_is d h (Value-F.Bool false) f = subst (λ (y : Value). Spells (levels d) y (0xC2 ∷ [])) (sym (v.rolls-Bool false)) no
layer_is d h (Value-F.Int z) f = subst (λ (y : Value). Spells (levels d) y (integer z)) (sym (v.rolls-Int z))
    (s.int z (integer z) (integer_is z f))
layer_is d h (Value-F.Bytes b) f = subst (λ (y : Value). Spells (levels d) y (bytes b)) (sym (v.rolls-Bytes b))
    (s.bytes b (wide_head bytes_mark (length b)) (wide_is bytes_mark (length b) (size_le (length b) f)))
layer_is d h (Value-F.Text t) f = subst (λ (y : Value). Spells (levels d) y (text t)) (sym (v.rolls-Text t))
    (s.text t (text t) (text_is t f))
layer_is d h (Value-F.List xs) f = subst (λ (y : Value). Spells (levels d) y (list (map short xs))) (sym (v.rolls-List xs))
    (s.list xs (list (map short xs)) (h.list xs f))
layer_is d h (Value-F.Dict ps) f = subst (λ (y : Value). Spells (levels d) y (dict (map short_pair ps))) (sym (v.rolls-Dict ps))
    (s.dict ps (dict (map short_pair ps)) (h.dict ps f))
layer_is d h (Value-F.Node n) f = subst (λ (y : Value). Spells (levels d) y (short_node n)) (sym (v.rolls-Node n))
    (s.node n (short_node n) (h.node n f))

value_is : (d : ℕ) → Held d → (x : Value) → IsTrue (fits_within x d) → Spells (levels d) x (short x)
value_is d h x f =
    let e = roll-out-Value x in
    let f' : IsTrue (fits_within (roll-Value (out-Value x)) d) = rw e f in
    let l = layer_is d h (out-Value x) (subst (λ (g : Fit). IsTrue (g.levels d)) (fit_of (out-Value x)) f') in
    let l' : Spells (levels d) (roll-Value (out-Value x)) (short (roll-Value (out-Value x))) = rw (short_of (out-Value x)) l in
    subst (λ (y : Value). Spells (levels d) y (short y)) e l'

held : (d : ℕ) → Held d
unfolding levels
held zero = record {
  list = λ xs f. no_true f;
  dict = λ ps f. no_true f;
  node =
      λ n f. no_true (subst (λ (g : ℕ → Bool). IsTrue (g 0)) (node_fits_by n) f);
}
held (suc d) = record { list = list_is d (value_is d (held d)); dict = dict_is d (value_is d (held d)); node = node_is d (held d) }

pub short_is : (d : ℕ) (x : Value) → IsTrue (fits_within x d) → Spells (levels d) x (short x)
short_is d x f = value_is d (held d) x f
