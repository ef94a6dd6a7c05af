-- What is spelled fits.
use Rattle.std.proofs.Common.{◌≡◌, ℕ, zero, suc, ◌≤◌, Bool, List, [], ◌∷◌, length, map, refl, sym, subst, arith}
use Rattle.std.specs.Prelude.{IsTrue, ℤ, nat_le}
use Rattle.std.specs.List.{list_all}
use Rattle.std.specs.Str.{is_utf8}
use Rattle.std.specs.Int.{Width, w8, w16, w32, w64, cast_signed}
use Rattle.std.specs.Int.RustNames.{FitsSigned}
use Rattle.std.proofs.Math.Facts.{sfits_to_z, sfits_widen}
use Rattle.std.proofs.lemmas.Bool.{le-leb, lt-ltb}
use Rattle.std.proofs.lemmas.Str.{is_utf8-from_IsUtf8}
use Rattle.std.proofs.lemmas.List.Folds.{list_all-map}
use Rattle.ncc_pack.specs.declared.value.Value.{Value, roll-Value, map-Value}
use Rattle.ncc_pack.specs.declared.value.Value.TheOpen.{Value-F}
use Rattle.ncc_pack.specs.declared.value.Value.TheVariants as v
use Rattle.ncc_pack.specs.declared.value.NodeValue.{NodeValue}
use Rattle.ncc_pack.specs.Limits.{max_size}
use Rattle.ncc_pack.specs.Keys.{distinct}
use Rattle.ncc_pack.specs.Fits.{Fit, fit, fit_pair, fits_i64, fits_text, fits_list, fits_dict, fits_labels, fits_step, fits_node}
use Rattle.ncc_pack.specs.Fits.{fits_within}
use Rattle.ncc_pack.specs.Spells.{Kind, lists, dicts, IsWide, IsHead, SpellsInt, SpellsText, Each, Listed, Pair, Label, Holding, Spells}
use Rattle.ncc_pack.specs.Spells.{Fields, levels}
use Rattle.ncc_pack.specs.Spells as s
use Rattle.ncc_pack.proofs.Loops.{pair_fits, fit_of}
use Rattle.ncc_pack.proofs.Fitting.{in_range}
use Rattle.ncc_pack.proofs.Deeper.{joined, list_made, dict_made, node_made}

-- ---- sizes, integers and texts

wide_size : (mark n : ℕ) (h : List ℕ) → IsWide mark n h → n ≤ max_size
wide_size mark n _ (s.one lt) = omega arith
wide_size mark n _ (s.two lt) = omega arith
wide_size mark n _ (s.four le) = le

pub head_size : (kind : Kind) (n : ℕ) (h : List ℕ) → IsHead kind n h → n ≤ max_size
head_size kind n _ (s.tiny lt) = omega arith
head_size kind n _ (s.wide h w) = wide_size kind.wide n h w

-- an integer of 8, 16, 32 or 64 bits has 64
int_in_range : (w : Width) (n : ℕ) → FitsSigned w64 (cast_signed w n) → IsTrue (fits_i64 (cast_signed w n))
int_in_range w n f = sym (in_range (cast_signed w n) f)

int_fits : (z : ℤ) (b : List ℕ) → SpellsInt z b → IsTrue (fits_i64 z)
int_fits _ _ (s.positive n lt) = lt-ltb _ _ (omega arith)
int_fits _ _ (s.negative n lt) = lt-ltb _ _ (omega arith)
int_fits _ _ (s.int1 n lt) = int_in_range w8 n (sfits_widen {w = w8} tt (sfits_to_z {w = w8} record { fits = lt }))
int_fits _ _ (s.int2 n lt) = int_in_range w16 n (sfits_widen {w = w16} tt (sfits_to_z {w = w16} record { fits = lt }))
int_fits _ _ (s.int4 n lt) = int_in_range w32 n (sfits_widen {w = w32} tt (sfits_to_z {w = w32} record { fits = lt }))
int_fits _ _ (s.int8 n lt) = int_in_range w64 n (sfits_to_z {w = w64} record { fits = lt })

text_fits : (t b : List ℕ) → SpellsText t b → IsTrue (fits_text t)
text_fits t b sp = joined (nat_le (length t) max_size) (is_utf8 t) (le-leb (length t) max_size (head_size s.texts (length t) sp.0 sp.1))
    (is_utf8-from_IsUtf8 t sp.2)

-- ---- a layer of a value

abbrev fits_at : ℕ → Fit → Bool
fits_at d g = g.levels d

by_layer : (x : Value) (l : Value-F Value NodeValue) (p : Fit → Bool) → roll-Value l ≡ x
    → IsTrue (p (fits_step (map-Value Value NodeValue Fit (ℕ → Bool) fit fits_node l))) → IsTrue (p (fit x))
by_layer x l p e f = subst (λ (g : Fit). IsTrue (p g)) (sym (fit_of x l e)) f

-- what holds values fits where it is spelled
pub record Fitted (d : ℕ) (spelled : Holding) : Type 0 where
  pub list : (xs : List Value) (b : List ℕ) → spelled.list xs b → IsTrue (fits_list (map fit xs) d)
  pub dict : (ps : List (List ℕ × Value)) (b : List ℕ) → spelled.dict ps b → IsTrue (fits_dict (map fit_pair ps) d)
  pub node : (n : NodeValue) (b : List ℕ) → spelled.node n b → IsTrue (fits_node n d)

value_fits : (d : ℕ) (spelled : Holding) → Fitted d spelled → (x : Value) (b : List ℕ) → Spells spelled x b → IsTrue (fits_within x d)
value_fits d spelled h _ _ s.null = by_layer v.Null Value-F.Null (fits_at d) v.rolls-Null refl
value_fits d spelled h _ _ s.no = by_layer (v.Bool _) (Value-F.Bool _) (fits_at d) (v.rolls-Bool _) refl
value_fits d spelled h _ _ s.yes = by_layer (v.Bool _) (Value-F.Bool _) (fits_at d) (v.rolls-Bool _) refl
value_fits d spelled h _ _ (s.int z b sp) = by_layer (v.Int z) (Value-F.Int z) (fits_at d) (v.rolls-Int z) (int_fits z b sp)
value_fits d spelled h _ _ (s.bytes t head w) = by_layer (v.Bytes t) (Value-F.Bytes t) (fits_at d) (v.rolls-Bytes t)
    (le-leb (length t) max_size (wide_size s.bytes_mark (length t) head w))
value_fits d spelled h _ _ (s.text t b sp) = by_layer (v.Text t) (Value-F.Text t) (fits_at d) (v.rolls-Text t) (text_fits t b sp)
value_fits d spelled h _ _ (s.list xs b sp) = by_layer (v.List xs) (Value-F.List xs) (fits_at d) (v.rolls-List xs) (h.list xs b sp)
value_fits d spelled h _ _ (s.dict ps b sp) = by_layer (v.Dict ps) (Value-F.Dict ps) (fits_at d) (v.rolls-Dict ps) (h.dict ps b sp)
value_fits d spelled h _ _ (s.node n b sp) = by_layer (v.Node n) (Value-F.Node n) (fits_at d) (v.rolls-Node n) (h.node n b sp)

-- a label is a text, which fits at any level
label_fits : (d : ℕ) (x : Value) (b : List ℕ) → Label x b → IsTrue (fits_within x d)
label_fits d _ _ (s.label t b sp) = by_layer (v.Text t) (Value-F.Text t) (fits_at d) (v.rolls-Text t) (text_fits t b sp)

label_is_text : (x : Value) (b : List ℕ) → Label x b → IsTrue ((fit x).is_text)
label_is_text _ _ (s.label t b sp) = by_layer (v.Text t) (Value-F.Text t) (λ g. g.is_text) (v.rolls-Text t) refl

-- ---- what holds values

each_fits : {A : Type 0} (R : A → List ℕ → Type 0) (p : A → Bool) → ((x : A) (b : List ℕ) → R x b → IsTrue (p x))
    → (xs : List A) (b : List ℕ) → Each R xs b → IsTrue (list_all p xs)
each_fits R p h [] b each = refl
each_fits R p h (x ∷ xs) b each = joined (p x) (list_all p xs) (h x each.0 each.2) (each_fits R p h xs each.1 each.3)

list_fits : (d : ℕ) (R : Value → List ℕ → Type 0) → ((x : Value) (b : List ℕ) → R x b → IsTrue (fits_within x d))
    → (xs : List Value) (b : List ℕ) → Listed lists R xs b → IsTrue (fits_list (map fit xs) (suc d))
list_fits d R h xs b sp = list_made xs d (head_size lists (length xs) sp.0 sp.2) (each_fits R (λ x. fits_within x d) h xs sp.1 sp.3)

pair_fitted : (d : ℕ) (R : Value → List ℕ → Type 0) → ((x : Value) (b : List ℕ) → R x b → IsTrue (fits_within x d))
    → (p : List ℕ × Value) (b : List ℕ) → Pair R p b → IsTrue (pair_fits d p)
pair_fitted d R h p b sp = joined (fits_text p.0) (fits_within p.1 d) (text_fits p.0 sp.0 sp.2) (h p.1 sp.1 sp.3)

dict_fits : (d : ℕ) (R : Value → List ℕ → Type 0) → ((x : Value) (b : List ℕ) → R x b → IsTrue (fits_within x d))
    → (ps : List (List ℕ × Value)) (b : List ℕ) → Listed dicts (Pair R) ps b × IsTrue (distinct [] ps)
    → IsTrue (fits_dict (map fit_pair ps) (suc d))
dict_fits d R h ps b sp =
    let l = sp.0 in
    dict_made ps d (head_size dicts (length ps) l.0 l.2) (each_fits (Pair R) (pair_fits d) (pair_fitted d R h) ps l.1 l.3) sp.1

labels_fit : (d : ℕ) (xs : List Value) (b : List ℕ) → Listed lists Label xs b → IsTrue (fits_labels (map fit xs) (suc d))
labels_fit d xs b sp =
    let all : IsTrue (list_all (λ x. (fit x).is_text) xs) = each_fits Label (λ x. (fit x).is_text) label_is_text xs sp.1 sp.3 in
    joined (fits_list (map fit xs) (suc d)) (list_all (λ (f : Fit). f.is_text) (map fit xs)) (list_fits d Label (label_fits d) xs b sp)
    (rw (list_all-map (λ (f : Fit). f.is_text) fit xs) all)

node_fits : (d : ℕ) → Fitted d (levels d) → (n : NodeValue) (b : List ℕ) → (levels (suc d)).node n b → IsTrue (fits_node n (suc d))
unfolding levels
node_fits zero h n b sp = absurd sp
node_fits (suc d) h n b sp = node_made n (suc d) (int_fits n.id sp.0 sp.3) (labels_fit d n.labels sp.1 sp.4) (h.dict n.props sp.2 sp.5)

fitted : (d : ℕ) → Fitted d (levels d)
unfolding levels
fitted zero = record { list = λ xs b sp. absurd sp; dict = λ ps b sp. absurd sp; node = λ n b sp. absurd sp }
fitted (suc d) =
    let inside = fitted d in
    let one = value_fits d (levels d) inside in
    record {
      list = list_fits d (Spells (levels d)) one;
      dict = dict_fits d (Spells (levels d)) one;
      node = node_fits d inside;
    }

pub spelled_fits : (d : ℕ) (x : Value) (b : List ℕ) → Spells (levels d) x b → IsTrue (fits_within x d)
spelled_fits d x b sp = value_fits d (levels d) (fitted d) x b sp
