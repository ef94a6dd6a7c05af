-- What fits within some levels fits within one more.
use Rattle.std.proofs.Common.{◌≡◌, ℕ, zero, suc, ◌≤◌, Bool, ◌&&◌, List, [], ◌∷◌, length, map, sym, subst, arith}
use Rattle.std.specs.Prelude.{IsTrue, nat_le}
use Rattle.std.specs.List.{list_all}
use Rattle.std.proofs.lemmas.Bool.{le-leb}
use Rattle.std.proofs.lemmas.List.{length-map}
use Rattle.std.proofs.lemmas.List.Folds.{list_all-map}
use Rattle.ncc_pack.specs.declared.value.Value.{Value, out-Value, roll-out-Value, map-Value}
use Rattle.ncc_pack.specs.declared.value.Value.TheOpen.{Value-F}
use Rattle.ncc_pack.specs.declared.value.NodeValue.{NodeValue}
use Rattle.ncc_pack.specs.Limits.{max_size}
use Rattle.ncc_pack.specs.Keys.{distinct}
use Rattle.ncc_pack.specs.Fits.{Fit, fit, fit_pair, fits_i64, fits_text, fits_list, fits_dict, fits_labels, fits_step, fits_node}
use Rattle.ncc_pack.specs.Fits.{fits_within}
use Rattle.ncc_pack.proofs.Loops.{no_true, both, list_parts, dict_parts, pair_fits, node_fits_by, fit_of}
use Rattle.ncc_pack.proofs.Fitting.{same_keys}

-- ---- what fits, from its parts

pub joined : (a b : Bool) → IsTrue a → IsTrue b → IsTrue (a && b)
joined a b s t = grind arith

pub all_by : {A : Type 0} (p q : A → Bool) → ((x : A) → IsTrue (p x) → IsTrue (q x)) → (xs : List A) → IsTrue (list_all p xs)
    → IsTrue (list_all q xs)
all_by p q h [] t = t
all_by p q h (x ∷ xs) t =
    let b = both (p x) (list_all p xs) t in
    joined (q x) (list_all q xs) (h x b.0) (all_by p q h xs b.1)

pub list_made : (xs : List Value) (d : ℕ) → length xs ≤ max_size → IsTrue (list_all (λ x. fits_within x d) xs)
    → IsTrue (fits_list (map fit xs) (suc d))
list_made xs d le all =
    let size : IsTrue (nat_le (length (map fit xs)) max_size) = rw (length-map xs fit) (le-leb (length xs) max_size le) in
    joined (nat_le (length (map fit xs)) max_size) (list_all (λ (f : Fit). f.levels d) (map fit xs)) size
    (rw (list_all-map (λ (f : Fit). f.levels d) fit xs) all)

pub dict_made : (ps : List (List ℕ × Value)) (d : ℕ) → length ps ≤ max_size → IsTrue (list_all (pair_fits d) ps) → IsTrue (distinct [] ps)
    → IsTrue (fits_dict (map fit_pair ps) (suc d))
dict_made ps d le all new =
    let size : IsTrue (nat_le (length (map fit_pair ps)) max_size) = rw (length-map ps fit_pair) (le-leb (length ps) max_size le) in
    let each : IsTrue (list_all (λ (p : List ℕ × Fit). fits_text p.0 && p.1.levels d) (map fit_pair ps)) =
    rw (list_all-map (λ (p : List ℕ × Fit). fits_text p.0 && p.1.levels d) fit_pair ps) all in
    let keys : IsTrue (distinct [] (map fit_pair ps)) = rw (same_keys [] ps) new in
    grind arith

pub node_made : (n : NodeValue) (d : ℕ) → IsTrue (fits_i64 n.id) → IsTrue (fits_labels (map fit n.labels) d)
    → IsTrue (fits_dict (map fit_pair n.props) d) → IsTrue (fits_node n (suc d))
node_made n d id labels props =
    let parts : IsTrue (fits_i64 n.id && fits_labels (map fit n.labels) d && fits_dict (map fit_pair n.props) d) = grind arith in
    subst (λ (g : ℕ → Bool). IsTrue (g (suc d))) (sym (node_fits_by n)) parts

-- ---- one level more

-- what the lists, dictionaries and nodes do with one level more
pub record Grows (d : ℕ) : Type 0 where
  pub list : (xs : List Value) → IsTrue (fits_list (map fit xs) d) → IsTrue (fits_list (map fit xs) (suc d))
  pub dict : (ps : List (List ℕ × Value)) → IsTrue (fits_dict (map fit_pair ps) d) → IsTrue (fits_dict (map fit_pair ps) (suc d))
  pub node : (n : NodeValue) → IsTrue (fits_node n d) → IsTrue (fits_node n (suc d))

abbrev Deeper : ℕ → Type 0
Deeper d = (x : Value) → IsTrue (fits_within x d) → IsTrue (fits_within x (suc d))

abbrev layer_fit : Value-F Value NodeValue → Fit
layer_fit l = fits_step (map-Value Value NodeValue Fit (ℕ → Bool) fit fits_node l)

layer_deeper : (d : ℕ) → Grows d → (l : Value-F Value NodeValue) → IsTrue ((layer_fit l).levels d) → IsTrue ((layer_fit l).levels (suc d))
layer_deeper d h Value-F.Null f = f
layer_deeper d h (Value-F.Bool b) f = f
layer_deeper d h (Value-F.Int z) f = f
layer_deeper d h (Value-F.Bytes b) f = f
layer_deeper d h (Value-F.Text t) f = f
layer_deeper d h (Value-F.List xs) f = h.list xs f
layer_deeper d h (Value-F.Dict ps) f = h.dict ps f
layer_deeper d h (Value-F.Node n) f = h.node n f

value_deeper : (d : ℕ) → Grows d → Deeper d
value_deeper d h x f =
    let is : fit x ≡ layer_fit (out-Value x) = fit_of x (out-Value x) (roll-out-Value x) in
    let inner : IsTrue ((layer_fit (out-Value x)).levels d) = subst (λ (g : Fit). IsTrue (g.levels d)) is f in
    subst (λ (g : Fit). IsTrue (g.levels (suc d))) (sym is) (layer_deeper d h (out-Value x) inner)

list_deeper : (d : ℕ) → Deeper d → (xs : List Value) → IsTrue (fits_list (map fit xs) (suc d))
    → IsTrue (fits_list (map fit xs) (suc (suc d)))
list_deeper d h xs f =
    let p = list_parts xs d f in
    list_made xs (suc d) p.0 (all_by (λ x. fits_within x d) (λ x. fits_within x (suc d)) h xs p.1)

pair_deeper : (d : ℕ) → Deeper d → (p : List ℕ × Value) → IsTrue (pair_fits d p) → IsTrue (pair_fits (suc d) p)
pair_deeper d h p f =
    let b = both (fits_text p.0) (fits_within p.1 d) f in
    joined (fits_text p.0) (fits_within p.1 (suc d)) b.0 (h p.1 b.1)

dict_deeper : (d : ℕ) → Deeper d → (ps : List (List ℕ × Value)) → IsTrue (fits_dict (map fit_pair ps) (suc d))
    → IsTrue (fits_dict (map fit_pair ps) (suc (suc d)))
dict_deeper d h ps f =
    let p = dict_parts ps d f in
    let keys : IsTrue (distinct [] (map fit_pair ps)) = grind arith in
    dict_made ps (suc d) p.0 (all_by (pair_fits d) (pair_fits (suc d)) (pair_deeper d h) ps p.1) (rw (← same_keys [] ps) keys)

node_deeper : (d : ℕ) → Grows d → (n : NodeValue) → IsTrue (fits_node n (suc d)) → IsTrue (fits_node n (suc (suc d)))
node_deeper d h n f =
    let f' = subst (λ (g : ℕ → Bool). IsTrue (g (suc d))) (node_fits_by n) f in
    let id : IsTrue (fits_i64 n.id) = grind arith in
    let labels : IsTrue (fits_labels (map fit n.labels) d) = grind arith in
    let props : IsTrue (fits_dict (map fit_pair n.props) d) = grind arith in
    let l = both (fits_list (map fit n.labels) d) (list_all (λ f. f.is_text) (map fit n.labels)) labels in
    let labels' : IsTrue (fits_labels (map fit n.labels) (suc d)) =
    joined (fits_list (map fit n.labels) (suc d)) (list_all (λ f. f.is_text) (map fit n.labels)) (h.list n.labels l.0) l.1 in
    node_made n (suc d) id labels' (h.dict n.props props)

grows : (d : ℕ) → Grows d
grows zero = record {
  list = λ xs f. absurd (no_true f);
  dict = λ ps f. absurd (no_true f);
  node =
      λ n f. absurd (no_true (subst (λ (g : ℕ → Bool). IsTrue (g 0)) (node_fits_by n) f));
}
grows (suc d) = record {
  list = list_deeper d (value_deeper d (grows d));
  dict = dict_deeper d (value_deeper d (grows d));
  node =
      node_deeper d (grows d);
}

pub deeper : (x : Value) (d : ℕ) → IsTrue (fits_within x d) → IsTrue (fits_within x (suc d))
deeper x d f = value_deeper d (grows d) x f
