-- Steps of the loops that write items and pairs.
use Rattle.std.proofs.Common.{◌≡◌, ℕ, zero, suc, ◌+◌, ◌<◌, ◌≤◌, Bool, ◌&&◌, List, [], ◌∷◌, ◌++◌, length, map, take, get_or, refl, sym, ap}
use Rattle.std.proofs.Common.{◌∙◌, append_assoc, subst, arith}
use Rattle.std.specs.Prelude.{IsTrue, nat_le, false}
use Rattle.std.specs.List.{list_all}
use Rattle.std.proofs.lemmas.List.{append-nil, length-map}
use Rattle.std.proofs.lemmas.List.Folds.{list_all-map}
use Rattle.ncc_pack.specs.declared.value.Value.{Value, fold-roll-Value, map-Value, roll-Value}
use Rattle.ncc_pack.specs.declared.value.Value.TheOpen.{Value-F}
use Rattle.std.specs.Str.{is_utf8}
use Rattle.ncc_pack.specs.declared.value.NodeValue.{NodeValue, fold_out-NodeValue}
use Rattle.ncc_pack.specs.declared.value.Value.TheVariants as v
use Rattle.ncc_pack.specs.Limits.{max_size, max_depth}
use Rattle.ncc_pack.specs.Short.{concat, pairs, text, short, short_pair, short_node, short_step, node_step, integer, list, dict}
use Rattle.ncc_pack.specs.Fits.{Fit, fit, fits, fit_pair, fits_text, fits_list, fits_dict, fits_within, fits_node, fits_step}
use Rattle.ncc_pack.specs.Fits.{fits_node_step}
use Rattle.ncc_pack.specs.Writing.{SomeValue, SomeList, SomeDict, SomeNode}
use Rattle.ncc_pack.specs.Keys.{distinct}

pub joined_more : {A : Type 0} (f : A → List ℕ) (xs : List A) (i : ℕ) (d : A) → i < length xs
    → concat (map f (take (i + 1) xs)) ≡ concat (map f (take i xs)) ++ f (get_or xs i d)
joined_more f [] i d lt = absurd (omega arith)
joined_more f (x ∷ xs) zero d lt = append-nil (f x)
joined_more f (x ∷ xs) (suc i) d lt =
    let lt' : i < length xs = omega arith in
    let e : suc i + 1 ≡ suc (i + 1) = omega arith in
    rw e (ap (λ (t : List ℕ). f x ++ t) (joined_more f xs i d lt')
    ∙ sym (append_assoc (f x) (concat (map f (take i xs))) (f (get_or xs i d))))

pub spelled_more : (xs : List Value) (i : ℕ) (x : Value) → i < length xs → x ≡ get_or xs i x
    → concat (map short (take (i + 1) xs)) ≡ concat (map short (take i xs)) ++ short x
spelled_more xs i x lt e = joined_more short xs i x lt ∙ ap (λ (v : Value). concat (map short (take i xs)) ++ short v) (sym e)

pub pairs_more : (xs : List (List ℕ × Value)) (i : ℕ) (x : List ℕ × Value) → i < length xs → x ≡ get_or xs i x
    → pairs (map short_pair (take (i + 1) xs)) ≡ pairs (map short_pair (take i xs)) ++ (text x.0 ++ short x.1)
pairs_more [] i x lt e = absurd (omega arith)
pairs_more (y ∷ ys) zero x lt e = append-nil (text y.0 ++ short y.1) ∙ ap (λ (v : List ℕ × Value). text v.0 ++ short v.1) (sym e)
pairs_more (y ∷ ys) (suc i) x lt e =
    let lt' : i < length ys = omega arith in
    let k : suc i + 1 ≡ suc (i + 1) = omega arith in
    rw k (ap (λ (t : List ℕ). (text y.0 ++ short y.1) ++ t) (pairs_more ys i x lt' e)
    ∙ sym (append_assoc (text y.0 ++ short y.1) (pairs (map short_pair (take i ys))) (text x.0 ++ short x.1)))

pub step : (new into init a b c : List ℕ) → new ≡ into ++ b → into ≡ init ++ a → c ≡ a ++ b → new ≡ init ++ c
step new into init a b c e1 e2 e3 = e1 ∙ ap (λ (t : List ℕ). t ++ b) e2 ∙ append_assoc init a b ∙ ap (λ (t : List ℕ). init ++ t) (sym e3)

pub step_two : (new mid into init a b b' c : List ℕ) → new ≡ mid ++ b' → mid ≡ into ++ b → into ≡ init ++ a → c ≡ a ++ (b ++ b')
    → new ≡ init ++ c
step_two new mid into init a b b' c e0 e1 e2 e3 = step new into init a (b ++ b') c
    (e0 ∙ ap (λ (t : List ℕ). t ++ b') e1 ∙ append_assoc into b b') e2 e3

-- four parts, one behind the other
pub four : (init a b c d one two three : List ℕ) → one ≡ init ++ a → two ≡ one ++ b → three ≡ two ++ c
    → three ++ d ≡ init ++ (((a ++ b) ++ c) ++ d)
four init a b c d one two three e1 e2 e3 =
    let second : two ≡ init ++ (a ++ b) = rw (e2, e1) (append_assoc init a b) in
    let third : three ≡ init ++ ((a ++ b) ++ c) = rw (e3, second) (append_assoc init (a ++ b) c) in
    rw third (append_assoc init ((a ++ b) ++ c) d)

-- ---- what fits, and its parts

pub all_at : {A : Type 0} (p : A → Bool) (xs : List A) (i : ℕ) (d : A) → i < length xs → IsTrue (list_all p xs) → IsTrue (p (get_or xs i d))
all_at p [] i d lt h = absurd (omega arith)
all_at p (x ∷ xs) zero d lt h = grind arith
all_at p (x ∷ xs) (suc i) d lt h = let lt' : i < length xs = omega arith in let t : IsTrue (list_all p xs) =
    grind arith in all_at p xs i d lt' t

pub no_true : IsTrue false → ⊥
no_true h = cc

pub both : (a b : Bool) → IsTrue (a && b) → IsTrue a × IsTrue b
both a b h = grind arith

within_size : (n : ℕ) → IsTrue (nat_le n max_size) → n ≤ max_size
within_size n h = grind arith

pub list_parts : (xs : List Value) (d : ℕ) → IsTrue (fits_list (map fit xs) (suc d)) → (length xs ≤ max_size)
    × IsTrue (list_all (λ x. fits_within x d) xs)
list_parts xs d h =
    let p = both (nat_le (length (map fit xs)) max_size) (list_all (λ f. f.levels d) (map fit xs)) h in
    let same : length (map fit xs) ≡ length xs = length-map xs fit in
    (rw (← same) (within_size (length (map fit xs)) p.0), rw (← list_all-map (λ (f : Fit). f.levels d) fit xs) p.1)

abbrev pub pair_fits : ℕ → List ℕ × Value → Bool
pair_fits d p = fits_text p.0 && fits_within p.1 d

pub dict_parts : (ps : List (List ℕ × Value)) (d : ℕ) → IsTrue (fits_dict (map fit_pair ps) (suc d)) → (length ps ≤ max_size)
    × IsTrue (list_all (pair_fits d) ps)
dict_parts ps d h =
    let size = nat_le (length (map fit_pair ps)) max_size in
    let each = list_all (λ (p : List ℕ × Fit). fits_text p.0 && p.1.levels d) (map fit_pair ps) in
    let keys = distinct [] (map fit_pair ps) in
    let p : IsTrue size × IsTrue each = grind arith in
    let same : length (map fit_pair ps) ≡ length ps = length-map ps fit_pair in (
      rw (← same) (within_size (length (map fit_pair ps)) p.0),
      rw
          (← list_all-map (λ (p : List ℕ × Fit). fits_text p.0 && p.1.levels d) fit_pair ps) p.1,
    )

pub list_size : (xs : List Value) → SomeList xs → length xs ≤ max_size
unfolding SomeList
list_size xs (zero, h) = absurd (no_true h)
list_size xs (suc d, h) = (list_parts xs d h).0

pub dict_size : (ps : List (List ℕ × Value)) → SomeDict ps → length ps ≤ max_size
unfolding SomeDict
dict_size ps (zero, h) = absurd (no_true h)
dict_size ps (suc d, h) = (dict_parts ps d h).0

pub item_fits : (xs ys : List Value) (i : ℕ) (x : Value) → ys ≡ xs → i < length ys → x ≡ get_or ys i x → SomeList xs → SomeValue x
unfolding SomeList SomeValue
item_fits xs ys i x same lt is (zero, h) = absurd (no_true h)
item_fits xs ys i x same lt is (suc d, h) =
    let all : IsTrue (list_all (λ v. fits_within v d) ys) = rw same (list_parts xs d h).1 in
    (d, rw is (all_at (λ v. fits_within v d) ys i x lt all))

pub pair_parts : (ps qs : List (List ℕ × Value)) (i : ℕ) (p : List ℕ × Value) → qs ≡ ps → i < length qs → p ≡ get_or qs i p → SomeDict ps
    → (length p.0 ≤ max_size) × SomeValue p.1
unfolding SomeDict SomeValue
pair_parts ps qs i p same lt is (zero, h) = absurd (no_true h)
pair_parts ps qs i p same lt is (suc d, h) =
    let all : IsTrue (list_all (pair_fits d) qs) = rw same (dict_parts ps d h).1 in
    let u : IsTrue (pair_fits d p) = rw is (all_at (pair_fits d) qs i p lt all) in
    let b = both (fits_text p.0) (fits_within p.1 d) u in
    (within_size (length p.0) (both (nat_le (length p.0) max_size) _ b.0).0, (d, b.1))

-- a node from its fields
pub node_fits_by : (n : NodeValue) → fits_node n ≡ fits_node_step
    (record { id = n.id; labels = map fit n.labels; props = map fit_pair n.props })
node_fits_by n = fold_out-NodeValue Fit (ℕ → Bool) fits_step fits_node_step n

pub node_short_by : (n : NodeValue) → short_node n ≡ 0xB3 ∷ 0x4E ∷ integer n.id ++ list (map short n.labels) ++ dict
    (map short_pair n.props)
node_short_by n = fold_out-NodeValue (List ℕ) (List ℕ) short_step node_step n

-- a node's tag and its three fields, one behind the other
pub node_written : (n : NodeValue) (init one two three : List ℕ) → one ≡ init ++ 0xB3 ∷ 0x4E ∷ [] → two ≡ one ++ integer n.id
    → three ≡ two ++ list (map short n.labels) → three ++ dict (map short_pair n.props) ≡ init ++ short_node n
node_written n init one two three e1 e2 e3 =
    four init (0xB3 ∷ 0x4E ∷ []) (integer n.id) (list (map short n.labels)) (dict (map short_pair n.props)) one two three e1 e2 e3
    ∙ rw (node_short_by n) refl

pub node_labels : (n : NodeValue) → SomeNode n → SomeList n.labels
unfolding SomeNode SomeList
node_labels n (zero, h) = absurd (no_true (subst (λ (f : ℕ → Bool). IsTrue (f 0)) (node_fits_by n) h))
node_labels n (suc d, h) =
    let h' = subst (λ (f : ℕ → Bool). IsTrue (f (suc d))) (node_fits_by n) h in
    (d, grind arith)

pub node_props : (n : NodeValue) → SomeNode n → SomeDict n.props
unfolding SomeNode SomeDict
node_props n (zero, h) = absurd (no_true (subst (λ (f : ℕ → Bool). IsTrue (f 0)) (node_fits_by n) h))
node_props n (suc d, h) =
    let h' = subst (λ (f : ℕ → Bool). IsTrue (f (suc d))) (node_fits_by n) h in
    (d, grind arith)

-- each kind of value, from the value

-- what fits says of each kind
pub fit_of : (x : Value) (l : Value-F Value NodeValue) → roll-Value l ≡ x
    → fit x ≡ fits_step (map-Value Value NodeValue Fit (ℕ → Bool) fit fits_node l)
fit_of x l e = ap fit (sym e) ∙ fold-roll-Value Fit (ℕ → Bool) fits_step fits_node_step l

levels_by : (x : Value) (f : Fit) (d : ℕ) → fit x ≡ f → IsTrue (fits_within x d) → IsTrue (f.levels d)
levels_by x f d e h = subst (λ (g : Fit). IsTrue (g.levels d)) e h

pub bytes_size : (b : List ℕ) → SomeValue (v.Bytes b) → length b ≤ max_size
unfolding SomeValue
bytes_size b (d, h) = within_size (length b) (levels_by (v.Bytes b) (fits_step (Value-F.Bytes b)) d
    (fit_of (v.Bytes b) (Value-F.Bytes b) (v.rolls-Bytes b)) h)

pub text_size : (t : List ℕ) → SomeValue (v.Text t) → length t ≤ max_size
unfolding SomeValue
text_size t (d, h) = within_size (length t) (both (nat_le (length t) max_size) (is_utf8 t)
    (levels_by (v.Text t) (fits_step (Value-F.Text t)) d (fit_of (v.Text t) (Value-F.Text t) (v.rolls-Text t)) h)).0

pub value_list : (xs : List Value) → SomeValue (v.List xs) → SomeList xs
unfolding SomeValue SomeList
value_list xs (d, h) = (
  d,
  levels_by (v.List xs) (fits_step (Value-F.List (map fit xs))) d
      (fit_of (v.List xs) (Value-F.List xs) (v.rolls-List xs)) h,
)

pub value_dict : (ps : List (List ℕ × Value)) → SomeValue (v.Dict ps) → SomeDict ps
unfolding SomeValue SomeDict
value_dict ps (d, h) = (
  d,
  levels_by (v.Dict ps) (fits_step (Value-F.Dict (map fit_pair ps))) d
      (fit_of (v.Dict ps) (Value-F.Dict ps) (v.rolls-Dict ps)) h,
)

pub value_node : (n : NodeValue) → SomeValue (v.Node n) → SomeNode n
unfolding SomeValue SomeNode
value_node n (d, h) = (
  d,
  levels_by (v.Node n) (fits_step (Value-F.Node (fits_node n))) d
      (fit_of (v.Node n) (Value-F.Node n) (v.rolls-Node n)) h,
)

pub whole_value : (x : Value) → IsTrue (fits x) → SomeValue x
unfolding SomeValue
whole_value x h = (max_depth, h)

-- ---- a text, a list and a dictionary by themselves

short_of : (x : Value) (l : Value-F Value NodeValue) → roll-Value l ≡ x
    → short x ≡ short_step (map-Value Value NodeValue (List ℕ) (List ℕ) short short_node l)
short_of x l e = ap short (sym e) ∙ fold-roll-Value (List ℕ) (List ℕ) short_step node_step l

pub short_text : (t : List ℕ) → short (v.Text t) ≡ text t
short_text t = short_of (v.Text t) (Value-F.Text t) (v.rolls-Text t)

pub short_list : (xs : List Value) → short (v.List xs) ≡ list (map short xs)
short_list xs = short_of (v.List xs) (Value-F.List xs) (v.rolls-List xs)

pub short_dict : (ps : List (List ℕ × Value)) → short (v.Dict ps) ≡ dict (map short_pair ps)
short_dict ps = short_of (v.Dict ps) (Value-F.Dict ps) (v.rolls-Dict ps)

pub short_node_value : (n : NodeValue) → short (v.Node n) ≡ short_node n
short_node_value n = short_of (v.Node n) (Value-F.Node n) (v.rolls-Node n)

pub text_fits : (t : List ℕ) → IsTrue (fits (v.Text t)) → length t ≤ max_size
text_fits t h = text_size t (whole_value (v.Text t) h)

pub list_fits : (xs : List Value) → IsTrue (fits (v.List xs)) → SomeList xs
list_fits xs h = value_list xs (whole_value (v.List xs) h)

pub dict_fits : (ps : List (List ℕ × Value)) → IsTrue (fits (v.Dict ps)) → SomeDict ps
dict_fits ps h = value_dict ps (whole_value (v.Dict ps) h)
