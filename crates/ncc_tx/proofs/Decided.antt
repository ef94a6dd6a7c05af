-- The test of values, and of lists of rows, is equality.
use Rattle.std.proofs.Common.{◌≡◌, ℕ, ℤ, Bool, ◌&&◌, List, [], ◌∷◌, map, refl, sym, ap, ◌∙◌, subst, Decides}
use Rattle.std.specs.Str.{bytes_eq}
use Rattle.std.specs.Bool.{beq}
use Rattle.std.specs.Ordering.{int_eq}
use Rattle.std.specs.Cmp.{booleans_Decides}
use Rattle.std.proofs.lemmas.Bool.Decides.{Decides-at, Decides-like, Decides-and, Decides-int_eq}
use Rattle.std.proofs.lemmas.Slice.Eq.{bytes_eq-Decides}
use Rattle.ncc_pack.specs.declared.value.Value.{Value, ind-Value, map-Value, roll-Value, out-Value, out-roll-Value, roll-out-Value}
use Rattle.ncc_pack.specs.declared.value.Value.TheOpen.{Value-F, NodeValue-F}
use Rattle.ncc_pack.specs.declared.value.NodeValue.{NodeValue, map-NodeValue, roll-NodeValue}
use Rattle.ncc_tx.specs.Equal.{all_agree, layers_agree, equal, equal_nodes, equal_values, equal_rows, equal_lists, pair_equals}
use Rattle.ncc_tx.proofs.Agreeing.{Layer, tests_of, equal_by, items_agree, pairs_agree, nodes_by}

-- ---- lists

item_decided : {A : Type 0} (a b : Bool) (x y : A) (xs ys : List A) → Decides a (x ≡ y) → Decides b (xs ≡ ys) →
    Decides (a && b) (x ∷ xs ≡ y ∷ ys)
item_decided a b x y xs ys first rest = Decides-like (a && b) (λ e. cc (e.0, e.1)) (λ e. (cc, cc)) (Decides-and a b first rest)

-- the same test at each item
all_decided : {A : Type 0} (same : A → A → Bool) → ((x y : A) → Decides (same x y) (x ≡ y)) → (xs ys : List A) →
    Decides (all_agree same xs ys) (xs ≡ ys)
all_decided same h [] [] = (λ _. refl, λ _. refl)
all_decided same h (x ∷ xs) (y ∷ ys) = item_decided (same x y) (all_agree same xs ys) x y xs ys (h x y) (all_decided same h xs ys)
all_decided same h _ _ = (λ e. absurd (cc), λ e. absurd (cc))

-- at items that f makes of what is known
made_decided : {K A : Type 0} (f : K → A) (same : A → A → Bool) → ((k : K) (y : A) → Decides (same (f k) y) (f k ≡ y)) →
    (ks : List K) (ys : List A) → Decides (all_agree same (map f ks) ys) (map f ks ≡ ys)
made_decided f same h [] [] = (λ _. refl, λ _. refl)
made_decided f same h (k ∷ ks) (y ∷ ys) = item_decided (same (f k) y) (all_agree same (map f ks) ys) (f k) y (map f ks) ys (h k y)
    (made_decided f same h ks ys)
made_decided f same h _ _ = (λ e. absurd (cc), λ e. absurd (cc))

-- ---- values, by induction

abbrev Decided : Value → Type 0
Decided x = (y : Value) → Decides (equal x y) (x ≡ y)

abbrev DecidedNode : NodeValue → Type 0
DecidedNode n = (m : NodeValue) → Decides (equal_nodes n m) (n ≡ m)

-- a value and a node whose tests are equality
abbrev Known : Type 0
Known = (x : Value) × Decided x

abbrev KnownNode : Type 0
KnownNode = (n : NodeValue) × DecidedNode n

abbrev layer : Value-F Known KnownNode → Layer
layer k = map-Value Known KnownNode Value NodeValue (λ e. e.0) (λ e. e.0) k

abbrev pair_of : List ℕ × Known → List ℕ × Value
pair_of p = (p.0, p.1.0)

pair_decided : (p : List ℕ × Known) (q : List ℕ × Value) → Decides (pair_equals (pair_of p) q) (pair_of p ≡ q)
pair_decided p q =
    Decides-like (bytes_eq p.0 q.0 && equal p.1.0 q.1) (λ e. ap (λ k. (k, p.1.0)) e.0
    ∙ ap (λ x. (q.0, x)) e.1) (λ e. (ap (λ r. r.0) e, ap (λ r. r.1) e))
    (Decides-and (bytes_eq p.0 q.0) (equal p.1.0 q.1) (bytes_eq-Decides p.0 q.0) (p.1.1 q.1))

items_decided : (ks : List Known) (ys : List Value) → Decides (equal_values (map (λ e. e.0) ks) ys) (map (λ e. e.0) ks ≡ ys)
items_decided ks ys = made_decided (λ (e : Known). e.0) equal (λ k y. k.1 y) ks ys

pairs_decided : (ps : List (List ℕ × Known)) (qs : List (List ℕ × Value)) →
    Decides (all_agree pair_equals (map pair_of ps) qs) (map pair_of ps ≡ qs)
pairs_decided ps qs = made_decided pair_of pair_equals pair_decided ps qs

layer_decided : (k : Value-F Known KnownNode) (m : Layer) → Decides (layers_agree (tests_of (layer k)) m) (layer k ≡ m)
layer_decided Value-F.Null Value-F.Null = (λ _. refl, λ _. refl)
layer_decided (Value-F.Bool a) (Value-F.Bool b) = Decides-like (beq a b) (λ e. ap Value-F.Bool e) (λ e. cc) (booleans_Decides a b)
layer_decided (Value-F.Int a) (Value-F.Int b) = Decides-like (int_eq a b) (λ e. ap Value-F.Int e) (λ e. cc) (Decides-int_eq a b)
layer_decided (Value-F.Bytes a) (Value-F.Bytes b) = Decides-like (bytes_eq a b) (λ e. ap Value-F.Bytes e) (λ e. cc) (bytes_eq-Decides a b)
layer_decided (Value-F.Text a) (Value-F.Text b) = Decides-like (bytes_eq a b) (λ e. ap Value-F.Text e) (λ e. cc) (bytes_eq-Decides a b)
layer_decided (Value-F.List ks) (Value-F.List ys) =
    let xs : List Value = map (λ e. e.0) ks in
    Decides-at _ _ (items_agree xs ys) (Decides-like (equal_values xs ys) (λ e. ap Value-F.List e) (λ e. cc) (items_decided ks ys))
layer_decided (Value-F.Dict ps) (Value-F.Dict qs) =
    let rs : List (List ℕ × Value) = map pair_of ps in
    Decides-at _ _ (pairs_agree rs qs) (Decides-like (all_agree pair_equals rs qs) (λ e. ap Value-F.Dict e) (λ e. cc) (pairs_decided ps qs))
layer_decided (Value-F.Node n) (Value-F.Node m) = Decides-like (equal_nodes n.0 m) (λ e. ap Value-F.Node e) (λ e. cc) (n.1 m)
layer_decided _ _ = (λ e. absurd (cc), λ e. absurd (cc))

value_decided : (k : Value-F Known KnownNode) → Decided (roll-Value (layer k))
value_decided k y =
    let l : Layer = layer k in
    Decides-at (equal (roll-Value l) y) (layers_agree (tests_of l) (out-Value y)) (equal_by (roll-Value l) l refl y)
    (Decides-like (layers_agree (tests_of l) (out-Value y)) (λ e. ap roll-Value e ∙ roll-out-Value y) (λ e. sym (out-roll-Value l)
    ∙ ap out-Value e) (layer_decided k (out-Value y)))

abbrev node_layer : NodeValue-F Known KnownNode → NodeValue-F Value NodeValue
node_layer k = map-NodeValue Known KnownNode Value NodeValue (λ e. e.0) (λ e. e.0) k

same_node : (n m : NodeValue) → ((n.id ≡ m.id) × (n.labels ≡ m.labels)) × (n.props ≡ m.props) → n ≡ m
same_node n m e =
    let with_id : n ≡ record { id = m.id; labels = n.labels; props = n.props } =
    ap (λ (i : ℤ). roll-NodeValue (record { id = i; labels = n.labels; props = n.props })) e.0.0 in
    let with_labels : record { id = m.id; labels = n.labels; props = n.props } ≡ record {
      id = m.id;
      labels = m.labels;
      props = n.props;
    } = ap (λ (xs : List Value). roll-NodeValue (record { id = m.id; labels = xs; props = n.props })) e.0.1 in
    with_id ∙ with_labels ∙ ap (λ (ps : List (List ℕ × Value)). roll-NodeValue (record { id = m.id; labels = m.labels; props = ps })) e.1

node_decided : (k : NodeValue-F Known KnownNode) → DecidedNode (roll-NodeValue (node_layer k))
node_decided k m =
    let n : NodeValue = roll-NodeValue (node_layer k) in
    let labels : Decides (equal_values n.labels m.labels) (n.labels ≡ m.labels) = items_decided k.labels m.labels in
    let props : Decides (all_agree pair_equals n.props m.props) (n.props ≡ m.props) = pairs_decided k.props m.props in
    let ids : Decides (int_eq n.id m.id) (n.id ≡ m.id) = Decides-int_eq n.id m.id in
    Decides-at (equal_nodes n m) (int_eq n.id m.id && equal_values n.labels m.labels && all_agree pair_equals n.props m.props)
    (nodes_by n m)
    (Decides-like (int_eq n.id m.id && equal_values n.labels m.labels && all_agree pair_equals n.props m.props)
    (same_node n m) (λ e. ((ap (λ (a : NodeValue). a.id) e, ap (λ (a : NodeValue). a.labels) e), ap (λ (a : NodeValue). a.props) e))
    (Decides-and (int_eq n.id m.id && equal_values n.labels m.labels) (all_agree pair_equals n.props m.props)
    (Decides-and (int_eq n.id m.id) (equal_values n.labels m.labels) ids labels) props))

pub equal_decided : (x : Value) → Decided x
equal_decided = ind-Value Decided DecidedNode
    (λ x k is. subst (λ (l : Layer). Decided (roll-Value l)) is (value_decided k))
    (λ x k is. subst (λ (l : NodeValue-F Value NodeValue). DecidedNode (roll-NodeValue l)) is (node_decided k))

pub lists_decided : (xs ys : List (List (List Value))) → Decides (equal_lists xs ys) (xs ≡ ys)
lists_decided = all_decided equal_rows (all_decided equal_values (all_decided equal equal_decided))
