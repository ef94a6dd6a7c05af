-- What `equal` says of a value and of a node, by their parts.
use Rattle.std.proofs.Common.{◌≡◌, ℕ, Bool, ◌&&◌, List, [], ◌∷◌, map, refl, sym, ap, ◌∙◌}
use Rattle.std.specs.Ordering.{int_eq}
use Rattle.ncc_pack.specs.declared.value.Value.{Value, fold-roll-Value, map-Value, roll-Value, out-Value, out-roll-Value}
use Rattle.ncc_pack.specs.declared.value.Value.TheOpen.{Value-F}
use Rattle.ncc_pack.specs.declared.value.Value.TheVariants as v
use Rattle.ncc_pack.specs.declared.value.NodeValue.{NodeValue, fold_out-NodeValue}
use Rattle.ncc_tx.specs.Equal.{all_agree, Test, passes, pair_passes, layers_agree, value_step, node_step, equal, equal_nodes}
use Rattle.ncc_tx.specs.Equal.{equal_values, pair_equals}

abbrev pub Layer : Type 0
Layer = Value-F Value NodeValue

-- the layer of a value with the tests of its parts
abbrev pub tests_of : Layer → Value-F Test (NodeValue → Bool)
tests_of l = map-Value Value NodeValue Test (NodeValue → Bool) equal equal_nodes l

abbrev pub test_pair : List ℕ × Value → List ℕ × Test
test_pair p = (p.0, equal p.1)

pub equal_by : (x : Value) (l : Layer) → roll-Value l ≡ x → (y : Value) → equal x y ≡ layers_agree (tests_of l) (out-Value y)
equal_by x l e y = ap (λ (z : Value). equal z y) (sym e)
    ∙ ap (λ (t : Test). t y) (fold-roll-Value Test (NodeValue → Bool) value_step node_step l)

pub equal_both : (x y : Value) (l m : Layer) → roll-Value l ≡ x → roll-Value m ≡ y → equal x y ≡ layers_agree (tests_of l) m
equal_both x y l m e f = equal_by x l e y ∙ ap (λ (z : Value). layers_agree (tests_of l) (out-Value z)) (sym f)
    ∙ ap (layers_agree (tests_of l)) (out-roll-Value m)

pub items_agree : (xs ys : List Value) → all_agree passes (map equal xs) ys ≡ equal_values xs ys
items_agree [] [] = refl
items_agree [] (y ∷ ys) = refl
items_agree (x ∷ xs) [] = refl
items_agree (x ∷ xs) (y ∷ ys) = ap (λ (b : Bool). equal x y && b) (items_agree xs ys)

pub pairs_agree : (ps qs : List (List ℕ × Value)) → all_agree pair_passes (map test_pair ps) qs ≡ all_agree pair_equals ps qs
pairs_agree [] [] = refl
pairs_agree [] (q ∷ qs) = refl
pairs_agree (p ∷ ps) [] = refl
pairs_agree (p ∷ ps) (q ∷ qs) = ap (λ (b : Bool). pair_equals p q && b) (pairs_agree ps qs)

pub lists_by : (xs ys : List Value) → equal_values xs ys ≡ equal (v.List xs) (v.List ys)
lists_by xs ys = sym (equal_both (v.List xs) (v.List ys) (Value-F.List xs) (Value-F.List ys) (v.rolls-List xs) (v.rolls-List ys)
    ∙ items_agree xs ys)

pub dicts_by : (ps qs : List (List ℕ × Value)) → all_agree pair_equals ps qs ≡ equal (v.Dict ps) (v.Dict qs)
dicts_by ps qs = sym (equal_both (v.Dict ps) (v.Dict qs) (Value-F.Dict ps) (Value-F.Dict qs) (v.rolls-Dict ps) (v.rolls-Dict qs)
    ∙ pairs_agree ps qs)

pub nodes_by : (n m : NodeValue) →
    equal_nodes n m ≡ (int_eq n.id m.id && equal_values n.labels m.labels && all_agree pair_equals n.props m.props)
nodes_by n m =
    ap (λ (t : NodeValue → Bool). t m) (fold_out-NodeValue Test (NodeValue → Bool) value_step node_step n)
    ∙ ap (λ (b : Bool). int_eq n.id m.id && b && all_agree pair_passes (map test_pair n.props) m.props) (items_agree n.labels m.labels)
    ∙ ap (λ (b : Bool). int_eq n.id m.id && equal_values n.labels m.labels && b) (pairs_agree n.props m.props)
