-- When two values (PackStream version 1, "Data types") are equal, as a test: kind by kind, and item by item in their order.
use Rattle.std.specs.Prelude.{ℕ, Bool, true, false, ◌&&◌, List, [], ◌∷◌}
use Rattle.std.specs.Bool.{beq}
use Rattle.std.specs.Ordering.{int_eq}
use Rattle.std.specs.Str.{bytes_eq}
use Rattle.ncc_pack.specs.declared.value.Value.{Value, fold-Value, out-Value}
use Rattle.ncc_pack.specs.declared.value.NodeValue.{NodeValue, fold-NodeValue}
use Rattle.ncc_pack.specs.declared.value.Value.TheOpen.{Value-F, NodeValue-F}

-- lists of equal length whose items agree one by one
abbrev pub all_agree : {A B : Type 0} → (A → B → Bool) → List A → List B → Bool
all_agree same [] [] = true
all_agree same (x ∷ xs) (y ∷ ys) = same x y && all_agree same xs ys
all_agree same _ _ = false

-- a test for each part of the one value, and the parts of the other
abbrev pub Test : Type 0
Test = Value → Bool

abbrev pub passes : Test → Value → Bool
passes test y = test y

abbrev pub pair_passes : List ℕ × Test → List ℕ × Value → Bool
pair_passes p q = bytes_eq p.0 q.0 && p.1 q.1

abbrev pub layers_agree : Value-F Test (NodeValue → Bool) → Value-F Value NodeValue → Bool
layers_agree Value-F.Null Value-F.Null = true
layers_agree (Value-F.Bool a) (Value-F.Bool b) = beq a b
layers_agree (Value-F.Int a) (Value-F.Int b) = int_eq a b
layers_agree (Value-F.Bytes a) (Value-F.Bytes b) = bytes_eq a b
layers_agree (Value-F.Text a) (Value-F.Text b) = bytes_eq a b
layers_agree (Value-F.List xs) (Value-F.List ys) = all_agree passes xs ys
layers_agree (Value-F.Dict ps) (Value-F.Dict qs) = all_agree pair_passes ps qs
layers_agree (Value-F.Node n) (Value-F.Node m) = n m
layers_agree _ _ = false

abbrev pub value_step : Value-F Test (NodeValue → Bool) → Test
value_step x y = layers_agree x (out-Value y)

abbrev pub node_step : NodeValue-F Test (NodeValue → Bool) → NodeValue → Bool
node_step n m = int_eq n.id m.id && all_agree passes n.labels m.labels && all_agree pair_passes n.props m.props

abbrev pub equal : Value → Value → Bool
equal = fold-Value Test (NodeValue → Bool) value_step node_step

abbrev pub equal_nodes : NodeValue → NodeValue → Bool
equal_nodes = fold-NodeValue Test (NodeValue → Bool) value_step node_step

-- a row, the rows of a step, and those of all steps
abbrev pub equal_values : List Value → List Value → Bool
equal_values = all_agree equal

abbrev pub equal_rows : List (List Value) → List (List Value) → Bool
equal_rows = all_agree equal_values

abbrev pub equal_lists : List (List (List Value)) → List (List (List Value)) → Bool
equal_lists = all_agree equal_rows

abbrev pub pair_equals : List ℕ × Value → List ℕ × Value → Bool
pair_equals p q = bytes_eq p.0 q.0 && equal p.1 q.1
