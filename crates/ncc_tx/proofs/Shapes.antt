-- Which values are of no shape.
use Rattle.std.proofs.Common.{◌≡◌, List, [], ◌∷◌, ◌++◌, length, map, sym, ap, ◌∙◌, arith}
use Rattle.std.specs.Prelude.{IsTrue}
use Rattle.std.proofs.lemmas.List.{length-map}
use Rattle.ncc_pack.specs.declared.value.Value.{Value}
use Rattle.ncc_pack.specs.declared.value.Value.TheVariants as v
use Rattle.ncc_store.specs.declared.call.Call.{Call}
use Rattle.ncc_tx.specs.declared.shape.Shape.{Shape}
use Rattle.ncc_tx.specs.declared.shape.Shape.TheVariants as h
use Rattle.ncc_tx.specs.Spelled.{calls_value, call_value, told_value, rows_value, pair_value, shape_value, paired}
use Rattle.ncc_tx.proofs.Layers.{list_same, null_is_no_list}
use Rattle.ncc_tx.proofs.Steps.{one_of}

-- ---- a list with an item that is none

pub no_list : {A : Type 0} (f : A → Value) (value : Value) (front items rest : List Value) (x : Value) →
    value ≡ v.List (front ++ items) → items ≡ x ∷ rest → ((y : A) → x ≡ f y → ⊥) → (ys : List A) → value ≡ v.List (map f ys) → ⊥
no_list f value front items rest x e is none ys g =
    let same : front ++ items ≡ map f ys = list_same (front ++ items) (map f ys) (sym e ∙ g) in
    let o = one_of f front rest x ys (ap (λ (t : List Value). front ++ t) (sym is) ∙ same) in
    none o.0 o.1

-- ---- a value that is neither null nor a pair, and a pair of lists that differ in length

pub no_shape : (x : Value) → (x ≡ v.Null → ⊥) → ((p : Value × Value) → x ≡ pair_value p → ⊥) → (s : Shape) → IsTrue (paired s) →
    x ≡ shape_value s → ⊥
no_shape x null pair h.Noop same e = null e
no_shape x null pair (h.Tx calls told) same e = pair (calls_value calls, told_value told) e

lengths : {A : Type 0} (f : A → Value) (xs ys : List A) → v.List (map f xs) ≡ v.List (map f ys) → length xs ≡ length ys
lengths f xs ys e = sym (length-map xs f) ∙ ap length (list_same (map f xs) (map f ys) e) ∙ length-map ys f

pub differ : (x front back : Value) (calls : List Call) (told : List (List (List Value))) → x ≡ pair_value (front, back) →
    front ≡ calls_value calls → back ≡ told_value told → (length calls ≡ length told → ⊥)
    → (s : Shape) → IsTrue (paired s) → x ≡ shape_value s → ⊥
differ x front back calls told e f g other h.Noop same k = null_is_no_list (front ∷ back ∷ []) (sym k ∙ e)
differ x front back calls told e f g other (h.Tx cs ts) same k =
    let both = list_same (front ∷ back ∷ []) (calls_value cs ∷ told_value ts ∷ []) (sym e ∙ k) in
    let first : calls_value calls ≡ calls_value cs = cc in
    let second : told_value told ≡ told_value ts = cc in
    let one = lengths call_value calls cs first in
    let two = lengths rows_value told ts second in
    let three : length cs ≡ length ts = grind arith in
    other (one ∙ three ∙ sym two)
