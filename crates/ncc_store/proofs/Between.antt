-- Between two stores there is one least delta.
use Rattle.std.proofs.Common.{◌≡◌, ℤ, pos, ◌<ℤ◌, ◌≤ℤ◌, int_lt, Bool, true, false, cond, ◌||◌, List, [], ◌∷◌, map, All, Option, Some}
use Rattle.std.proofs.Common.{None, IsSome, is_some, int_cmp, int_eq, refl, sym, ap, ap₂, subst, ◌∙◌, arith}
use Rattle.std.specs.List.{list_any}
use Rattle.std.specs.List.Sorted.{IsStrictlySortedBy}
use Rattle.std.proofs.lemmas.Int.{ints}
use Rattle.std.proofs.lemmas.List.Elements.{All-nil, All-cons, All-head, All-tail}
use Rattle.ncc_store.specs.declared.node.StoredNode.{StoredNode}
use Rattle.ncc_store.specs.declared.ran.Delta.{Delta}
use Rattle.ncc_store.specs.Graph.{Graph, IsGraph, find, ids}
use Rattle.ncc_store.specs.Delta.{applied, IsOver, IsLeast}
use Rattle.ncc_store.specs.Layers.{Written, written_at, seen, IsWritten, IsLayered}
use Rattle.ncc_store.proofs.Placed.{same_id, itself, apart, above_apart, is_lt_false, lt_is_true, lt_is_false, find_nil, find_here}
use Rattle.ncc_store.proofs.Placed.{find_past, found_id, All_found, same_found}
use Rattle.ncc_store.proofs.Written.{written_holds}
use Rattle.ncc_store.proofs.Seen.{flat, over, nodes_at, find_seen}
use Rattle.ncc_store.proofs.Changes.{put_of, gone_of, is_removed, find_put_at, any_gone, low_keys}
use Rattle.ncc_store.proofs.Earlier.{entries_of, layered_earlier, put_back, gone_back, applied_earlier, inside}

-- ---- ids in order that are among the same lists are one list

abbrev bare : ℤ → StoredNode
bare i = record { id = i; label = []; props = [] }

find_bare : (id : ℤ) (is : List ℤ) → find id (map bare is) ≡ cond (list_any (int_eq id) is) (Some (bare id)) None
find_bare id [] = find_nil id
find_bare id (i ∷ is) = go (int_eq i id) refl (find_bare id is) where
  go : (t : Bool) → int_eq i id ≡ t → find id (map bare is) ≡ cond (list_any (int_eq id) is) (Some (bare id)) None
      → find id (bare i ∷ map bare is) ≡ cond (int_eq id i || list_any (int_eq id) is) (Some (bare id)) None
  go true e again =
      let same : i ≡ id = same_id i id e in
      find_here id (bare i) (map bare is) same ∙ ap (λ (j : ℤ). Some (bare j)) same
      ∙ sym (ap (λ (t : Bool). cond (t || list_any (int_eq id) is) (Some (bare id)) None) (ap (int_eq id) same ∙ itself id))
  go false e again =
      let past : int_eq id i ≡ false = apart id i (λ k. absurd (let f : true ≡ false = sym (itself i) ∙ ap (int_eq i) (sym k) ∙ e in cc)) in
      find_past id (bare i) (map bare is) e ∙ again ∙ sym (ap (λ (t : Bool). cond (t || list_any (int_eq id) is) (Some (bare id)) None)
      past)

ids_bare : (is : List ℤ) → ids (map bare is) ≡ is
ids_bare [] = refl
ids_bare (i ∷ is) = ap (λ (js : List ℤ). i ∷ js) (ids_bare is)

same_ids : (is js : List ℤ) → IsStrictlySortedBy int_cmp is → IsStrictlySortedBy int_cmp js → ((id : ℤ) → list_any (int_eq id) is
    ≡ list_any (int_eq id) js) → is ≡ js
same_ids is js a b h =
    sym (ids_bare is)
    ∙ ap ids (same_found (map bare is) (map bare js) (subst (IsStrictlySortedBy int_cmp) (sym (ids_bare is)) a)
    (subst (IsStrictlySortedBy int_cmp) (sym (ids_bare js)) b)
    (λ id. find_bare id is ∙ ap (λ (t : Bool). cond t (Some (bare id)) None) (h id) ∙ sym (find_bare id js)))
    ∙ ids_bare js

none_from : (id k : ℤ) (is : List ℤ) → All (λ j. j <ℤ k) is → k ≤ℤ id → list_any (int_eq id) is ≡ false
none_from id k [] all le = refl
none_from id k (i ∷ is) all le =
    let lt : i <ℤ k = All-head (λ j. j <ℤ k) i is all in
    ap (λ (t : Bool). t || list_any (int_eq id) is) (above_apart id i (omega (arith, ints)))
    ∙ none_from id k is (All-tail (λ j. j <ℤ k) i is all) le

-- ---- what is written of each

module _ (g : Graph) (legal : IsGraph g) where
  abbrev at : Delta → ℤ → Option (Option StoredNode)
  at d id = written_at id (entries_of d)

  sees : (d : Delta) → IsOver g d → (id : ℤ) → find id (applied d g).nodes ≡ over (at d id) (find id g.nodes)
  sees d o id = ap (λ (h : Graph). find id h.nodes) (sym (applied_earlier g d legal o)) ∙ find_seen g d.next (entries_of d)
      (layered_earlier g d legal o) id

  put_at : (d : Delta) → IsOver g d → (id : ℤ) → find id d.put ≡ cond (int_lt id (pos 0)) None (flat (at d id))
  put_at d o id =
      let l : IsLayered g d.next (entries_of d) = layered_earlier g d legal o in
      ap (find id) (sym (put_back g d legal o)) ∙ find_put_at id (entries_of d) (nodes_at g d.next (entries_of d) l) l.ordered
      (low_keys g d.next (entries_of d) l)

  gone_at : (d : Delta) → IsOver g d → (id : ℤ) → int_lt id g.next ≡ true → list_any (int_eq id) d.gone ≡ is_removed (at d id)
  gone_at d o id lt = ap (list_any (int_eq id)) (sym (gone_back g d legal o)) ∙ any_gone id g.next (entries_of d)
      (layered_earlier g d legal o).ordered lt

  written_so : (d : Delta) → IsOver g d → (id : ℤ) (w : Option StoredNode) → at d id ≡ Some w → IsWritten g d.next (id, w)
  written_so d o id w e = written_holds (IsWritten g d.next) id (entries_of d) w (layered_earlier g d legal o).written e

  -- what is put is not there just so
  changes : (d : Delta) → IsOver g d → IsLeast g d → (id : ℤ) (m : StoredNode) → at d id ≡ Some (Some m) → find id g.nodes ≡ Some m → ⊥
  changes d o least id m e f =
      let low : pos 0 ≤ℤ id = (written_so d o id (Some m) e).0 in
      let found : find id d.put ≡ Some m = put_at d o id ∙ ap (λ (t : Bool). cond t None (flat (at d id))) (is_lt_false id (pos 0) low)
      ∙ ap flat e in
      All_found (λ n. find n.id g.nodes ≡ Some n → ⊥) id d.put m least found (ap (λ (i : ℤ). find i g.nodes) (found_id id d.put m found)
      ∙ f)

  -- what is gone was there
  stood : (d : Delta) → IsOver g d → (id : ℤ) → int_lt id g.next ≡ true → at d id ≡ Some None → find id g.nodes ≡ None → ⊥
  stood d o id lt e f = let there : IsSome (find id g.nodes) = (written_so d o id None e).2 (lt_is_true id g.next lt) in
      absurd (let k : true ≡ false = sym there ∙ ap is_some f in cc)

  -- of one of the two, nothing is written at an id; of the other, something is
  one_side : (d : Delta) → IsOver g d → IsLeast g d → (id : ℤ) (w : Option StoredNode) → at d id ≡ Some w → find id g.nodes ≡ w
      → flat (Some w) ≡ None
  one_side d o least id None e f = refl
  one_side d o least id (Some m) e f = absurd (changes d o least id m e f)

  flats : (a b : Delta) → IsOver g a → IsOver g b → IsLeast g a → IsLeast g b → (id : ℤ) (v w : Option (Option StoredNode)) → at a id
      ≡ v → at b id ≡ w → over v (find id g.nodes) ≡ over w (find id g.nodes) → flat v ≡ flat w
  flats a b oa ob la lb id None None e f same = refl
  flats a b oa ob la lb id None (Some w) e f same = sym (one_side b ob lb id w f same)
  flats a b oa ob la lb id (Some v) None e f same = one_side a oa la id v e (sym same)
  flats a b oa ob la lb id (Some v) (Some w) e f same = same

  removals : (a b : Delta) → IsOver g a → IsOver g b → (id : ℤ) → int_lt id g.next ≡ true → (v w : Option (Option StoredNode)) → at a id
      ≡ v → at b id ≡ w → over v (find id g.nodes) ≡ over w (find id g.nodes) → is_removed v ≡ is_removed w
  removals a b oa ob id lt None None e f same = refl
  removals a b oa ob id lt None (Some None) e f same = absurd (stood b ob id lt f same)
  removals a b oa ob id lt None (Some (Some m)) e f same = refl
  removals a b oa ob id lt (Some None) None e f same = absurd (stood a oa id lt e (sym same))
  removals a b oa ob id lt (Some (Some m)) None e f same = refl
  removals a b oa ob id lt (Some None) (Some None) e f same = refl
  removals a b oa ob id lt (Some None) (Some (Some m)) e f same = absurd (cc)
  removals a b oa ob id lt (Some (Some m)) (Some None) e f same = absurd (cc)
  removals a b oa ob id lt (Some (Some m)) (Some (Some n)) e f same = refl

  gone_low : (d : Delta) → IsOver g d → All (λ id. id <ℤ g.next) d.gone
  gone_low d o = low d.gone o.there where
    low : (is : List ℤ) → All (λ id. IsSome (find id g.nodes)) is → All (λ id. id <ℤ g.next) is
    low [] all = All-nil _
    low (i ∷ is) all = All-cons (λ id. id <ℤ g.next) i is (inside g d legal o i (All-head (λ id. IsSome (find id g.nodes)) i is all)).1
        (low is (All-tail (λ id. IsSome (find id g.nodes)) i is all))

  module _ (a b : Delta) (oa : IsOver g a) (ob : IsOver g b) (la : IsLeast g a) (lb : IsLeast g b) (same : applied a g ≡ applied b g) where
    seen_same : (id : ℤ) → over (at a id) (find id g.nodes) ≡ over (at b id) (find id g.nodes)
    seen_same id = sym (sees a oa id) ∙ ap (λ (h : Graph). find id h.nodes) same ∙ sees b ob id

    puts_same : a.put ≡ b.put
    puts_same = same_found a.put b.put oa.put ob.put (λ id. put_at a oa id ∙ ap (λ (o : Option StoredNode). cond (int_lt id (pos 0))
        None o) (flats a b oa ob la lb id (at a id) (at b id) refl refl (seen_same id)) ∙ sym (put_at b ob id))

    gone_same : a.gone ≡ b.gone
    gone_same = same_ids a.gone b.gone oa.gone ob.gone (λ id. go id (int_lt id g.next) refl) where
      go : (id : ℤ) (t : Bool) → int_lt id g.next ≡ t → list_any (int_eq id) a.gone ≡ list_any (int_eq id) b.gone
      go id true lt = gone_at a oa id lt ∙ removals a b oa ob id lt (at a id) (at b id) refl refl (seen_same id) ∙ sym (gone_at b ob id lt)
      go id false ge = none_from id g.next a.gone (gone_low a oa) (lt_is_false id g.next ge)
          ∙ sym (none_from id g.next b.gone (gone_low b ob) (lt_is_false id g.next ge))

    both_same : a ≡ b
    both_same =
        ap (λ (i : ℤ). record { next = i; put = a.put; gone = a.gone }) (ap (λ (h : Graph). h.next) same)
        ∙ ap₂ (λ (ns : List StoredNode) (is : List ℤ). record { next = b.next; put = ns; gone = is }) puts_same gone_same

pub one_delta : (g : Graph) (a b : Delta) → IsGraph g → IsOver g a → IsOver g b → IsLeast g a → IsLeast g b → applied a g ≡ applied b g
    → a ≡ b
one_delta g a b legal oa ob la lb same = both_same g legal a b oa ob la lb same
