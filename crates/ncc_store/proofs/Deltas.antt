-- Nodes that are renewed and taken out as a delta says.
use Rattle.std.proofs.Common.{◌≡◌, ℤ, pos, ◌<ℤ◌, ◌≤ℤ◌, int_lt, Bool, true, false, not, cond, List, [], ◌∷◌, ◌++◌, map, filter, All}
use Rattle.std.proofs.Common.{Option, Some, None, int_eq, refl, sym, ap, ap₂, subst, ◌∙◌}
use Rattle.std.specs.Bool.{beq}
use Rattle.std.specs.List.{list_any}
use Rattle.std.proofs.lemmas.List.Elements.{All-head, All-tail, filter_agree}
use Rattle.ncc_store.specs.declared.node.StoredNode.{StoredNode}
use Rattle.ncc_store.specs.declared.ran.Delta.{Delta}
use Rattle.ncc_store.specs.Graph.{Graph, IsGraph, find, replace, replaced}
use Rattle.ncc_store.specs.Delta.{or_else, renewed, applied}
use Rattle.ncc_store.proofs.Placed.{apart, itself, is_lt_true, Ascends, above_head, ascends_tail, same_id, find_nil, find_here}
use Rattle.ncc_store.proofs.Placed.{find_past, find_above, found_id, ascends_filter}

-- each node as a list has it
abbrev pub latest : List StoredNode → StoredNode → StoredNode
latest ms n = or_else n (find n.id ms)

latest_nil : (n : StoredNode) → latest [] n ≡ n
latest_nil n = ap (or_else n) (find_nil n.id)

map_same : {A B : Type 0} (f g : A → B) → ((x : A) → f x ≡ g x) → (xs : List A) → map f xs ≡ map g xs
map_same f g h [] = refl
map_same f g h (x ∷ xs) = ap₂ (λ (y : _) (ys : List _). y ∷ ys) (h x) (map_same f g h xs)

map_map : {A B C : Type 0} (f : B → C) (g : A → B) (xs : List A) → map f (map g xs) ≡ map (λ x. f (g x)) xs
map_map f g [] = refl
map_map f g (x ∷ xs) = ap (λ (ys : List _). f (g x) ∷ ys) (map_map f g xs)

unchanged : (f : StoredNode → StoredNode) → ((n : StoredNode) → f n ≡ n) → (ns : List StoredNode) → ns ≡ map f ns
unchanged f h [] = refl
unchanged f h (n ∷ ns) = ap₂ (λ (m : StoredNode) (ms : List StoredNode). m ∷ ms) (sym (h n)) (unchanged f h ns)

latest_more : (m : StoredNode) (ms : List StoredNode) → Ascends (m ∷ ms) → (n : StoredNode) → latest ms (cond (int_eq n.id m.id) m n)
    ≡ latest (m ∷ ms) n
latest_more m ms a n = go (int_eq n.id m.id) refl where
  go : (t : Bool) → int_eq n.id m.id ≡ t → latest ms (cond t m n) ≡ latest (m ∷ ms) n
  go true e =
      ap (or_else m) (find_above m.id ms (above_head m ms a)) ∙ sym (ap (or_else n) (find_here n.id m ms (sym (same_id n.id m.id e))))
  go false e = ap (or_else n) (sym (find_past n.id m ms (turned e))) where
    turned : int_eq n.id m.id ≡ false → int_eq m.id n.id ≡ false
    turned h = apart m.id n.id (λ k. absurd (let f : true ≡ false = sym (itself m.id) ∙ ap (λ (i : ℤ). int_eq i m.id) k ∙ h in cc))

replace_is : (m : StoredNode) (ns : List StoredNode) → replace m ns ≡ map (λ n. cond (int_eq n.id m.id) m n) ns
unfolding replace
replace_is m ns = refl

-- one after the other comes to the same as all at once, where no two have one id
pub replaced_latest : (ms ns : List StoredNode) → Ascends ms → replaced ms ns ≡ map (latest ms) ns
replaced_latest [] ns a = unchanged (latest []) latest_nil ns
replaced_latest (m ∷ ms) ns a = replaced_latest ms (replace m ns) (ascends_tail m ms a) ∙ ap (map (latest ms)) (replace_is m ns)
    ∙ map_map (latest ms) (λ n. cond (int_eq n.id m.id) m n) ns ∙ map_same _ _ (latest_more m ms a) ns

pub find_filter : (p : StoredNode → Bool) (id : ℤ) (ms : List StoredNode) → ((m : StoredNode) → m.id ≡ id → p m ≡ true)
    → find id (filter p ms) ≡ find id ms
find_filter p id [] h = refl
find_filter p id (m ∷ ms) h = go (int_eq m.id id) refl (find_filter p id ms h) where
  past : int_eq m.id id ≡ false → find id (filter p ms) ≡ find id ms → (t : Bool) → find id (cond t (m ∷ filter p ms) (filter p ms))
      ≡ find id ms
  past e again true = find_past id m (filter p ms) e ∙ again
  past e again false = again

  go : (t : Bool) → int_eq m.id id ≡ t → find id (filter p ms) ≡ find id ms → find id (filter p (m ∷ ms)) ≡ find id (m ∷ ms)
  go true e again =
      let k : m.id ≡ id = same_id m.id id e in
      ap (λ (t : Bool). find id (cond t (m ∷ filter p ms) (filter p ms))) (h m k) ∙ find_here id m (filter p ms) k
      ∙ sym (find_here id m ms k)
  go false e again = past e again (p m) ∙ sym (find_past id m ms e)

filter_map_same : (p : StoredNode → Bool) (f : StoredNode → StoredNode) → ((n : StoredNode) → p (f n) ≡ p n) → (ns : List StoredNode)
    → filter p (map f ns) ≡ map f (filter p ns)
filter_map_same p f h [] = refl
filter_map_same p f h (n ∷ ns) = ap (λ (t : Bool). cond t (f n ∷ filter p (map f ns)) (filter p (map f ns))) (h n)
    ∙ go (p n) (filter_map_same p f h ns) where
      go : (t : Bool) → filter p (map f ns) ≡ map f (filter p ns) → cond t (f n ∷ filter p (map f ns)) (filter p (map f ns))
          ≡ map f (cond t (n ∷ filter p ns) (filter p ns))
      go true e = ap (λ (xs : List StoredNode). f n ∷ xs) e
      go false e = e

map_all : {A B : Type 0} (P : A → Type 0) (f g : A → B) → ((x : A) → P x → f x ≡ g x) → (xs : List A) → All P xs → map f xs ≡ map g xs
map_all P f g h [] all = refl
map_all P f g h (x ∷ xs) all = ap₂ (λ (y : _) (ys : List _). y ∷ ys) (h x (All-head P x xs all)) (map_all P f g h xs (All-tail P x xs all))

-- the id of a node stays
latest_id : (ms : List StoredNode) (n : StoredNode) → (latest ms n).id ≡ n.id
latest_id ms n = go (find n.id ms) refl where
  go : (o : Option StoredNode) → find n.id ms ≡ o → (or_else n o).id ≡ n.id
  go None e = refl
  go (Some m) e = found_id n.id ms m e

beq_true : (b : Bool) → beq true b ≡ b
beq_true true = refl
beq_true false = refl

old : (i j k : ℤ) → i ≡ j → j <ℤ k → beq false (not (int_lt i k)) ≡ true
old i j k e h = ap (λ (t : Bool). beq false (not t)) (is_lt_true i k (subst (λ x. x <ℤ k) (sym e) h))

abbrev pub old_ones : ℤ → List StoredNode → List StoredNode
old_ones next ms = filter (λ n. beq false (not (int_lt n.id next))) ms

-- those that were made behind the nodes of the store, each changed one in its place, and then without those that are gone
pub put_is : (d : Delta) (g : Graph) → IsGraph g → Ascends d.put
    → filter (λ n. not (list_any (int_eq n.id) d.gone)) (replaced (old_ones g.next d.put) g.nodes) ++ filter
    (λ n. beq true (not (int_lt n.id g.next))) d.put ≡ (applied d g).nodes
put_is d g legal a =
    let kept : StoredNode → Bool = λ n. not (list_any (int_eq n.id) d.gone) in
    let same : map (latest (old_ones g.next d.put)) g.nodes ≡ map (renewed d) g.nodes = map_all (λ n. (pos 0 ≤ℤ n.id)
    × (n.id <ℤ g.next)) (latest (old_ones g.next d.put)) (renewed d)
    (λ n h. ap (or_else n) (find_filter (λ m. beq false (not (int_lt m.id g.next))) n.id d.put (λ m e. old m.id n.id g.next e h.1)))
    g.nodes legal.placed.below in
    ap₂ (λ (xs : List StoredNode) (ys : List StoredNode). xs ++ ys)
    (ap (filter kept) (replaced_latest (old_ones g.next d.put) g.nodes (ascends_filter _ d.put a) ∙ same)
    ∙ filter_map_same kept (renewed d) (λ n. ap (λ (i : ℤ). not (list_any (int_eq i) d.gone)) (latest_id d.put n)) g.nodes)
    (filter_agree _ _ (λ n. beq_true (not (int_lt n.id g.next))) d.put)

abbrev pub new_ones : ℤ → List StoredNode → List StoredNode
new_ones next ms = filter (λ n. beq true (not (int_lt n.id next))) ms

-- the same step by step, as the store does it
pub put_in_steps : (d : Delta) (g : Graph) (after removed renewed changed made : List StoredNode) → IsGraph g → Ascends d.put
    → after ≡ removed ++ made → removed ≡ filter (λ n. not (list_any (int_eq n.id) d.gone)) renewed → renewed ≡ replaced changed g.nodes
    → changed ≡ old_ones g.next d.put → made ≡ new_ones g.next d.put → after ≡ (applied d g).nodes
put_in_steps d g after removed renewed changed made legal a e f h i j =
    let kept : StoredNode → Bool = λ n. not (list_any (int_eq n.id) d.gone) in
    let first : removed ≡ filter kept (replaced (old_ones g.next d.put) g.nodes) =
    f ∙ ap (filter kept) (h ∙ ap (λ (ms : List StoredNode). replaced ms g.nodes) i) in
    e ∙ ap₂ (λ (xs : List StoredNode) (ys : List StoredNode). xs ++ ys) first j ∙ put_is d g legal a
