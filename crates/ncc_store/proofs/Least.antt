-- The least delta: what is written, without the nodes that the store has just so.
use Rattle.std.proofs.Common.{◌≡◌, ℤ, pos, ◌<ℤ◌, ◌≤ℤ◌, int_lt, Bool, true, false, not, cond, List, [], ◌∷◌, ◌++◌, map, filter, All}
use Rattle.std.proofs.Common.{Option, Some, None, IsSome, IsTrue, ◌↔◌, int_cmp, int_eq, refl, sym, ap, ap₂, subst, ◌∙◌, append_assoc}
use Rattle.std.proofs.Common.{append-nil, ◌⊎◌, inl, inr}
use Rattle.std.specs.List.{list_any}
use Rattle.std.proofs.lemmas.List.Elements.{All-nil, All-cons, All-head, All-tail, All-filter}
use Rattle.ncc_store.specs.declared.node.StoredNode.{StoredNode}
use Rattle.ncc_store.specs.declared.ran.Delta.{Delta}
use Rattle.ncc_store.specs.Graph.{Graph, IsGraph, IsNode, find}
use Rattle.ncc_store.specs.Delta.{or_else, renewed, is_gone, applied, IsPut, IsOver, IsLeast}
use Rattle.ncc_store.specs.Layers.{Layers, Written, one, seen, IsLayered}
use Rattle.ncc_store.proofs.Placed.{same_id, below_apart, found_id, is_lt_true, Ascends, Above, above_head, ascends_tail, ascends_cons}
use Rattle.ncc_store.proofs.Placed.{find_here, find_past, find_above, All_found}
use Rattle.ncc_store.proofs.Changes.{put_of, gone_one, gone_of, delta_of, is_over, applied_is_seen}

abbrev pub Unchanged : Graph → StoredNode → Type 0
Unchanged g n = find n.id g.nodes ≡ Some n

-- one list is the other, without the nodes that the store has just so
abbrev pub Thinned : Graph → List StoredNode → List StoredNode → Type 0
Thinned g xs [] = xs ≡ []
Thinned g xs (y ∷ ys) = (Unchanged g y × Thinned g xs ys) ⊎ ((zs : List StoredNode)
    × ((xs ≡ y ∷ zs) × ((Unchanged g y → ⊥) × Thinned g zs ys)))

thin_all : (P : StoredNode → Type 0) (g : Graph) (xs ys : List StoredNode) → Thinned g xs ys → All P ys → All P xs
thin_all P g xs [] t all = subst (All P) (sym t) (All-nil P)
thin_all P g xs (y ∷ ys) (inl t) all = thin_all P g xs ys t.1 (All-tail P y ys all)
thin_all P g xs (y ∷ ys) (inr t) all = subst (All P) (sym t.1.0) (All-cons P y t.0 (All-head P y ys all) (thin_all P g t.0 ys t.1.1.1
    (All-tail P y ys all)))

thin_least : (g : Graph) (xs ys : List StoredNode) → Thinned g xs ys → All (λ n. Unchanged g n → ⊥) xs
thin_least g xs [] t = subst (All (λ n. Unchanged g n → ⊥)) (sym t) (All-nil _)
thin_least g xs (y ∷ ys) (inl t) = thin_least g xs ys t.1
thin_least g xs (y ∷ ys) (inr t) = subst (All (λ n. Unchanged g n → ⊥)) (sym t.1.0) (All-cons (λ n. Unchanged g n → ⊥) y t.0 t.1.1.0
    (thin_least g t.0 ys t.1.1.1))

thin_above : (k : ℤ) (g : Graph) (xs ys : List StoredNode) → Thinned g xs ys → Above k ys → Above k xs
thin_above k g xs [] t a = subst (Above k) (sym t) tt
thin_above k g xs (y ∷ ys) (inl t) a = thin_above k g xs ys t.1 a.1
thin_above k g xs (y ∷ ys) (inr t) a = subst (Above k) (sym t.1.0) (a.0, thin_above k g t.0 ys t.1.1.1 a.1)

thin_ascends : (g : Graph) (xs ys : List StoredNode) → Thinned g xs ys → Ascends ys → Ascends xs
thin_ascends g xs [] t a = subst Ascends (sym t) a
thin_ascends g xs (y ∷ ys) (inl t) a = thin_ascends g xs ys t.1 (ascends_tail y ys a)
thin_ascends g xs (y ∷ ys) (inr t) a =
    subst Ascends (sym t.1.0) (ascends_cons y t.0 (thin_above y.id g t.0 ys t.1.1.1 (above_head y ys a)) (thin_ascends g t.0 ys t.1.1.1
    (ascends_tail y ys a)))

-- the same is found, or nothing in the place of a node that the store has just so
abbrev pub Finds : Graph → ℤ → List StoredNode → List StoredNode → Type 0
Finds g id xs ys = (find id xs ≡ find id ys) ⊎ ((m : StoredNode) × ((find id ys ≡ Some m) × (Unchanged g m × (find id xs ≡ None))))

finds_past : (g : Graph) (id : ℤ) (xs ys us vs : List StoredNode) → find id us ≡ find id xs → find id vs ≡ find id ys → Finds g id xs ys
    → Finds g id us vs
finds_past g id xs ys us vs e f (inl h) = inl (e ∙ h ∙ sym f)
finds_past g id xs ys us vs e f (inr h) = inr (h.0, (f ∙ h.1.0, (h.1.1.0, e ∙ h.1.1.1)))

pub thin_find : (g : Graph) (id : ℤ) (xs ys : List StoredNode) → Ascends ys → Thinned g xs ys → Finds g id xs ys
thin_find g id xs [] a t = inl (ap (find id) t)
thin_find g id xs (y ∷ ys) a (inl t) = go (int_eq y.id id) refl (thin_find g id xs ys (ascends_tail y ys a) t.1) where
  go : (b : Bool) → int_eq y.id id ≡ b → Finds g id xs ys → Finds g id xs (y ∷ ys)
  go true e again =
      let same : y.id ≡ id = same_id y.id id e in
      inr (
        y,
        (
          find_here id y ys same,
          (
            t.0,
            find_above id xs (subst (λ i. Above i xs) same (thin_above y.id g xs ys t.1
                (above_head y ys a))),
          ),
        ),
      )
  go false e again = finds_past g id xs ys xs (y ∷ ys) refl (find_past id y ys e) again
thin_find g id xs (y ∷ ys) a (inr t) = subst (λ us. Finds g id us (y ∷ ys)) (sym t.1.0) (go (int_eq y.id id) refl
    (thin_find g id t.0 ys (ascends_tail y ys a) t.1.1.1)) where
      go : (b : Bool) → int_eq y.id id ≡ b → Finds g id t.0 ys → Finds g id (y ∷ t.0) (y ∷ ys)
      go true e again = inl (find_here id y t.0 (same_id y.id id e) ∙ sym (find_here id y ys (same_id y.id id e)))
      go false e again = finds_past g id t.0 ys (y ∷ t.0) (y ∷ ys) (find_past id y t.0 e) (find_past id y ys e) again

-- ---- the delta without them does the same

found_past_all : (x : StoredNode) (ns ms : List StoredNode) → Above x.id ms → All (λ n. find n.id ns ≡ Some n) ms
    → All (λ n. find n.id (x ∷ ns) ≡ Some n) ms
found_past_all x ns [] a h = All-nil _
found_past_all x ns (m ∷ ms) a h =
    All-cons (λ n. find n.id (x ∷ ns) ≡ Some n) m ms (find_past m.id x ns (below_apart x.id m.id a.0) ∙ All-head (λ n. find n.id ns
    ≡ Some n) m ms h)
    (found_past_all x ns ms a.1 (All-tail (λ n. find n.id ns ≡ Some n) m ms h))

pub found_each : (ns : List StoredNode) → Ascends ns → All (λ n. find n.id ns ≡ Some n) ns
found_each [] a = All-nil _
found_each (n ∷ ns) a = All-cons (λ m. find m.id (n ∷ ns) ≡ Some m) n ns (find_here n.id n ns refl)
    (found_past_all n ns ns (above_head n ns a) (found_each ns (ascends_tail n ns a)))

map_agree : (P : StoredNode → Type 0) (f h : StoredNode → StoredNode) → ((n : StoredNode) → P n → f n ≡ h n) → (ns : List StoredNode)
    → All P ns → map f ns ≡ map h ns
map_agree P f h e [] all = refl
map_agree P f h e (n ∷ ns) all = ap₂ (λ (m : StoredNode) (ms : List StoredNode). m ∷ ms) (e n (All-head P n ns all))
    (map_agree P f h e ns (All-tail P n ns all))

module _ (g : Graph) (legal : IsGraph g) where
  old_unchanged : (n : StoredNode) → Unchanged g n → int_lt n.id g.next ≡ true
  old_unchanged n u = is_lt_true n.id g.next (All_found (λ m. (pos 0 ≤ℤ m.id) × (m.id <ℤ g.next)) n.id g.nodes n legal.placed.below u).1

  thin_new : (xs ys : List StoredNode) → Thinned g xs ys → filter (λ n. not (int_lt n.id g.next)) xs
      ≡ filter (λ n. not (int_lt n.id g.next)) ys
  thin_new xs [] t = ap (filter (λ n. not (int_lt n.id g.next))) t
  thin_new xs (y ∷ ys) (inl t) = thin_new xs ys t.1
      ∙ sym (ap (λ (b : Bool). cond (not b) (y ∷ filter (λ n. not (int_lt n.id g.next)) ys) (filter (λ n. not (int_lt n.id g.next)) ys))
      (old_unchanged y t.0))
  thin_new xs (y ∷ ys) (inr t) =
      ap (filter (λ n. not (int_lt n.id g.next))) t.1.0
      ∙ ap (λ (zs : List StoredNode). cond (not (int_lt y.id g.next)) (y ∷ zs) zs) (thin_new t.0 ys t.1.1.1)

  thin_renewed : (xs ys : List StoredNode) → Ascends ys → Thinned g xs ys → (n : StoredNode) → find n.id g.nodes ≡ Some n
      → or_else n (find n.id xs) ≡ or_else n (find n.id ys)
  thin_renewed xs ys a t n is = go (thin_find g n.id xs ys a t) where
    go : Finds g n.id xs ys → or_else n (find n.id xs) ≡ or_else n (find n.id ys)
    go (inl e) = ap (or_else n) e
    go (inr h) =
        let at : h.0.id ≡ n.id = found_id n.id ys h.0 h.1.0 in
        let same : Some h.0 ≡ Some n = sym h.1.1.0 ∙ ap (λ (i : ℤ). find i g.nodes) at ∙ is in
        let k : n ≡ h.0 = cc in
        ap (or_else n) h.1.1.1 ∙ k ∙ sym (ap (or_else n) h.1.0)

  pub thin_applied : (next : ℤ) (gone : List ℤ) (xs ys : List StoredNode) → Ascends ys → Thinned g xs ys
      → applied (record { next = next; put = xs; gone = gone }) g ≡ applied (record { next = next; put = ys; gone = gone }) g
  thin_applied next gone xs ys a t =
      let kept : List StoredNode = filter (λ n. not (list_any (int_eq n.id) gone)) g.nodes in
      let same : map (λ n. or_else n (find n.id xs)) kept ≡ map (λ n. or_else n (find n.id ys)) kept =
      map_agree (λ n. find n.id g.nodes ≡ Some n) (λ n. or_else n (find n.id xs)) (λ n. or_else n (find n.id ys))
      (thin_renewed xs ys a t) kept (All-filter _ (λ n. find n.id g.nodes ≡ Some n) g.nodes (found_each g.nodes legal.placed.ascending)) in
      ap₂ (λ (us : List StoredNode) (vs : List StoredNode). record { next = next; nodes = us ++ vs }) same (thin_new xs ys t)

  none_found : (xs ys : List StoredNode) (id : ℤ) → Ascends ys → Thinned g xs ys → find id ys ≡ None → find id xs ≡ None
  none_found xs ys id a t e = go (thin_find g id xs ys a t) where
    go : Finds g id xs ys → find id xs ≡ None
    go (inl f) = f ∙ e
    go (inr h) = h.1.1.1

  none_put : (xs ys : List StoredNode) (is : List ℤ) → Ascends ys → Thinned g xs ys → All (λ id. find id ys ≡ None) is
      → All (λ id. find id xs ≡ None) is
  none_put xs ys [] a t all = All-nil _
  none_put xs ys (i ∷ is) a t all = All-cons (λ id. find id xs ≡ None) i is (none_found xs ys i a t (All-head (λ id. find id ys ≡ None)
      i is all)) (none_put xs ys is a t (All-tail (λ id. find id ys ≡ None) i is all))

  pub thin_over : (next : ℤ) (gone : List ℤ) (xs ys : List StoredNode) → Thinned g xs ys
      → IsOver g (record { next = next; put = ys; gone = gone }) → IsOver g (record { next = next; put = xs; gone = gone })
  thin_over next gone xs ys t o = record {
    low = o.low;
    high = o.high;
    put = thin_ascends g xs ys t o.put;
    known = thin_all (IsPut g (record { next = next; put = ys; gone = gone })) g xs ys t o.known;
    nodes = thin_all IsNode g xs ys t o.nodes;
    gone = o.gone;
    there = o.there;
    apart = none_put xs ys gone o.put t o.apart;
  }

-- ---- as the code makes it, entry by entry: in front of whatever is left

abbrev pub Thins : Graph → List StoredNode → List StoredNode → List StoredNode → Type 0
Thins g put rest all = (tail : List StoredNode) → Thinned g tail rest → Thinned g (put ++ tail) all

pub thins_start : (g : Graph) (all : List StoredNode) → Thins g [] all all
thins_start g all tail t = t

pub thins_past : (g : Graph) (put all rest ys : List StoredNode) (n : StoredNode) → rest ≡ n ∷ ys → Unchanged g n → Thins g put rest all
    → Thins g put ys all
thins_past g put all rest ys n e u h tail t = h tail (subst (Thinned g tail) (sym e) (inl (u, t)))

pub thins_more : (g : Graph) (put new all rest ys : List StoredNode) (n : StoredNode) → rest ≡ n ∷ ys → new ≡ put ++ n ∷ []
    → (Unchanged g n → ⊥) → Thins g put rest all → Thins g new ys all
thins_more g put new all rest ys n e f c h tail t =
    subst (λ us. Thinned g (us ++ tail) all) (sym f) (subst (λ us. Thinned g us all) (sym (append_assoc put (n ∷ []) tail))
    (h (n ∷ tail) (subst (Thinned g (n ∷ tail)) (sym e) (inr (tail, (refl, (c, t)))))))

pub thins_done : (g : Graph) (put all rest : List StoredNode) → rest ≡ [] → Thins g put rest all → Thinned g put all
thins_done g put all rest e h = subst (λ us. Thinned g us all) (append-nil put) (h [] (subst (Thinned g []) (sym e) refl))

pub entry_more : (g : Graph) (put new all : List StoredNode) (es rest : Written) (id : ℤ) (o : Option StoredNode) (m : StoredNode)
    → es ≡ (id, o) ∷ rest → o ≡ Some m → new ≡ put ++ m ∷ [] → (Unchanged g m → ⊥) → Thins g put (put_of es) all
    → Thins g new (put_of rest) all
entry_more g put new all es rest id o m e f n c h = thins_more g put new all (put_of es) (put_of rest) m (ap put_of e
    ∙ ap (λ (x : Option StoredNode). one x ++ put_of rest) f) n c h

pub entry_none : (g : Graph) (put all : List StoredNode) (es rest : Written) (id : ℤ) (o : Option StoredNode) → es ≡ (id, o) ∷ rest
    → o ≡ None → Thins g put (put_of es) all → Thins g put (put_of rest) all
entry_none g put all es rest id o e f h = subst (λ ms. Thins g put ms all) (ap put_of e
    ∙ ap (λ (x : Option StoredNode). one x ++ put_of rest) f) h

-- gone, entry by entry
pub gone_past_put : (k id : ℤ) (gone all : List ℤ) (es rest : Written) (o : Option StoredNode) (m : StoredNode) → es ≡ (id, o) ∷ rest
    → o ≡ Some m → gone ++ gone_of k es ≡ all → gone ++ gone_of k rest ≡ all
gone_past_put k id gone all es rest o m e f h = sym (ap (λ (r : Written). gone ++ gone_of k r) e
    ∙ ap (λ (x : Option StoredNode). gone ++ (gone_one k id x ++ gone_of k rest)) f) ∙ h

pub gone_on_more : (k id : ℤ) (gone new all : List ℤ) (es rest : Written) (o : Option StoredNode) → es ≡ (id, o) ∷ rest → o ≡ None
    → int_lt id k ≡ true → new ≡ gone ++ id ∷ [] → gone ++ gone_of k es ≡ all → new ++ gone_of k rest ≡ all
gone_on_more k id gone new all es rest o e f lt n h =
    ap (λ (is : List ℤ). is ++ gone_of k rest) n ∙ append_assoc gone (id ∷ []) (gone_of k rest)
    ∙ sym (ap (λ (r : Written). gone ++ gone_of k r) e ∙ ap (λ (x : Option StoredNode). gone ++ (gone_one k id x ++ gone_of k rest)) f
    ∙ ap (λ (t : Bool). gone ++ (cond t (id ∷ []) [] ++ gone_of k rest)) lt) ∙ h

module _ (g : Graph) (next : ℤ) (es : Written) (s : Layers) (l : IsLayered g next es) (view : ◌≡◌ {A = Layers} (record {
  base =
      g;
  graph = seen g next es;
}) s)
    (n k : ℤ) (put : List StoredNode) (gone : List ℤ) (start rest : Written) (same : n ≡ next) (first : k ≡ g.next) (begun : start ≡ es)
    (done : rest ≡ [])
    (puts : Thins g put (put_of rest) (put_of start)) (goes : gone ++ gone_of k rest ≡ gone_of k start) where
  goes_all : gone ≡ gone_of g.next es
  goes_all = sym (ap (λ (r : Written). gone ++ gone_of k r) done ∙ append-nil gone) ∙ goes ∙ ap₂ gone_of first begun

  thin : Thinned g put (put_of es)
  thin = subst (λ (r : Written). Thinned g put (put_of r)) begun (thins_done g put (put_of start) (put_of rest) (ap put_of done) puts)

  delta_is : ◌≡◌ {A = Delta} (record { next = n; put = put; gone = gone }) (record { next = next; put = put; gone = gone_of g.next es })
  delta_is = ap₂ (λ (i : ℤ) (is : List ℤ). record { next = i; put = put; gone = is }) same goes_all

  pub gives : applied (record { next = n; put = put; gone = gone }) s.base ≡ s.graph
  gives =
      ap₂ applied delta_is (ap (λ (x : Layers). x.base) (sym view)) ∙ thin_applied g l.below next (gone_of g.next es) put (put_of es)
      (is_over g next es l).put thin
      ∙ applied_is_seen g next es l ∙ ap (λ (x : Layers). x.graph) view

  pub over_base : IsOver s.base (record { next = n; put = put; gone = gone })
  over_base =
      subst (λ d. IsOver s.base d) (sym delta_is)
      (subst (λ (x : Layers). IsOver x.base (record { next = next; put = put; gone = gone_of g.next es })) view
      (thin_over g l.below next (gone_of g.next es) put (put_of es) thin (is_over g next es l)))

  pub least_base : IsLeast s.base (record { next = n; put = put; gone = gone })
  least_base = subst (λ (x : Layers). IsLeast x.base (record { next = n; put = put; gone = gone })) view (thin_least g put (put_of es) thin)
