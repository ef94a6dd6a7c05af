-- What is seen after one more write.
use Rattle.std.proofs.Common.{◌≡◌, ℤ, pos, ◌+ℤ◌, ◌<ℤ◌, ◌≤ℤ◌, Bool, true, false, cond, List, [], ◌∷◌, ◌++◌, All, Option, Some, None}
use Rattle.std.proofs.Common.{IsSome, Ok, Err, int_cmp, int_eq, refl, sym, ap, ap₂, subst, ◌∙◌, arith, append-nil}
use Rattle.std.specs.BTreeMap.{insert_entry}
use Rattle.std.proofs.lemmas.Int.{ints}
use Rattle.std.proofs.lemmas.List.Elements.{All-weaker}
use Rattle.ncc_store.specs.declared.node.StoredNode.{StoredNode}
use Rattle.ncc_store.specs.Graph.{Graph, IsNode, find, replace, without, last_id}
use Rattle.ncc_store.specs.Exec.{made}
use Rattle.ncc_store.specs.declared.fault.RunFault.TheVariants as fault
use Rattle.ncc_store.specs.Layers.{Layers, Written, written_at, seen_below, seen, IsWritten, IsLayered}
use Rattle.ncc_store.proofs.Placed.{same_id, is_lt_true, Ascends, Under, ascends_append, ascends_replace, ascends_without, ascends_cons}
use Rattle.ncc_store.proofs.Placed.{ascends_nil, find_nil, find_here, find_past, find_under, find_replaced, find_beside, find_gone}
use Rattle.ncc_store.proofs.Placed.{find_kept, All_found, found_id, same_found}
use Rattle.ncc_store.proofs.Written.{Keyed, written_holds, All_insert}
use Rattle.ncc_store.proofs.Seen.{over, under_from, or_next, find_append, find_seen, ascends_seen, within, seen_below_nil}
use Rattle.ncc_store.proofs.Seen.{seen_below_cons, fresh_nil}

-- ---- nothing is written

below_same : (ns : List StoredNode) → seen_below [] ns ≡ ns
below_same [] = seen_below_nil []
below_same (n ∷ ns) = seen_below_cons [] n ns ∙ ap (λ (ms : List StoredNode). n ∷ ms) (below_same ns)

pub seen_nothing : (g : Graph) → seen g g.next [] ≡ g
seen_nothing g = ap (λ (ns : List StoredNode). record { next = g.next; nodes = ns })
    (ap₂ (λ (ns : List StoredNode) (ms : List StoredNode). ns ++ ms) (below_same g.nodes) (fresh_nil g.next) ∙ append-nil g.nodes)

-- ---- where something may be written

pub place_of : (g : Graph) (next : ℤ) (es : Written) → IsLayered g next es → (id : ℤ) → IsSome (find id (seen g next es).nodes)
    → (pos 0 ≤ℤ id) × (id <ℤ next) × (id <ℤ g.next → IsSome (find id g.nodes))
place_of g next es l id there = go (find id (seen g next es).nodes) refl there where
  below : (w : Option (Option StoredNode)) → written_at id es ≡ w → IsSome (over w (find id g.nodes)) → id <ℤ g.next
      → IsSome (find id g.nodes)
  below None e some lt = some
  below (Some o) e some lt = (written_holds (IsWritten g next) id es o l.written e).2 lt

  go : (o : Option StoredNode) → find id (seen g next es).nodes ≡ o → IsSome o → (pos 0 ≤ℤ id) × (id <ℤ next)
      × (id <ℤ g.next → IsSome (find id g.nodes))
  go None e some = absurd (cc)
  go (Some x) e some =
      let same : x.id ≡ id = found_id id (seen g next es).nodes x e in
      let bounds : (pos 0 ≤ℤ x.id) × (x.id <ℤ next) = All_found (λ n. (pos 0 ≤ℤ n.id) × (n.id <ℤ next)) id (seen g next es).nodes x
      (within g next es l) e in (
        subst (λ i. pos 0 ≤ℤ i) same bounds.0,
        subst (λ i. i <ℤ next) same bounds.1,
        below (written_at id es) refl
            (subst IsSome (find_seen g next es l id) there),
      )

pub layered_more : (g : Graph) (next : ℤ) (es new : Written) (k : ℤ) (v : Option StoredNode) → IsLayered g next es
    → IsWritten g next (k, v) → new ≡ insert_entry int_cmp es k v → Keyed new → IsLayered g next new
layered_more g next es new k v l w e s = record {
  below = l.below;
  low = l.low;
  high = l.high;
  ordered = s;
  written = subst (All (IsWritten g next)) (sym e) (All_insert (IsWritten g next) k v es w l.written);
}

-- what is written at each id, after v was written at k
abbrev pub Wrote : Written → Written → ℤ → Option StoredNode → Type 0
Wrote es new k v = (q : ℤ) → written_at q new ≡ cond (int_eq k q) (Some v) (written_at q es)

pub seen_replaced : (g : Graph) (next : ℤ) (es new : Written) (m : StoredNode) → IsLayered g next es → IsLayered g next new
    → Wrote es new m.id (Some m) → IsSome (find m.id (seen g next es).nodes)
    → (seen g next new).nodes ≡ replace m (seen g next es).nodes
seen_replaced g next es new m l k up there = same_found _ _ (ascends_seen g next new k) (ascends_replace m _ (ascends_seen g next es l))
    (λ id. find_seen g next new k id ∙ ap (λ (w : Option (Option StoredNode)). over w (find id g.nodes)) (up id)
    ∙ go id (int_eq m.id id) refl) where
      here : (o : Option StoredNode) → find m.id (seen g next es).nodes ≡ o → IsSome o → find m.id (replace m (seen g next es).nodes)
          ≡ Some m
      here None e some = absurd (cc)
      here (Some x) e some = find_replaced m x (seen g next es).nodes e

      go : (id : ℤ) (t : Bool) → int_eq m.id id ≡ t → over (cond t (Some (Some m)) (written_at id es)) (find id g.nodes)
          ≡ find id (replace m (seen g next es).nodes)
      go id true e = sym (ap (λ (i : ℤ). find i (replace m (seen g next es).nodes)) (sym (same_id m.id id e))
          ∙ here (find m.id (seen g next es).nodes) refl there)
      go id false e = sym (find_seen g next es l id) ∙ sym (find_beside id m (seen g next es).nodes e)

pub seen_removed : (g : Graph) (next : ℤ) (es new : Written) (k : ℤ) → IsLayered g next es → IsLayered g next new → Wrote es new k None
    → (seen g next new).nodes ≡ without k (seen g next es).nodes
seen_removed g next es new k l h up = same_found _ _ (ascends_seen g next new h) (ascends_without k _ (ascends_seen g next es l))
    (λ id. find_seen g next new h id ∙ ap (λ (w : Option (Option StoredNode)). over w (find id g.nodes)) (up id)
    ∙ go id (int_eq k id) refl) where
      go : (id : ℤ) (t : Bool) → int_eq k id ≡ t → over (cond t (Some None) (written_at id es)) (find id g.nodes)
          ≡ find id (without k (seen g next es).nodes)
      go id true e = sym (ap (λ (i : ℤ). find i (without k (seen g next es).nodes)) (sym (same_id k id e))
          ∙ find_gone k (seen g next es).nodes)
      go id false e = sym (find_seen g next es l id) ∙ sym (find_kept id k (seen g next es).nodes e)

-- ---- a node with the next id

layered_next : (g : Graph) (next : ℤ) (es : Written) → IsLayered g next es → next <ℤ last_id → IsLayered g (next +ℤ pos 1) es
layered_next g next es l lt = record {
  below = l.below;
  low = let a : g.next ≤ℤ next = l.low in omega (arith, ints);
  high = omega (arith, ints);
  ordered = l.ordered;
  written = All-weaker (IsWritten g next) (IsWritten g (next +ℤ pos 1)) (λ e h. (
    h.0,
    let a : e.0 <ℤ next = h.1 in
        omega (arith, ints),
    h.2,
    h.3,
  )) es l.written;
}

pub layered_made : (g : Graph) (next : ℤ) (es new : Written) (m : StoredNode) → IsLayered g next es → next <ℤ last_id → m.id ≡ next
    → IsNode m → new ≡ insert_entry int_cmp es next (Some m) → Keyed new → IsLayered g (next +ℤ pos 1) new
layered_made g next es new m l lt e keyed ins s =
    let a : pos 0 ≤ℤ g.next = l.below.placed.low in
    let b : g.next ≤ℤ next = l.low in
    layered_more g (next +ℤ pos 1) es new next (Some m) (layered_next g next es l lt) (
      omega (arith, ints),
      omega (arith, ints),
      λ c.
          absurd (omega (arith, ints)),
      (e, keyed),
    ) ins s

or_none : (o : Option StoredNode) → o ≡ or_next o None
or_none None = refl
or_none (Some x) = refl

pub seen_made : (g : Graph) (next : ℤ) (es new : Written) (m : StoredNode) → IsLayered g next es → IsLayered g (next +ℤ pos 1) new
    → m.id ≡ next → Wrote es new next (Some m)
    → (seen g (next +ℤ pos 1) new).nodes ≡ (seen g next es).nodes ++ m ∷ []
seen_made g next es new m l h same up = same_found _ _ (ascends_seen g (next +ℤ pos 1) new h) ordered (λ id. find_seen g (next +ℤ pos 1)
    new h id ∙ ap (λ (w : Option (Option StoredNode)). over w (find id g.nodes)) (up id) ∙ go id (int_eq next id) refl) where
      under : Under next (seen g next es).nodes
      under = under_from next (seen g next es).nodes (All-weaker (λ n. (pos 0 ≤ℤ n.id) × (n.id <ℤ next)) (λ n. n.id <ℤ next) (λ n h. h.1)
          (seen g next es).nodes (within g next es l))

      ordered : Ascends ((seen g next es).nodes ++ m ∷ [])
      ordered = ascends_append next (seen g next es).nodes (m ∷ []) (ascends_seen g next es l) under (ascends_cons m [] tt ascends_nil)
          (subst (λ i. i ≤ℤ m.id) same (omega (arith, ints)), tt)

      go : (id : ℤ) (t : Bool) → int_eq next id ≡ t → over (cond t (Some (Some m)) (written_at id es)) (find id g.nodes)
          ≡ find id ((seen g next es).nodes ++ m ∷ [])
      go id true e =
          let k : next ≡ id = same_id next id e in
          let none : find id (seen g next es).nodes ≡ None = find_under id next (seen g next es).nodes under (omega (arith, ints)) in
          sym (find_append id (seen g next es).nodes (m ∷ []) ∙ ap (λ (o : Option StoredNode). or_next o (find id (m ∷ []))) none
          ∙ find_here id m [] (same ∙ k))
      go id false e =
          let past : find id (m ∷ []) ≡ None = find_past id m [] (ap (λ (i : ℤ). int_eq i id) same ∙ e) ∙ find_nil id in
          sym (find_append id (seen g next es).nodes (m ∷ []) ∙ ap (or_next (find id (seen g next es).nodes)) past
          ∙ sym (or_none (find id (seen g next es).nodes)) ∙ find_seen g next es l id)

pub starts : (g : Graph) (n : ℤ) (es : Written) → n ≡ g.next → es ≡ [] → ◌≡◌ {A = Layers} (record { base = g; graph = seen g n es })
    (record { base = g; graph = g })
starts g n es e f = ap₂ (λ (i : ℤ) (xs : Written). record { base = g; graph = seen g i xs }) e f
    ∙ ap (λ (h : Graph). record { base = g; graph = h }) (seen_nothing g)

-- ---- each write as the code makes it: at q, which is the id

module _ (g : Graph) (next : ℤ) (es new : Written) (s : Layers) (l : IsLayered g next es) (view : ◌≡◌ {A = Layers} (record {
  base =
      g;
  graph = seen g next es;
}) s) where
  pub replaces_stays : (q : ℤ) (m : StoredNode) → q ≡ m.id → IsSome (find m.id s.graph.nodes) → IsNode m → new ≡ insert_entry int_cmp es
      q (Some m) → Keyed new → IsLayered g next new
  replaces_stays q m e there keyed ins k =
      let p = place_of g next es l m.id (subst (λ (x : Layers). IsSome (find m.id x.graph.nodes)) (sym view) there) in
      layered_more g next es new m.id (Some m) l (p.0, p.1, p.2, (refl, keyed)) (subst (λ i. new ≡ insert_entry int_cmp es i (Some m)) e
      ins) k

  pub replaces : (q : ℤ) (m : StoredNode) → q ≡ m.id → IsSome (find m.id s.graph.nodes) → IsNode m → new ≡ insert_entry int_cmp es q
      (Some m) → Keyed new → Wrote es new q (Some m)
      → ◌≡◌ {A = Layers} (record { base = g; graph = seen g next new }) (record s {
        graph = record s.graph {
          nodes =
              replace m s.graph.nodes;
        };
      })
  replaces q m e there keyed ins k up =
      let nodes : (seen g next new).nodes ≡ replace m (seen g next es).nodes =
      seen_replaced g next es new m l (replaces_stays q m e there keyed ins k) (subst (λ i. Wrote es new i (Some m)) e up)
      (subst (λ (x : Layers). IsSome (find m.id x.graph.nodes)) (sym view) there) in
      ap (λ (ns : List StoredNode). record { base = g; graph = record { next = next; nodes = ns } }) nodes
      ∙ ap (λ (x : Layers). record x { graph = record x.graph { nodes = replace m x.graph.nodes } }) view

  pub removes_stays : (q id : ℤ) → q ≡ id → IsSome (find id s.graph.nodes) → new ≡ insert_entry int_cmp es q None → Keyed new
      → IsLayered g next new
  removes_stays q id e there ins k =
      let p = place_of g next es l id (subst (λ (x : Layers). IsSome (find id x.graph.nodes)) (sym view) there) in
      layered_more g next es new id None l (p.0, p.1, p.2, tt) (subst (λ i. new ≡ insert_entry int_cmp es i None) e ins) k

  pub removes : (q id : ℤ) → q ≡ id → IsSome (find id s.graph.nodes) → new ≡ insert_entry int_cmp es q None → Keyed new
      → Wrote es new q None
      → ◌≡◌ {A = Layers} (record { base = g; graph = seen g next new }) (record s {
        graph = record s.graph {
          nodes =
              without id s.graph.nodes;
        };
      })
  removes q id e there ins k up =
      let nodes : (seen g next new).nodes ≡ without id (seen g next es).nodes =
      seen_removed g next es new id l (removes_stays q id e there ins k) (subst (λ i. Wrote es new i None) e up) in
      ap (λ (ns : List StoredNode). record { base = g; graph = record { next = next; nodes = ns } }) nodes
      ∙ ap (λ (x : Layers). record x { graph = record x.graph { nodes = without id x.graph.nodes } }) view

  pub makes_stays : (q n : ℤ) (m : StoredNode) → q ≡ next → n ≡ next +ℤ pos 1 → next <ℤ last_id → m.id ≡ next → IsNode m → new
      ≡ insert_entry int_cmp es q (Some m) → Keyed new → IsLayered g n new
  makes_stays q n m e f lt same keyed ins k =
      subst (λ i. IsLayered g i new) (sym f) (layered_made g next es new m l lt same keyed
      (subst (λ i. new ≡ insert_entry int_cmp es i (Some m)) e ins) k)

  pub makes : (q n : ℤ) (m : StoredNode) → q ≡ next → n ≡ next +ℤ pos 1 → next <ℤ last_id → m.id ≡ next → IsNode m → new
      ≡ insert_entry int_cmp es q (Some m) → Keyed new → Wrote es new q (Some m)
      → made m.label m.props s.graph ≡ Ok (seen g n new, q ∷ [])
  makes q n m e f lt same keyed ins k up =
      let nodes : (seen g (next +ℤ pos 1) new).nodes ≡ (seen g next es).nodes ++ m ∷ [] =
      seen_made g next es new m l (layered_made g next es new m l lt same keyed (subst (λ i. new ≡ insert_entry int_cmp es i (Some m)) e
      ins) k) same (subst (λ i. Wrote es new i (Some m)) e up) in
      let node : ◌≡◌ {A = StoredNode} (record { id = next; label = m.label; props = m.props }) m =
      ap (λ (i : ℤ). record { id = i; label = m.label; props = m.props }) (sym same) in
      let after : ◌≡◌ {A = Graph} (record {
        next = next +ℤ pos 1;
        nodes = (seen g next es).nodes ++ record {
          id = next;
          label =
              m.label;
          props = m.props;
        } ∷ [];
      }) (seen g n new) =
      ap (λ (x : StoredNode). record { next = next +ℤ pos 1; nodes = (seen g next es).nodes ++ x ∷ [] }) node
      ∙ ap (λ (ns : List StoredNode). record { next = next +ℤ pos 1; nodes = ns }) (sym nodes) ∙ ap (λ (i : ℤ). seen g i new) (sym f) in
      ap (λ (x : Layers). made m.label m.props x.graph) (sym view)
      ∙ ap (λ (t : Bool). cond t (Ok (
        record {
          next = next +ℤ pos 1;
          nodes = (seen g next es).nodes ++ record {
            id = next;
            label =
                m.label;
            props = m.props;
          } ∷ [];
        },
        next ∷ [],
      )) (Err fault.IdsSpent)) (is_lt_true next last_id lt)
      ∙ ap₂ (λ (h : Graph) (i : ℤ). Ok (h, i ∷ [])) after (sym e)
