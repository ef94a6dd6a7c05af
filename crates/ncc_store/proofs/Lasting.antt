-- What each call keeps of a store.
use Rattle.std.proofs.Common.{◌≡◌, ℕ, suc, ◌+◌, ◌≤◌, ℤ, pos, ◌+ℤ◌, ◌<ℤ◌, ◌≤ℤ◌, int_lt, Bool, true, false, cond, ◌||◌, List, [], ◌∷◌}
use Rattle.std.proofs.Common.{◌++◌, length, map, filter, All, Option, Some, None, Ok, Err, refl, sym, ap, ap₂, subst, ◌∙◌, ◌⊎◌, inl}
use Rattle.std.proofs.Common.{inr, arith}
use Rattle.std.proofs.lemmas.Int.{ints}
use Rattle.std.proofs.lemmas.List.Elements.{All-nil, All-cons, All-head, All-tail, All-append, All-filter, All-map, All-weaker}
use Rattle.ncc_pack.specs.declared.value.Value.{Value}
use Rattle.ncc_cypher.specs.declared.tree.Pair.{Pair}
use Rattle.ncc_cypher.specs.declared.tree.Statement.{Statement}
use Rattle.ncc_cypher.specs.declared.tree.Head.{Head}
use Rattle.ncc_cypher.specs.declared.tree.Head.TheVariants as h
use Rattle.ncc_cypher.specs.declared.tree.Change.{Change}
use Rattle.ncc_cypher.specs.declared.tree.Change.TheVariants as c
use Rattle.ncc_cypher.specs.Writing.{writes, makes, changes}
use Rattle.ncc_cypher.specs.Parsed.{parsed}
use Rattle.ncc_store.specs.declared.call.Call.{Call}
use Rattle.ncc_store.specs.declared.node.StoredNode.{StoredNode}
use Rattle.ncc_store.specs.declared.scalar.Scalar.{Scalar}
use Rattle.ncc_store.specs.declared.scalar.Scalar.TheVariants as s
use Rattle.ncc_store.specs.declared.fault.RunFault.{RunFault}
use Rattle.ncc_store.specs.declared.fault.RunFault.TheVariants as f
use Rattle.ncc_store.specs.Props.{Name, Props, put}
use Rattle.ncc_store.specs.Sum.{Answer, ◌>>=◌, sum}
use Rattle.ncc_store.specs.Graph.{Graph, IsPlaced, find, replace, without, ids, last_id}
use Rattle.ncc_store.specs.Exec.{Ended, Headed, Wanted, pairs, made, wanted, matching, found_or_made, merged, taken, head, node_set}
use Rattle.ncc_store.specs.Exec.{set_one, set, deleted, change, step, run, exec}
use Rattle.ncc_store.proofs.Placed.{lt_is_true, Ascends, Under, ascends_append, ascends_cons, ascends_nil, ascends_replace}
use Rattle.ncc_store.proofs.Placed.{ascends_without, ids_replace}
use Rattle.ncc_store.proofs.Seen.{under_from}
use Rattle.ncc_store.proofs.Joined.{Given, bound, stays, parts_of, call_ran, ran_of}

-- ---- the head

-- a node with the next id
abbrev pub Made : Graph → Headed → Type 0
Made g r = (l : Name) × ((ps : Props) × ((int_lt g.next last_id ≡ true)
    × (r ≡ (record { next = g.next +ℤ pos 1; nodes = g.nodes ++ record { id = g.next; label = l; props = ps } ∷ [] }, g.next ∷ []))))

pub made_is : (l : Name) (ps : Props) (g : Graph) (r : Headed) → made l ps g ≡ Ok r → Made g r
made_is l ps g r is = go (int_lt g.next last_id) refl is where
  go : (t : Bool) → int_lt g.next last_id ≡ t
      → cond t (Ok (
        record { next = g.next +ℤ pos 1; nodes = g.nodes ++ record { id = g.next; label = l; props = ps } ∷ [] },
        g.next
            ∷ [],
      )) (Err f.IdsSpent) ≡ Ok r → Made g r
  go true e k = (
    l,
    (
      ps,
      (
        e,
        let t : r ≡ (
          record {
            next = g.next +ℤ pos 1;
            nodes = g.nodes ++ record {
              id = g.next;
              label = l;
              props =
                  ps;
            } ∷ [];
          },
          g.next ∷ [],
        ) = cc in t,
      ),
    ),
  )
  go false e k = absurd (cc)

-- nothing is made, of quiet more rows than there are nodes; or a node is made
abbrev pub IsHead : Graph → Headed → Type 0
IsHead g r = ((r.0 ≡ g) × (length r.1 ≤ length g.nodes)) ⊎ Made g r

few_kept : (p : StoredNode → Bool) (ns : List StoredNode) → length (ids (filter p ns)) ≤ length ns
few_kept p [] = omega arith
few_kept p (n ∷ ns) = go (p n) (few_kept p ns) where
  go : (t : Bool) → length (ids (filter p ns)) ≤ length ns → length (ids (cond t (n ∷ filter p ns) (filter p ns))) ≤ suc (length ns)
  go true k = omega arith
  go false k = omega arith

few_matching : (l : Option Name) (w : Wanted) (g : Graph) → length (matching l w g) ≤ length g.nodes
few_matching l w g = few_kept (taken l w) g.nodes

found_or_made_is : (l k : Name) (x : Scalar) (g : Graph) (is : List ℤ) (r : Headed) → length is ≤ length g.nodes
    → found_or_made l k x g is ≡ Ok r → IsHead g r
found_or_made_is l k x g [] r le e = inr (made_is l (put [] k x) g r e)
found_or_made_is l k x g (i ∷ is) r le e =
    let same : (g, i ∷ is) ≡ r = cc in
    subst (IsHead g) same (inl (refl, le))

merged_is : (l k : Name) (g : Graph) (x : Scalar) (r : Headed) → merged l k g x ≡ Ok r → IsHead g r
merged_is l k g s.Null r e = absurd (cc)
merged_is l k g (s.Bool b) r e = found_or_made_is l k (s.Bool b) g (matching (Some l) (Some (k, s.Bool b)) g) r
    (few_matching (Some l) (Some (k, s.Bool b)) g) e
merged_is l k g (s.Int z) r e = found_or_made_is l k (s.Int z) g (matching (Some l) (Some (k, s.Int z)) g) r
    (few_matching (Some l) (Some (k, s.Int z)) g) e
merged_is l k g (s.Text t) r e = found_or_made_is l k (s.Text t) g (matching (Some l) (Some (k, s.Text t)) g) r
    (few_matching (Some l) (Some (k, s.Text t)) g) e

pub head_is : (params : Props) (g : Graph) (b : Head) (r : Headed) → head params g b ≡ Ok r → IsHead g r
head_is params g h.Alone r e = let same : (g, []) ≡ r = cc in subst (IsHead g) same (inl (refl, omega arith))
head_is params g (h.Create l ps) r e =
    let one = bound (pairs params [] ps) (λ qs. made l qs g) r e in
    inr (made_is l one.0 g r one.1.1)
head_is params g (h.Find l p) r e =
    let one = bound (wanted params p) (λ w. Ok (g, matching l w g)) r e in
    let same : (g, matching l one.0 g) ≡ r = (let k = one.1.1 in cc) in
    subst (IsHead g) same (inl (refl, few_matching l one.0 g))
head_is params g (h.Merge l p) r e =
    let one = bound (sum params [] p.value) (merged l p.key g) r e in
    merged_is l p.key g one.0 r one.1.1

-- ---- the change

set_one_is : (params : Props) (cs : List Pair) (g after : Graph) (o : Option StoredNode) → set_one params cs g o ≡ Ok after
    → (after ≡ g) ⊎ ((m : StoredNode) × (after ≡ record g { nodes = replace m g.nodes }))
set_one_is params cs g after None e = let same : after ≡ g = cc in inl same
set_one_is params cs g after (Some n) e =
    let one = bound (node_set params cs n) (λ m. Ok (record g { nodes = replace m g.nodes })) after e in
    inr (one.0, let k = one.1.1 in let same : after ≡ record g { nodes = replace one.0 g.nodes } = cc in same)

module _ (P : Graph → Type 0) (replaces : (g : Graph) (m : StoredNode) → P g → P (record g { nodes = replace m g.nodes }))
    (removes : (g : Graph) (id : ℤ) → P g → P (record g { nodes = without id g.nodes })) where
  set_keeps : (params : Props) (cs : List Pair) (g after : Graph) (is : List ℤ) → P g → set params cs g is ≡ Ok after → P after
  unfolding set
  set_keeps params cs g after [] p e = let same : g ≡ after = cc in subst P same p
  set_keeps params cs g after (i ∷ is) p e =
      let one = bound (set_one params cs g (find i g.nodes)) (λ k. set params cs k is) after e in
      set_keeps params cs one.0 after is (go one.0 (set_one_is params cs g one.0 (find i g.nodes) one.1.0)) one.1.1 where
        go : (k : Graph) → (k ≡ g) ⊎ ((m : StoredNode) × (k ≡ record g { nodes = replace m g.nodes })) → P k
        go k (inl same) = subst P (sym same) p
        go k (inr w) = subst P (sym w.1) (replaces g w.0 p)

  deleted_keeps : (g : Graph) (is : List ℤ) → P g → P (deleted g is)
  unfolding deleted
  deleted_keeps g [] p = p
  deleted_keeps g (i ∷ is) p = deleted_keeps (record g { nodes = without i g.nodes }) is (removes g i p)

  pub change_keeps : (params : Props) (ch : Change) (r : Headed) (after : Graph) → P r.0 → change params ch r ≡ Ok after → P after
  change_keeps params c.Keep r after p e = let same : r.0 ≡ after = cc in subst P same p
  change_keeps params (c.Set cs) r after p e = set_keeps params cs r.0 after r.1 p e
  change_keeps params c.Delete r after p e = let same : deleted r.0 r.1 ≡ after = cc in subst P same (deleted_keeps r.0 r.1 p)

-- ---- the next id

next_step : (low : ℤ) (g after : Graph) (call : Call) (rows : Given) → low ≤ℤ g.next → step g call ≡ Ok (rows, after) → low ≤ℤ after.next
next_step low g after call rows le e = go (call_ran g call rows after e) where
  headed : (r : Headed) → IsHead g r → low ≤ℤ r.0.next
  headed r (inl k) = subst (λ (x : Graph). low ≤ℤ x.next) (sym k.0) le
  headed r (inr m) = subst (λ (x : Headed). low ≤ℤ x.0.next) (sym m.1.1.1) (let more : low ≤ℤ (g.next +ℤ pos 1) = omega (arith, ints) in
      more)

  go : ((rows ≡ []) × (g ≡ after)) ⊎ ((x : Statement) × ((parsed call.source ≡ Ok x) × (run g call.params x ≡ Ok (rows, after))))
      → low ≤ℤ after.next
  go (inl k) = subst (λ (x : Graph). low ≤ℤ x.next) k.1 le
  go (inr w) =
      let p = parts_of g call.params w.0 rows after w.1.1 in
      change_keeps (λ (x : Graph). low ≤ℤ x.next) (λ x m k. k) (λ x id k. k) call.params w.0.change p.headed after
      (headed p.headed (head_is call.params g w.0.head p.headed p.head)) p.change

pub next_never_falls : (g : Graph) (calls : List Call) (e : Ended) → exec g calls ≡ Ok e → g.next ≤ℤ e.graph.next
next_never_falls g calls e is = stays (λ (x : Graph). g.next ≤ℤ x.next) (λ x y call rows le k. next_step g.next x y call rows le k) g
    calls e (omega (arith, ints)) is

-- ---- ids in their places

abbrev Between : ℤ → ℤ → Type 0
Between next i = (pos 0 ≤ℤ i) × (i <ℤ next)

from_ids : (P : ℤ → Type 0) (ns : List StoredNode) → All P (ids ns) → All (λ n. P n.id) ns
from_ids P [] all = All-nil _
from_ids P (n ∷ ns) all = All-cons (λ m. P m.id) n ns (All-head P n.id (ids ns) all) (from_ids P ns (All-tail P n.id (ids ns) all))

placed_replaced : (g : Graph) (m : StoredNode) → IsPlaced g → IsPlaced (record g { nodes = replace m g.nodes })
placed_replaced g m p = record {
  low = p.low;
  high = p.high;
  ascending = ascends_replace m g.nodes p.ascending;
  below = from_ids (Between g.next) (replace m g.nodes) (subst (All (Between g.next)) (sym (ids_replace m g.nodes))
      (All-map (Between g.next) (λ n. n.id) g.nodes p.below));
}

all_without : (P : StoredNode → Type 0) (id : ℤ) (ns : List StoredNode) → All P ns → All P (without id ns)
unfolding without
all_without P id ns all = All-filter _ P ns all

placed_without : (g : Graph) (id : ℤ) → IsPlaced g → IsPlaced (record g { nodes = without id g.nodes })
placed_without g id p = record {
  low = p.low;
  high = p.high;
  ascending = ascends_without id g.nodes p.ascending;
  below = all_without (λ n. Between g.next n.id) id g.nodes p.below;
}

placed_made : (g : Graph) (m : StoredNode) → m.id ≡ g.next → g.next <ℤ last_id → IsPlaced g
    → IsPlaced (record { next = g.next +ℤ pos 1; nodes = g.nodes ++ m ∷ [] })
placed_made g m e lt p = record {
  low = let a : pos 0 ≤ℤ g.next = p.low in omega (arith, ints);
  high = omega (arith, ints);
  ascending = ascends_append g.next g.nodes (m ∷ []) p.ascending under (ascends_cons m [] tt ascends_nil) (
    subst (λ i. i ≤ℤ m.id) e
        (omega (arith, ints)),
    tt,
  );
  below = All-append (λ n. Between (g.next +ℤ pos 1) n.id) g.nodes (m ∷ [])
      (All-weaker (λ n. Between g.next n.id) (λ n. Between (g.next +ℤ pos 1) n.id) (λ n h. (
        h.0,
        let a : n.id <ℤ g.next = h.1 in
            omega (arith, ints),
      )) g.nodes p.below)
      (All-cons (λ n. Between (g.next +ℤ pos 1) n.id) m [] (subst (λ i. Between (g.next +ℤ pos 1) i) (sym e)
      (p.low, omega (arith, ints))) (All-nil _));
} where
  under : Under g.next g.nodes
  under = under_from g.next g.nodes (All-weaker (λ n. Between g.next n.id) (λ n. n.id <ℤ g.next) (λ n h. h.1) g.nodes p.below)

pub placed_head : (g : Graph) (r : Headed) → IsPlaced g → IsHead g r → IsPlaced r.0
placed_head g r p (inl k) = subst IsPlaced (sym k.0) p
placed_head g r p (inr m) =
    subst (λ (x : Headed). IsPlaced x.0) (sym m.1.1.1) (placed_made g (record { id = g.next; label = m.0; props = m.1.0 }) refl
    (lt_is_true g.next last_id m.1.1.0) p)

pub placed_step : (g after : Graph) (call : Call) (rows : Given) → IsPlaced g → step g call ≡ Ok (rows, after) → IsPlaced after
placed_step g after call rows p e = go (call_ran g call rows after e) where
  go : ((rows ≡ []) × (g ≡ after)) ⊎ ((x : Statement) × ((parsed call.source ≡ Ok x) × (run g call.params x ≡ Ok (rows, after))))
      → IsPlaced after
  go (inl k) = subst IsPlaced k.1 p
  go (inr w) =
      let q = parts_of g call.params w.0 rows after w.1.1 in
      change_keeps IsPlaced placed_replaced placed_without call.params w.0.change q.headed after (placed_head g q.headed p
      (head_is call.params g w.0.head q.headed q.head)) q.change

pub stays_placed : (g : Graph) (calls : List Call) (e : Ended) → IsPlaced g → exec g calls ≡ Ok e → IsPlaced e.graph
stays_placed g calls e p is = stays IsPlaced placed_step g calls e p is

-- ---- a statement that does not write

reads_head : (params : Props) (g : Graph) (b : Head) (r : Headed) → makes b ≡ false → head params g b ≡ Ok r → r.0 ≡ g
reads_head params g h.Alone r quiet e = let same : (g, []) ≡ r = cc in ap (λ (x : Headed). x.0) (sym same)
reads_head params g (h.Create l ps) r quiet e = absurd (cc)
reads_head params g (h.Find l p) r quiet e =
    let one = bound (wanted params p) (λ w. Ok (g, matching l w g)) r e in
    let same : (g, matching l one.0 g) ≡ r = (let k = one.1.1 in cc) in
    ap (λ (x : Headed). x.0) (sym same)
reads_head params g (h.Merge l p) r quiet e = absurd (cc)

reads_change : (params : Props) (ch : Change) (r : Headed) (after : Graph) → changes ch ≡ false → change params ch r ≡ Ok after → after
    ≡ r.0
reads_change params c.Keep r after quiet e = let same : after ≡ r.0 = cc in same
reads_change params (c.Set cs) r after quiet e = absurd (cc)
reads_change params c.Delete r after quiet e = absurd (cc)

neither : (a b : Bool) → (a || b) ≡ false → (a ≡ false) × (b ≡ false)
neither true b e = absurd (cc)
neither false b e = (refl, e)

pub reading : (g after : Graph) (call : Call) (x : Statement) (rows : Given) → parsed call.source ≡ Ok x → writes x ≡ false
    → step g call ≡ Ok (rows, after) → after ≡ g
reading g after call x rows p quiet e =
    let q = parts_of g call.params x rows after (ran_of g call x rows after p e) in
    let none = neither (makes x.head) (changes x.change) quiet in
    reads_change call.params x.change q.headed after none.1 q.change ∙ reads_head call.params g x.head q.headed none.0 q.head
