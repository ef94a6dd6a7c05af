-- What is seen of a store over which something is written.
use Rattle.std.proofs.Common.{◌≡◌, ℤ, pos, ◌<ℤ◌, ◌≤ℤ◌, int_lt, Bool, true, false, cond, List, [], ◌∷◌, ◌++◌, All, Option, Some, None}
use Rattle.std.proofs.Common.{IsSome, is_some, IfSome, option_copied, Bor, int_eq, refl, sym, ap, ap₂, subst, ◌∙◌, arith}
use Rattle.std.specs.Cmp.{signed_Decides}
use Rattle.std.proofs.lemmas.Int.{ints}
use Rattle.std.proofs.lemmas.List.Elements.{All-nil, All-cons, All-head, All-tail, All-append, All-weaker}
use Rattle.ncc_store.specs.declared.node.StoredNode.{StoredNode}
use Rattle.ncc_store.specs.Graph.{Graph, IsGraph, IsNode, IsPlaced, find}
use Rattle.ncc_store.specs.Layers.{Layers, Written, written_at, one, seen_one, seen_below, fresh, seen, IsNodeAt, IsWritten, IsLayered}
use Rattle.ncc_store.proofs.Placed.{same_id, apart, lt_is_true, lt_is_false, Ascends, Above, Under, From, above_head, ascends_tail}
use Rattle.ncc_store.proofs.Placed.{ascends_nil, ascends_cons, above_append, ascends_append, find_nil, find_here, find_past, find_above}
use Rattle.ncc_store.proofs.Placed.{find_append_none, find_append_some}
use Rattle.ncc_store.proofs.Written.{Entry, Keyed, KeysAbove, keys_head, keys_tail, written_here, written_past, written_above}
use Rattle.ncc_store.proofs.Written.{written_holds}

-- ---- the two parts, node by node

pub seen_below_nil : (es : Written) → seen_below es [] ≡ []
unfolding seen_below
seen_below_nil es = refl

pub seen_below_cons : (es : Written) (n : StoredNode) (ns : List StoredNode) → seen_below es (n ∷ ns) ≡ seen_one n (written_at n.id es)
    ++ seen_below es ns
unfolding seen_below
seen_below_cons es n ns = refl

pub fresh_nil : (k : ℤ) → fresh k [] ≡ []
unfolding fresh
fresh_nil k = refl

pub fresh_old : (k : ℤ) (e : Entry) (es : Written) → int_lt e.0 k ≡ true → fresh k (e ∷ es) ≡ fresh k es
unfolding fresh
fresh_old k e es h = ap (λ (t : Bool). cond t (fresh k es) (one e.1 ++ fresh k es)) h

pub fresh_new : (k : ℤ) (e : Entry) (es : Written) → int_lt e.0 k ≡ false → fresh k (e ∷ es) ≡ one e.1 ++ fresh k es
unfolding fresh
fresh_new k e es h = ap (λ (t : Bool). cond t (fresh k es) (one e.1 ++ fresh k es)) h

-- each node that is written stands at its id
abbrev pub NodesAt : Written → Type 0
NodesAt es = All (λ e. IsNodeAt e.0 e.1) es

abbrev IsAt : ℤ → Option (Option StoredNode) → Type 0
IsAt id None = Unit {0}
IsAt id (Some o) = IsNodeAt id o

is_at : (id : ℤ) (es : Written) → NodesAt es → IsAt id (written_at id es)
is_at id es all = go (written_at id es) refl where
  go : (w : Option (Option StoredNode)) → written_at id es ≡ w → IsAt id w
  go None e = tt
  go (Some o) e = written_holds (λ x. IsNodeAt x.0 x.1) id es o all e

-- ---- what is found

-- of a node of the store below, what is seen in its place
abbrev pub cover : Option (Option StoredNode) → Option StoredNode → Option StoredNode
cover w None = None
cover None (Some n) = Some n
cover (Some o) (Some n) = o

skips : (id : ℤ) (n : StoredNode) (w : Option (Option StoredNode)) (rest : List StoredNode) → IsAt n.id w → int_eq n.id id ≡ false
    → find id (seen_one n w ++ rest) ≡ find id rest
skips id n None rest at h = find_past id n rest h
skips id n (Some None) rest at h = refl
skips id n (Some (Some m)) rest at h = find_past id m rest (ap (λ (i : ℤ). int_eq i id) at.0 ∙ h)

meets : (id : ℤ) (n : StoredNode) (w : Option (Option StoredNode)) (rest : List StoredNode) → IsAt n.id w → n.id ≡ id → find id rest
    ≡ None → find id (seen_one n w ++ rest) ≡ cover w (Some n)
meets id n None rest at h none = find_here id n rest h
meets id n (Some None) rest at h none = none
meets id n (Some (Some m)) rest at h none = find_here id m rest (at.0 ∙ h)

pub find_below : (id : ℤ) (es : Written) (ns : List StoredNode) → NodesAt es → Ascends ns → find id (seen_below es ns)
    ≡ cover (written_at id es) (find id ns)
find_below id es [] all a = ap (find id) (seen_below_nil es) ∙ find_nil id ∙ sym (ap (cover (written_at id es)) (find_nil id))
find_below id es (n ∷ ns) all a = ap (find id) (seen_below_cons es n ns)
    ∙ go (int_eq n.id id) refl (find_below id es ns all (ascends_tail n ns a)) where
      go : (t : Bool) → int_eq n.id id ≡ t → find id (seen_below es ns) ≡ cover (written_at id es) (find id ns)
          → find id (seen_one n (written_at n.id es) ++ seen_below es ns) ≡ cover (written_at id es) (find id (n ∷ ns))
      go true h again =
          let same : n.id ≡ id = same_id n.id id h in
          let past : find id ns ≡ None = find_above id ns (subst (λ i. Above i ns) same (above_head n ns a)) in
          meets id n (written_at n.id es) (seen_below es ns) (is_at n.id es all) same (again ∙ ap (cover (written_at id es)) past)
          ∙ ap (λ (i : ℤ). cover (written_at i es) (Some n)) same ∙ sym (ap (cover (written_at id es)) (find_here id n ns same))
      go false h again = skips id n (written_at n.id es) (seen_below es ns) (is_at n.id es all) h ∙ again
          ∙ sym (ap (cover (written_at id es)) (find_past id n ns h))

abbrev pub flat : Option (Option StoredNode) → Option StoredNode
flat None = None
flat (Some o) = o

one_here : (id : ℤ) (o : Option StoredNode) (rest : List StoredNode) → IsNodeAt id o → find id rest ≡ None → find id (one o ++ rest) ≡ o
one_here id None rest at none = none
one_here id (Some m) rest at none = find_here id m rest at.0

one_past : (id k : ℤ) (o : Option StoredNode) (rest : List StoredNode) → IsNodeAt k o → int_eq id k ≡ false → find id (one o ++ rest)
    ≡ find id rest
one_past id k None rest at h = refl
one_past id k (Some m) rest at h =
    find_past id m rest (apart m.id id (λ e. absurd (let f : true ≡ false = sym ((signed_Decides id k).1 (sym e ∙ at.0)) ∙ h in cc)))

pub find_fresh : (id k : ℤ) (es : Written) → NodesAt es → Keyed es → find id (fresh k es) ≡ cond (int_lt id k) None
    (flat (written_at id es))
find_fresh id k [] all s = ap (find id) (fresh_nil k) ∙ find_nil id ∙ none (int_lt id k) where
  none : (t : Bool) → ◌≡◌ {A = Option StoredNode} None (cond t None None)
  none true = refl
  none false = refl
find_fresh id k (e ∷ es) all s = go (int_lt e.0 k) refl (int_eq id e.0) refl (find_fresh id k es (All-tail (λ x. IsNodeAt x.0 x.1) e es
    all) (keys_tail e es s)) where
      at : IsNodeAt e.0 e.1
      at = All-head (λ x. IsNodeAt x.0 x.1) e es all

      gone : id ≡ e.0 → find id (fresh k es) ≡ cond (int_lt id k) None (flat (written_at id es)) → int_lt id k ≡ false
          → find id (fresh k es) ≡ None
      gone same again h = again ∙ ap (λ (t : Bool). cond t None (flat (written_at id es))) h
          ∙ ap flat (written_above id es (subst (λ i. KeysAbove i es) (sym same) (keys_head e es s)))

      go : (t : Bool) → int_lt e.0 k ≡ t → (u : Bool) → int_eq id e.0 ≡ u → find id (fresh k es) ≡ cond (int_lt id k) None
          (flat (written_at id es)) → find id (fresh k (e ∷ es)) ≡ cond (int_lt id k) None (flat (written_at id (e ∷ es)))
      go true h true g again =
          let lt : int_lt id k ≡ true = ap (λ (i : ℤ). int_lt i k) (same_id id e.0 g) ∙ h in
          ap (find id) (fresh_old k e es h) ∙ again ∙ ap (λ (t : Bool). cond t None (flat (written_at id es))) lt
          ∙ sym (ap (λ (t : Bool). cond t None (flat (written_at id (e ∷ es)))) lt)
      go true h false g again = ap (find id) (fresh_old k e es h) ∙ again
          ∙ sym (ap (λ (w : Option (Option StoredNode)). cond (int_lt id k) None (flat w)) (written_past id e es g))
      go false h true g again =
          let same : id ≡ e.0 = same_id id e.0 g in
          let lt : int_lt id k ≡ false = ap (λ (i : ℤ). int_lt i k) same ∙ h in
          ap (find id) (fresh_new k e es h) ∙ one_here id e.1 (fresh k es) (subst (λ i. IsNodeAt i e.1) (sym same) at) (gone same again lt)
          ∙ sym (ap (λ (t : Bool). cond t None (flat (written_at id (e ∷ es)))) lt ∙ ap flat (written_here id e es (sym same)))
      go false h false g again =
          ap (find id) (fresh_new k e es h) ∙ one_past id e.0 e.1 (fresh k es) at g ∙ again
          ∙ sym (ap (λ (w : Option (Option StoredNode)). cond (int_lt id k) None (flat w)) (written_past id e es g))

-- what is written, or else what stands below
abbrev pub over : Option (Option StoredNode) → Option StoredNode → Option StoredNode
over None o = o
over (Some w) o = w

abbrev pub or_next : Option StoredNode → Option StoredNode → Option StoredNode
or_next None o = o
or_next (Some n) o = Some n

pub find_append : (id : ℤ) (ns ms : List StoredNode) → find id (ns ++ ms) ≡ or_next (find id ns) (find id ms)
find_append id ns ms = go (find id ns) refl where
  go : (o : Option StoredNode) → find id ns ≡ o → find id (ns ++ ms) ≡ or_next o (find id ms)
  go None e = find_append_none id ns ms e
  go (Some n) e = find_append_some id ns ms n e

pub nodes_at : (g : Graph) (next : ℤ) (es : Written) → IsLayered g next es → NodesAt es
nodes_at g next es l = All-weaker (IsWritten g next) (λ e. IsNodeAt e.0 e.1) (λ e h. h.3) es l.written

pub find_seen : (g : Graph) (next : ℤ) (es : Written) → IsLayered g next es → (id : ℤ) → find id (seen g next es).nodes
    ≡ over (written_at id es) (find id g.nodes)
find_seen g next es l id =
    find_append id (seen_below es g.nodes) (fresh g.next es)
    ∙ ap₂ or_next (find_below id es g.nodes (nodes_at g next es l) l.below.placed.ascending) (find_fresh id g.next es
    (nodes_at g next es l) l.ordered)
    ∙ go (written_at id es) refl (int_lt id g.next) refl (find id g.nodes) refl where
      go : (w : Option (Option StoredNode)) → written_at id es ≡ w → (t : Bool) → int_lt id g.next ≡ t → (o : Option StoredNode)
          → find id g.nodes ≡ o → or_next (cover w o) (cond t None (flat w)) ≡ over w o
      go None e true h None f = refl
      go None e false h None f = refl
      go None e t h (Some n) f = refl
      go (Some None) e true h None f = refl
      go (Some (Some m)) e true h None f =
          let there : IsSome (find id g.nodes) = (written_holds (IsWritten g next) id es (Some m) l.written e).2 (lt_is_true id g.next h) in
          absurd (let k : true ≡ false = sym there ∙ ap is_some f in cc)
      go (Some None) e false h None f = refl
      go (Some (Some m)) e false h None f = refl
      go (Some None) e true h (Some n) f = refl
      go (Some (Some m)) e true h (Some n) f = refl
      go (Some None) e false h (Some n) f = refl
      go (Some (Some m)) e false h (Some n) f = refl

-- ---- the order of what is seen

above_one : (k id : ℤ) (o : Option StoredNode) → IsNodeAt id o → k <ℤ id → Above k (one o)
above_one k id None at h = tt
above_one k id (Some m) at h = (subst (λ i. k <ℤ i) (sym at.0) h, tt)

above_seen_one : (k : ℤ) (n : StoredNode) (w : Option (Option StoredNode)) → IsAt n.id w → k <ℤ n.id → Above k (seen_one n w)
above_seen_one k n None at h = (h, tt)
above_seen_one k n (Some o) at h = above_one k n.id o at h

above_seen : (k : ℤ) (es : Written) (ns : List StoredNode) → NodesAt es → Above k ns → Above k (seen_below es ns)
above_seen k es [] all a = subst (Above k) (sym (seen_below_nil es)) tt
above_seen k es (n ∷ ns) all a =
    subst (Above k) (sym (seen_below_cons es n ns))
    (above_append k (seen_one n (written_at n.id es)) (seen_below es ns) (above_seen_one k n (written_at n.id es) (is_at n.id es all)
    a.0) (above_seen k es ns all a.1))

onto_one : (id : ℤ) (o : Option StoredNode) (rest : List StoredNode) → IsNodeAt id o → Above id rest → Ascends rest
    → Ascends (one o ++ rest)
onto_one id None rest at b a = a
onto_one id (Some m) rest at b a = ascends_cons m rest (subst (λ i. Above i rest) (sym at.0) b) a

onto_seen_one : (n : StoredNode) (w : Option (Option StoredNode)) (rest : List StoredNode) → IsAt n.id w → Above n.id rest
    → Ascends rest → Ascends (seen_one n w ++ rest)
onto_seen_one n None rest at b a = ascends_cons n rest b a
onto_seen_one n (Some o) rest at b a = onto_one n.id o rest at b a

pub ascends_below : (es : Written) (ns : List StoredNode) → NodesAt es → Ascends ns → Ascends (seen_below es ns)
ascends_below es [] all a = subst Ascends (sym (seen_below_nil es)) ascends_nil
ascends_below es (n ∷ ns) all a =
    subst Ascends (sym (seen_below_cons es n ns))
    (onto_seen_one n (written_at n.id es) (seen_below es ns) (is_at n.id es all) (above_seen n.id es ns all (above_head n ns a))
    (ascends_below es ns all (ascends_tail n ns a)))

above_fresh : (k j : ℤ) (es : Written) → NodesAt es → KeysAbove k es → Above k (fresh j es)
above_fresh k j [] all a = subst (Above k) (sym (fresh_nil j)) tt
above_fresh k j (e ∷ es) all a = go (int_lt e.0 j) refl (above_fresh k j es (All-tail (λ x. IsNodeAt x.0 x.1) e es all) a.1) where
  go : (t : Bool) → int_lt e.0 j ≡ t → Above k (fresh j es) → Above k (fresh j (e ∷ es))
  go true h b = subst (Above k) (sym (fresh_old j e es h)) b
  go false h b = subst (Above k) (sym (fresh_new j e es h)) (above_append k (one e.1) (fresh j es)
      (above_one k e.0 e.1 (All-head (λ x. IsNodeAt x.0 x.1) e es all) a.0) b)

pub ascends_fresh : (j : ℤ) (es : Written) → NodesAt es → Keyed es → Ascends (fresh j es)
ascends_fresh j [] all s = subst Ascends (sym (fresh_nil j)) ascends_nil
ascends_fresh j (e ∷ es) all s = go (int_lt e.0 j) refl (ascends_fresh j es (All-tail (λ x. IsNodeAt x.0 x.1) e es all)
    (keys_tail e es s)) where
      go : (t : Bool) → int_lt e.0 j ≡ t → Ascends (fresh j es) → Ascends (fresh j (e ∷ es))
      go true h b = subst Ascends (sym (fresh_old j e es h)) b
      go false h b =
          subst Ascends (sym (fresh_new j e es h))
          (onto_one e.0 e.1 (fresh j es) (All-head (λ x. IsNodeAt x.0 x.1) e es all) (above_fresh e.0 j es (All-tail (λ x. IsNodeAt x.0 x.1)
          e es all) (keys_head e es s)) b)

-- ---- what holds of each node that is seen

all_one : (P : StoredNode → Type 0) (o : Option StoredNode) → ((m : StoredNode) → o ≡ Some m → P m) → All P (one o)
all_one P None h = All-nil P
all_one P (Some m) h = All-cons P m [] (h m refl) (All-nil P)

all_below : (P : StoredNode → Type 0) (es : Written) (ns : List StoredNode) → NodesAt es → ((n m : StoredNode) → P n → m.id ≡ n.id
    → IsNode m → P m) → All P ns → All P (seen_below es ns)
all_below P es [] all h ps = subst (All P) (sym (seen_below_nil es)) (All-nil P)
all_below P es (n ∷ ns) all h ps =
    subst (All P) (sym (seen_below_cons es n ns)) (All-append P (seen_one n (written_at n.id es)) (seen_below es ns)
    (go (written_at n.id es) (is_at n.id es all)) (all_below P es ns all h (All-tail P n ns ps))) where
      go : (w : Option (Option StoredNode)) → IsAt n.id w → All P (seen_one n w)
      go None at = All-cons P n [] (All-head P n ns ps) (All-nil P)
      go (Some None) at = All-nil P
      go (Some (Some m)) at = All-cons P m [] (h n m (All-head P n ns ps) at.0 at.1) (All-nil P)

all_fresh : (P : StoredNode → Type 0) (Q : Entry → Type 0) (k : ℤ) (es : Written) → ((e : Entry) (m : StoredNode) → int_lt e.0 k ≡ false
    → Q e → e.1 ≡ Some m → P m) → All Q es → All P (fresh k es)
all_fresh P Q k [] h qs = subst (All P) (sym (fresh_nil k)) (All-nil P)
all_fresh P Q k (e ∷ es) h qs = go (int_lt e.0 k) refl (all_fresh P Q k es h (All-tail Q e es qs)) where
  go : (t : Bool) → int_lt e.0 k ≡ t → All P (fresh k es) → All P (fresh k (e ∷ es))
  go true g ps = subst (All P) (sym (fresh_old k e es g)) ps
  go false g ps = subst (All P) (sym (fresh_new k e es g)) (All-append P (one e.1) (fresh k es)
      (all_one P e.1 (λ m f. h e m g (All-head Q e es qs) f)) ps)

-- ---- what is seen is a graph that steps can make

pub under_from : (k : ℤ) (ns : List StoredNode) → All (λ n. n.id <ℤ k) ns → Under k ns
under_from k [] h = tt
under_from k (n ∷ ns) h = (All-head (λ x. x.id <ℤ k) n ns h, under_from k ns (All-tail (λ x. x.id <ℤ k) n ns h))

pub from_from : (k : ℤ) (ns : List StoredNode) → All (λ n. k ≤ℤ n.id) ns → From k ns
from_from k [] h = tt
from_from k (n ∷ ns) h = (All-head (λ x. k ≤ℤ x.id) n ns h, from_from k ns (All-tail (λ x. k ≤ℤ x.id) n ns h))

node_at : (id : ℤ) (o : Option StoredNode) (m : StoredNode) → IsNodeAt id o → o ≡ Some m → (m.id ≡ id) × IsNode m
node_at id o m at e = subst (IsNodeAt id) e at

module _ (g : Graph) (next : ℤ) (es : Written) (l : IsLayered g next es) where
  stand : NodesAt es
  stand = nodes_at g next es l

  under : Under g.next (seen_below es g.nodes)
  under = under_from g.next (seen_below es g.nodes) (all_below (λ n. n.id <ℤ g.next) es g.nodes stand
      (λ n m h e k. subst (λ i. i <ℤ g.next) (sym e) h) (All-weaker (λ n. (pos 0 ≤ℤ n.id) × (n.id <ℤ g.next)) (λ n. n.id <ℤ g.next)
      (λ n h. h.1) g.nodes l.below.placed.below))

  from : From g.next (fresh g.next es)
  from = from_from g.next (fresh g.next es) (all_fresh (λ n. g.next ≤ℤ n.id) (λ e. IsNodeAt e.0 e.1) g.next es
      (λ e m h k f. subst (λ i. g.next ≤ℤ i) (sym (node_at e.0 e.1 m k f).0) (lt_is_false e.0 g.next h)) stand)

  pub ascends_seen : Ascends (seen g next es).nodes
  ascends_seen = ascends_append g.next (seen_below es g.nodes) (fresh g.next es) (ascends_below es g.nodes stand
      l.below.placed.ascending) under (ascends_fresh g.next es stand l.ordered) from

  pub within : All (λ n. (pos 0 ≤ℤ n.id) × (n.id <ℤ next)) (seen g next es).nodes
  within =
      let P : StoredNode → Type 0 = λ n. (pos 0 ≤ℤ n.id) × (n.id <ℤ next) in
      All-append P (seen_below es g.nodes) (fresh g.next es)
      (all_below P es g.nodes stand (λ n m h e k. (subst (λ i. pos 0 ≤ℤ i) (sym e) h.0, subst (λ i. i <ℤ next) (sym e) h.1))
      (All-weaker (λ n. (pos 0 ≤ℤ n.id) × (n.id <ℤ g.next)) P (λ n h. (
        h.0,
        let a : n.id <ℤ g.next = h.1 in let b : g.next ≤ℤ next =
            l.low in omega (arith, ints),
      )) g.nodes l.below.placed.below))
      (all_fresh P (IsWritten g next) g.next es (λ e m h k f. (
        subst (λ i. pos 0 ≤ℤ i) (sym (node_at e.0 e.1 m k.3 f).0) k.0,
        subst
            (λ i. i <ℤ next) (sym (node_at e.0 e.1 m k.3 f).0) k.1,
      )) l.written)

  nodes_seen : All IsNode (seen g next es).nodes
  nodes_seen =
      All-append IsNode (seen_below es g.nodes) (fresh g.next es)
      (all_below IsNode es g.nodes stand (λ n m h e k. k) l.below.nodes)
      (all_fresh IsNode (λ e. IsNodeAt e.0 e.1) g.next es (λ e m h k f. (node_at e.0 e.1 m k f).1) stand)

  placed_seen : IsPlaced (seen g next es)
  placed_seen = record {
    low = let a : pos 0 ≤ℤ g.next = l.below.placed.low in let b : g.next ≤ℤ next = l.low in omega (arith, ints);
    high = l.high;
    ascending = ascends_seen;
    below = within;
  }

  pub legal_seen : IsGraph (seen g next es)
  legal_seen = record { placed = placed_seen; nodes = nodes_seen }

-- ---- what a look-up in what is written says

pub node_in : (id : ℤ) (o : Option StoredNode) (r : Option (Bor StoredNode)) → IsNodeAt id o → option_copied r ≡ o
    → IfSome r (λ n. IsNode n.now)
node_in id o None at e = tt
node_in id o (Some b) at e = (node_at id o b.now at (sym e)).1

pub node_over : (es : Written) (q : ℤ) (o : Option StoredNode) (r : Option (Bor StoredNode)) → NodesAt es → Some o ≡ written_at q es
    → option_copied r ≡ o → IfSome r (λ n. IsNode n.now)
node_over es q o r at w e = node_in q o r (written_holds (λ x. IsNodeAt x.0 x.1) q es o at (sym w)) e

module _ (g : Graph) (next : ℤ) (es : Written) (s : Layers) (l : IsLayered g next es) (view : ◌≡◌ {A = Layers} (record {
  base =
      g;
  graph = seen g next es;
}) s) (q id : ℤ) (same : q ≡ id) where
  at_id : (r : Option StoredNode) → r ≡ over (written_at q es) (find q g.nodes) → r ≡ find id s.graph.nodes
  at_id r e = e ∙ ap (λ (i : ℤ). over (written_at i es) (find i g.nodes)) same ∙ sym (find_seen g next es l id)
      ∙ ap (λ (x : Layers). find id x.graph.nodes) view

  pub found_below : (r : Option StoredNode) → None ≡ written_at q es → r ≡ find q g.nodes → r ≡ find id s.graph.nodes
  found_below r w e = at_id r (e ∙ ap (λ (x : Option (Option StoredNode)). over x (find q g.nodes)) w)

  pub found_over : (r o : Option StoredNode) → Some o ≡ written_at q es → r ≡ o → r ≡ find id s.graph.nodes
  found_over r o w e = at_id r (e ∙ ap (λ (x : Option (Option StoredNode)). over x (find q g.nodes)) w)
