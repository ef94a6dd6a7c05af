-- The delta of what is written gives what is seen.
use Rattle.std.proofs.Common.{◌≡◌, ℤ, pos, ◌<ℤ◌, ◌≤ℤ◌, int_lt, Bool, true, false, not, cond, ◌||◌, List, [], ◌∷◌, ◌++◌, map, filter}
use Rattle.std.proofs.Common.{All, Option, Some, None, IsSome, Less, int_cmp, int_eq, refl, sym, ap, ap₂, subst, ◌∙◌, append-nil}
use Rattle.std.specs.List.{list_any, AllByRecursion}
use Rattle.std.specs.List.Sorted.{IsStrictlySortedBy}
use Rattle.std.proofs.lemmas.List.Elements.{All-nil, All-cons, All-head, All-tail, All-weaker}
use Rattle.ncc_store.specs.declared.node.StoredNode.{StoredNode}
use Rattle.ncc_store.specs.declared.ran.Delta.{Delta}
use Rattle.ncc_store.specs.Graph.{Graph, IsNode, find}
use Rattle.ncc_store.specs.Delta.{or_else, renewed, is_gone, applied, IsPut, IsOver}
use Rattle.ncc_store.specs.Layers.{Layers, Written, written_at, one, seen_one, seen_below, fresh, seen, IsNodeAt, IsWritten, IsLayered}
use Rattle.ncc_store.proofs.Placed.{same_id, itself, is_less, is_lt_true, is_lt_false, lt_is_true, above_apart, Ascends}
use Rattle.ncc_store.proofs.Written.{Entry, Keyed, KeysAbove, keys_head, keys_tail, written_here, written_past, written_above}
use Rattle.ncc_store.proofs.Seen.{NodesAt, nodes_at, flat, find_fresh, ascends_fresh, seen_below_nil, seen_below_cons, fresh_nil}
use Rattle.ncc_store.proofs.Seen.{fresh_old, fresh_new}

-- the nodes that are written
abbrev pub put_of : Written → List StoredNode
put_of [] = []
put_of (e ∷ es) = one e.1 ++ put_of es

-- the id, if nothing stands there now and the store below may have a node there
abbrev pub gone_one : ℤ → ℤ → Option StoredNode → List ℤ
gone_one k id None = cond (int_lt id k) (id ∷ []) []
gone_one k id (Some n) = []

abbrev pub gone_of : ℤ → Written → List ℤ
gone_of k [] = []
gone_of k (e ∷ es) = gone_one k e.0 e.1 ++ gone_of k es

-- ---- the nodes

fresh_all : (es : Written) → All (λ e. pos 0 ≤ℤ e.0) es → fresh (pos 0) es ≡ put_of es
fresh_all [] h = fresh_nil (pos 0)
fresh_all (e ∷ es) h = fresh_new (pos 0) e es (is_lt_false e.0 (pos 0) (All-head (λ x. pos 0 ≤ℤ x.0) e es h))
    ∙ ap (λ (ns : List StoredNode). one e.1 ++ ns) (fresh_all es (All-tail (λ x. pos 0 ≤ℤ x.0) e es h))

abbrev is_new : ℤ → StoredNode → Bool
is_new k n = not (int_lt n.id k)

new_one : (k id : ℤ) (o : Option StoredNode) (rest : List StoredNode) → IsNodeAt id o → filter (is_new k) (one o ++ rest)
    ≡ cond (int_lt id k) (filter (is_new k) rest) (one o ++ filter (is_new k) rest)
new_one k id None rest at = go (int_lt id k) where
  go : (t : Bool) → filter (is_new k) rest ≡ cond t (filter (is_new k) rest) (filter (is_new k) rest)
  go true = refl
  go false = refl
new_one k id (Some m) rest at = ap (λ (i : ℤ). cond (not (int_lt i k)) (m ∷ filter (is_new k) rest) (filter (is_new k) rest)) at.0
    ∙ go (int_lt id k) where
      go : (t : Bool) → cond (not t) (m ∷ filter (is_new k) rest) (filter (is_new k) rest) ≡ cond t (filter (is_new k) rest)
          (m ∷ filter (is_new k) rest)
      go true = refl
      go false = refl

new_are_fresh : (k : ℤ) (es : Written) → NodesAt es → filter (is_new k) (put_of es) ≡ fresh k es
new_are_fresh k [] at = sym (fresh_nil k)
new_are_fresh k (e ∷ es) at = new_one k e.0 e.1 (put_of es) (All-head (λ x. IsNodeAt x.0 x.1) e es at)
    ∙ go (int_lt e.0 k) refl (new_are_fresh k es (All-tail (λ x. IsNodeAt x.0 x.1) e es at)) where
      go : (t : Bool) → int_lt e.0 k ≡ t → filter (is_new k) (put_of es) ≡ fresh k es → cond t (filter (is_new k) (put_of es))
          (one e.1 ++ filter (is_new k) (put_of es)) ≡ fresh k (e ∷ es)
      go true h again = again ∙ sym (fresh_old k e es h)
      go false h again = ap (λ (ns : List StoredNode). one e.1 ++ ns) again ∙ sym (fresh_new k e es h)

pub find_put_at : (id : ℤ) (es : Written) → NodesAt es → Keyed es → All (λ e. pos 0 ≤ℤ e.0) es → find id (put_of es)
    ≡ cond (int_lt id (pos 0)) None (flat (written_at id es))
find_put_at id es at s low = ap (find id) (sym (fresh_all es low)) ∙ find_fresh id (pos 0) es at s

find_put : (id : ℤ) (es : Written) → NodesAt es → Keyed es → All (λ e. pos 0 ≤ℤ e.0) es → pos 0 ≤ℤ id → find id (put_of es)
    ≡ flat (written_at id es)
find_put id es at s low h = find_put_at id es at s low ∙ ap (λ (t : Bool). cond t None (flat (written_at id es))) (is_lt_false id (pos 0) h)

-- ---- the ids that are gone

abbrev pub is_removed : Option (Option StoredNode) → Bool
is_removed (Some None) = true
is_removed _ = false

gone_here : (k id : ℤ) (o : Option StoredNode) (rest : List ℤ) → int_lt id k ≡ true → list_any (int_eq id) rest ≡ false
    → list_any (int_eq id) (gone_one k id o ++ rest) ≡ is_removed (Some o)
gone_here k id (Some m) rest h none = none
gone_here k id None rest h none = ap (λ (t : Bool). list_any (int_eq id) (cond t (id ∷ []) [] ++ rest)) h
    ∙ ap (λ (t : Bool). t || list_any (int_eq id) rest) (itself id)

gone_past : (id k i : ℤ) (o : Option StoredNode) (rest : List ℤ) → int_eq id i ≡ false → list_any (int_eq id) (gone_one k i o ++ rest)
    ≡ list_any (int_eq id) rest
gone_past id k i (Some m) rest h = refl
gone_past id k i None rest h = go (int_lt i k) where
  go : (t : Bool) → list_any (int_eq id) (cond t (i ∷ []) [] ++ rest) ≡ list_any (int_eq id) rest
  go true = ap (λ (t : Bool). t || list_any (int_eq id) rest) h
  go false = refl

pub any_gone : (id k : ℤ) (es : Written) → Keyed es → int_lt id k ≡ true → list_any (int_eq id) (gone_of k es)
    ≡ is_removed (written_at id es)
any_gone id k [] s lt = refl
any_gone id k (e ∷ es) s lt = go (int_eq id e.0) refl (any_gone id k es (keys_tail e es s) lt) where
  go : (t : Bool) → int_eq id e.0 ≡ t → list_any (int_eq id) (gone_of k es) ≡ is_removed (written_at id es)
      → list_any (int_eq id) (gone_of k (e ∷ es)) ≡ is_removed (written_at id (e ∷ es))
  go true h again =
      let same : id ≡ e.0 = same_id id e.0 h in
      let none : list_any (int_eq id) (gone_of k es) ≡ false = again
      ∙ ap is_removed (written_above id es (subst (λ i. KeysAbove i es) (sym same) (keys_head e es s))) in
      ap (λ (i : ℤ). list_any (int_eq id) (gone_one k i e.1 ++ gone_of k es)) (sym same) ∙ gone_here k id e.1 (gone_of k es) lt none
      ∙ sym (ap is_removed (written_here id e es (sym same)))
  go false h again = gone_past id k e.0 e.1 (gone_of k es) h ∙ again ∙ sym (ap is_removed (written_past id e es h))

above_gone : (j k : ℤ) (es : Written) → KeysAbove j es → AllByRecursion (λ y. int_cmp j y ≡ Less) (gone_of k es)
above_gone j k [] a = tt
above_gone j k (e ∷ es) a = go e.1 (above_gone j k es a.1) where
  cut : (t : Bool) → AllByRecursion (λ y. int_cmp j y ≡ Less) (gone_of k es) → AllByRecursion (λ y. int_cmp j y ≡ Less)
      (cond t (e.0 ∷ []) [] ++ gone_of k es)
  cut true b = (is_less j e.0 a.0, b)
  cut false b = b

  go : (o : Option StoredNode) → AllByRecursion (λ y. int_cmp j y ≡ Less) (gone_of k es) → AllByRecursion (λ y. int_cmp j y ≡ Less)
      (gone_one k e.0 o ++ gone_of k es)
  go None b = cut (int_lt e.0 k) b
  go (Some m) b = b

gone_cons : (i : ℤ) (is : List ℤ) → AllByRecursion (λ y. int_cmp i y ≡ Less) is → IsStrictlySortedBy int_cmp is
    → IsStrictlySortedBy int_cmp (i ∷ is)
unfolding IsStrictlySortedBy
gone_cons i is a s = (a, s)

gone_nil : IsStrictlySortedBy int_cmp []
unfolding IsStrictlySortedBy
gone_nil = tt

gone_ascends : (k : ℤ) (es : Written) → Keyed es → IsStrictlySortedBy int_cmp (gone_of k es)
gone_ascends k [] s = gone_nil
gone_ascends k (e ∷ es) s = go e.1 (gone_ascends k es (keys_tail e es s)) where
  cut : (t : Bool) → IsStrictlySortedBy int_cmp (gone_of k es) → IsStrictlySortedBy int_cmp (cond t (e.0 ∷ []) [] ++ gone_of k es)
  cut true b = gone_cons e.0 (gone_of k es) (above_gone e.0 k es (keys_head e es s)) b
  cut false b = b

  go : (o : Option StoredNode) → IsStrictlySortedBy int_cmp (gone_of k es) → IsStrictlySortedBy int_cmp (gone_one k e.0 o ++ gone_of k es)
  go None b = cut (int_lt e.0 k) b
  go (Some m) b = b

-- ---- the delta

abbrev pub delta_of : Graph → ℤ → Written → Delta
delta_of g next es = record { next = next; put = put_of es; gone = gone_of g.next es }

kept_one : (d : Delta) (n : StoredNode) (rest : List StoredNode) (w : Option (Option StoredNode)) → is_gone d n ≡ is_removed w
    → find n.id d.put ≡ flat w
    → map (renewed d) (cond (not (is_gone d n)) (n ∷ rest) rest) ≡ seen_one n w ++ map (renewed d) rest
kept_one d n rest None e f = ap (λ (t : Bool). map (renewed d) (cond (not t) (n ∷ rest) rest)) e
    ∙ ap (λ (o : Option StoredNode). or_else n o ∷ map (renewed d) rest) f
kept_one d n rest (Some None) e f = ap (λ (t : Bool). map (renewed d) (cond (not t) (n ∷ rest) rest)) e
kept_one d n rest (Some (Some m)) e f = ap (λ (t : Bool). map (renewed d) (cond (not t) (n ∷ rest) rest)) e
    ∙ ap (λ (o : Option StoredNode). or_else n o ∷ map (renewed d) rest) f

pub low_keys : (g : Graph) (next : ℤ) (es : Written) → IsLayered g next es → All (λ e. pos 0 ≤ℤ e.0) es
low_keys g next es l = All-weaker (IsWritten g next) (λ e. pos 0 ≤ℤ e.0) (λ e h. h.0) es l.written

kept_are_seen : (g : Graph) (next : ℤ) (es : Written) → IsLayered g next es → (ns : List StoredNode) → All (λ n. (pos 0 ≤ℤ n.id)
    × (n.id <ℤ g.next)) ns
    → map (renewed (delta_of g next es)) (filter (λ n. not (is_gone (delta_of g next es) n)) ns) ≡ seen_below es ns
kept_are_seen g next es l [] all = sym (seen_below_nil es)
kept_are_seen g next es l (n ∷ ns) all =
    let h : (pos 0 ≤ℤ n.id) × (n.id <ℤ g.next) = All-head (λ x. (pos 0 ≤ℤ x.id) × (x.id <ℤ g.next)) n ns all in
    kept_one (delta_of g next es) n (filter (λ x. not (is_gone (delta_of g next es) x)) ns) (written_at n.id es)
    (any_gone n.id g.next es l.ordered (is_lt_true n.id g.next h.1)) (find_put n.id es (nodes_at g next es l) l.ordered
    (low_keys g next es l) h.0)
    ∙ ap (λ (ms : List StoredNode). seen_one n (written_at n.id es) ++ ms) (kept_are_seen g next es l ns (All-tail (λ x. (pos 0 ≤ℤ x.id)
    × (x.id <ℤ g.next)) n ns all))
    ∙ sym (seen_below_cons es n ns)

pub applied_is_seen : (g : Graph) (next : ℤ) (es : Written) → IsLayered g next es → applied (delta_of g next es) g ≡ seen g next es
applied_is_seen g next es l =
    ap₂ (λ (ns : List StoredNode) (ms : List StoredNode). record { next = next; nodes = ns ++ ms }) (kept_are_seen g next es l g.nodes
    l.below.placed.below) (new_are_fresh g.next es (nodes_at g next es l))

-- ---- what the delta is over

-- what is put and what is gone, from what is written
all_put : (P : StoredNode → Type 0) (es : Written) → All (λ e. (m : StoredNode) → e.1 ≡ Some m → P m) es → All P (put_of es)
all_put P [] h = All-nil P
all_put P (e ∷ es) h = go e.1 (All-head (λ x. (m : StoredNode) → x.1 ≡ Some m → P m) e es h)
    (all_put P es (All-tail (λ x. (m : StoredNode) → x.1 ≡ Some m → P m) e es h)) where
      go : (o : Option StoredNode) → ((m : StoredNode) → o ≡ Some m → P m) → All P (put_of es) → All P (one o ++ put_of es)
      go None k again = again
      go (Some m) k again = All-cons P m (put_of es) (k m refl) again

all_gone : (P : ℤ → Type 0) (k : ℤ) (es : Written) → All (λ e. e.1 ≡ None → e.0 <ℤ k → P e.0) es → All P (gone_of k es)
all_gone P k [] h = All-nil P
all_gone P k (e ∷ es) h = go e.1 (All-head (λ x. x.1 ≡ None → x.0 <ℤ k → P x.0) e es h) (all_gone P k es (All-tail (λ x. x.1 ≡ None
    → x.0 <ℤ k → P x.0) e es h)) where
      cut : (t : Bool) → int_lt e.0 k ≡ t → (e.0 <ℤ k → P e.0) → All P (gone_of k es) → All P (cond t (e.0 ∷ []) [] ++ gone_of k es)
      cut true lt f again = All-cons P e.0 (gone_of k es) (f (lt_is_true e.0 k lt)) again
      cut false lt f again = again

      go : (o : Option StoredNode) → (o ≡ None → e.0 <ℤ k → P e.0) → All P (gone_of k es) → All P (gone_one k e.0 o ++ gone_of k es)
      go None f again = cut (int_lt e.0 k) refl (f refl) again
      go (Some m) f again = again

-- each entry is what is written at its id
written_past_all : (x : Entry) (es fs : Written) → KeysAbove x.0 fs → All (λ e. written_at e.0 es ≡ Some e.1) fs
    → All (λ e. written_at e.0 (x ∷ es) ≡ Some e.1) fs
written_past_all x es [] a h = All-nil _
written_past_all x es (f ∷ fs) a h =
    All-cons (λ e. written_at e.0 (x ∷ es) ≡ Some e.1) f fs (written_past f.0 x es (above_apart f.0 x.0 a.0)
    ∙ All-head (λ e. written_at e.0 es ≡ Some e.1) f fs h)
    (written_past_all x es fs a.1 (All-tail (λ e. written_at e.0 es ≡ Some e.1) f fs h))

written_each : (es : Written) → Keyed es → All (λ e. written_at e.0 es ≡ Some e.1) es
written_each [] s = All-nil _
written_each (e ∷ es) s = All-cons (λ x. written_at x.0 (e ∷ es) ≡ Some x.1) e es (written_here e.0 e es refl) (written_past_all e es es
    (keys_head e es s) (written_each es (keys_tail e es s)))

at_node : (id : ℤ) (o : Option StoredNode) (m : StoredNode) → IsNodeAt id o → o ≡ Some m → (m.id ≡ id) × IsNode m
at_node id o m at e = subst (IsNodeAt id) e at

both : {A : Type 0} (P Q : A → Type 0) (xs : List A) → All P xs → All Q xs → All (λ x. P x × Q x) xs
both P Q [] p q = All-nil _
both P Q (x ∷ xs) p q = All-cons (λ y. P y × Q y) x xs (All-head P x xs p, All-head Q x xs q) (both P Q xs (All-tail P x xs p)
    (All-tail Q x xs q))

pub is_over : (g : Graph) (next : ℤ) (es : Written) → IsLayered g next es → IsOver g (delta_of g next es)
is_over g next es l = record {
  low = l.low;
  high = l.high;
  put = subst Ascends (fresh_all es (low_keys g next es l)) (ascends_fresh (pos 0) es (nodes_at g next es l) l.ordered);
  known = all_put (IsPut g (delta_of g next es)) es (All-weaker (IsWritten g next) (λ e. (m : StoredNode) → e.1 ≡ Some m
      → IsPut g (delta_of g next es) m) (λ e h m k. let at = at_node e.0 e.1 m h.3 k in (
        subst (λ i. i <ℤ next) (sym at.0) h.1,
        λ lt. subst (λ i. IsSome (find i g.nodes)) (sym at.0)
            (h.2 (subst (λ i. i <ℤ g.next) at.0 lt)),
      )) es l.written);
  nodes = all_put IsNode es (All-weaker (IsWritten g next) (λ e. (m : StoredNode) → e.1 ≡ Some m → IsNode m)
      (λ e h m k. (at_node e.0 e.1 m h.3 k).1) es l.written);
  gone = gone_ascends g.next es l.ordered;
  there = all_gone (λ id. IsSome (find id g.nodes)) g.next es (All-weaker (IsWritten g next) (λ e. e.1 ≡ None → e.0 <ℤ g.next
      → IsSome (find e.0 g.nodes)) (λ e h n lt. h.2 lt) es l.written);
  apart = all_gone (λ id. find id (put_of es) ≡ None) g.next es
      (All-weaker (λ e. IsWritten g next e × (written_at e.0 es ≡ Some e.1)) (λ e. e.1 ≡ None → e.0 <ℤ g.next → find e.0 (put_of es)
      ≡ None) (λ e h n lt. find_put e.0 es (nodes_at g next es l) l.ordered (low_keys g next es l) h.0.0 ∙ ap flat (h.1 ∙ ap Some n)) es
      (both (IsWritten g next) (λ e. written_at e.0 es ≡ Some e.1) es l.written (written_each es l.ordered)));
}
