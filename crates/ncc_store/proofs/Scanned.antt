-- The ids of what a pattern takes, node by node.
use Rattle.std.proofs.Common.{◌≡◌, ℕ, ◌+◌, ◌<◌, ◌≤◌, ℤ, ◌<ℤ◌, int_lt, Bool, true, false, not, cond, ◌&&◌, List, [], ◌∷◌, ◌++◌, length}
use Rattle.std.proofs.Common.{drop, get_or, filter, Option, Less, Equal, Greater, Ordering, int_cmp, is_le, refl, sym, ap, ◌∙◌}
use Rattle.std.proofs.Common.{append-nil, append_assoc, arith}
use Rattle.std.specs.Cmp.{int_ranked}
use Rattle.std.proofs.lemmas.Int.{ints}
use Rattle.std.specs.BTreeMap.Range.{entries_between}
use Rattle.std.specs.declared.ops.Bound.TheVariants.{Included, Unbounded}
use Rattle.std.proofs.lemmas.List.{drop_more, drop_all, map-append}
use Rattle.std.proofs.lemmas.List.Elements.{filter-append}
use Rattle.ncc_store.specs.declared.node.StoredNode.{StoredNode}
use Rattle.ncc_store.specs.Graph.{ids}
use Rattle.ncc_store.specs.Layers.{Written, written_at, one, seen_one, seen_below, fresh}
use Rattle.ncc_store.proofs.Placed.{is_lt_true, is_lt_false}
use Rattle.ncc_store.proofs.Written.{Entry}
use Rattle.ncc_store.proofs.Seen.{seen_below_nil, seen_below_cons, fresh_nil, fresh_old, fresh_new}
use Rattle.ncc_store.proofs.Changes.{put_of}

-- the ids of those that pass
abbrev pub taken_ids : (StoredNode → Bool) → List StoredNode → List ℤ
taken_ids p ns = ids (filter p ns)

pub taken_append : (p : StoredNode → Bool) (ns ms : List StoredNode) → taken_ids p (ns ++ ms) ≡ taken_ids p ns ++ taken_ids p ms
taken_append p ns ms = ap ids (filter-append p ns ms) ∙ map-append (λ (n : StoredNode). n.id) (filter p ns) (filter p ms)

-- what is found, with what one more node adds
onto : (p : StoredNode → Bool) (new old all : List ℤ) (front rest : List StoredNode) → new ≡ old ++ taken_ids p front
    → old ++ taken_ids p (front ++ rest) ≡ all → new ++ taken_ids p rest ≡ all
onto p new old all front rest e h =
    ap (λ (is : List ℤ). is ++ taken_ids p rest) e ∙ append_assoc old (taken_ids p front) (taken_ids p rest)
    ∙ ap (λ (is : List ℤ). old ++ is) (sym (taken_append p front rest)) ∙ h

pub below_more : (p : StoredNode → Bool) (es : Written) (ns : List StoredNode) (i : ℕ) (n : StoredNode) (o : Option StoredNode)
    (new old all : List ℤ) → i < length ns → n ≡ get_or ns i n
    → new ≡ old ++ taken_ids p (one o) → one o ≡ seen_one n (written_at n.id es) → old ++ taken_ids p (seen_below es (drop i ns)) ≡ all
    → new ++ taken_ids p (seen_below es (drop (i + 1) ns)) ≡ all
below_more p es ns i n o new old all lt is e f h =
    let next : drop i ns ≡ n ∷ drop (i + 1) ns = drop_more ns i n lt ∙ ap (λ (x : StoredNode). x ∷ drop (i + 1) ns) (sym is) in
    let parts : seen_below es (drop i ns) ≡ one o ++ seen_below es (drop (i + 1) ns) = ap (seen_below es) next
    ∙ seen_below_cons es n (drop (i + 1) ns) ∙ ap (λ (ms : List StoredNode). ms ++ seen_below es (drop (i + 1) ns)) (sym f) in
    onto p new old all (one o) (seen_below es (drop (i + 1) ns)) e (ap (λ (ms : List StoredNode). old ++ taken_ids p ms) (sym parts) ∙ h)

pub below_done : (p : StoredNode → Bool) (es : Written) (ns : List StoredNode) (i : ℕ) (new all : List ℤ) → length ns ≤ i
    → new ++ taken_ids p (seen_below es (drop i ns)) ≡ all → new ≡ all
below_done p es ns i new all le h = sym (append-nil new) ∙ sym (ap (λ (ms : List StoredNode). new ++ taken_ids p ms)
    (ap (seen_below es) (drop_all i ns le) ∙ seen_below_nil es)) ∙ h

pub made_more : (p : StoredNode → Bool) (e : Entry) (es rest : Written) (o : Option StoredNode) (new old all : List ℤ) → es ≡ e ∷ rest
    → new ≡ old ++ taken_ids p (one o) → o ≡ e.1
    → old ++ taken_ids p (put_of es) ≡ all → new ++ taken_ids p (put_of rest) ≡ all
made_more p e es rest o new old all f g k h = onto p new old all (one o) (put_of rest) g
    (ap (λ (x : Option StoredNode). old ++ taken_ids p (one x ++ put_of rest)) k ∙ ap (λ (xs : Written). old ++ taken_ids p (put_of xs))
    (sym f) ∙ h)

-- ---- the entries from an id on

not_below : (k i : ℤ) → (is_le (int_cmp k i) && not false) ≡ not (int_lt i k)
not_below k i = go (int_cmp k i) refl where
  go : (o : Ordering) → int_cmp k i ≡ o → (is_le o && not false) ≡ not (int_lt i k)
  go Less e = sym (ap not (is_lt_false i k (let h : k <ℤ i = int_ranked k i Less (sym e) in omega (arith, ints))))
  go Equal e = sym (ap not (is_lt_false i k (let h : k ≡ i = int_ranked k i Equal (sym e) in omega (arith, ints))))
  go Greater e = sym (ap not (is_lt_true i k (int_ranked k i Greater (sym e))))

from_on : (k : ℤ) (es : Written) → put_of (entries_between int_cmp (Included k) Unbounded es) ≡ fresh k es
from_on k [] = sym (fresh_nil k)
from_on k (e ∷ es) = ap (λ (t : Bool). put_of (cond t (e ∷ entries_between int_cmp (Included k) Unbounded es) (entries_between int_cmp
    (Included k) Unbounded es))) (not_below k e.0) ∙ go (int_lt e.0 k) refl (from_on k es) where
      go : (t : Bool) → int_lt e.0 k ≡ t → put_of (entries_between int_cmp (Included k) Unbounded es) ≡ fresh k es
          → put_of (cond (not t) (e ∷ entries_between int_cmp (Included k) Unbounded es) (entries_between int_cmp (Included k) Unbounded
          es)) ≡ fresh k (e ∷ es)
      go true h again = again ∙ sym (fresh_old k e es h)
      go false h again = ap (λ (ns : List StoredNode). one e.1 ++ ns) again ∙ sym (fresh_new k e es h)

pub made_done : (p : StoredNode → Bool) (q k : ℤ) (es start rest : Written) (new old : List ℤ) → rest ≡ [] → start
    ≡ entries_between int_cmp (Included q) Unbounded es → q ≡ k
    → new ++ taken_ids p (put_of rest) ≡ old ++ taken_ids p (put_of start) → new ≡ old ++ taken_ids p (fresh k es)
made_done p q k es start rest new old done begun same h =
    sym (ap (λ (xs : Written). new ++ taken_ids p (put_of xs)) done ∙ append-nil new) ∙ h
    ∙ ap (λ (xs : Written). old ++ taken_ids p (put_of xs)) begun ∙ ap (λ (ns : List StoredNode). old ++ taken_ids p ns) (from_on q es
    ∙ ap (λ (i : ℤ). fresh i es) same)
