-- An earlier delta as what is written: each node that it puts at its id, and nothing at each id that is gone.
use Rattle.std.proofs.Common.{◌≡◌, ℕ, ◌+◌, ◌<◌, ◌≤◌, length, drop, get_or, ℤ, pos, ◌+ℤ◌, ◌<ℤ◌, ◌≤ℤ◌, int_lt, Bool, true, false, cond}
use Rattle.std.proofs.Common.{List, [], ◌∷◌, ◌++◌, All, Option, Some, None, IsSome, Less, Equal, Greater, Ordering, int_cmp, int_eq}
use Rattle.std.proofs.Common.{refl, sym, ap, ap₂, subst, ◌∙◌, arith, append_assoc, append-nil}
use Rattle.std.specs.Cmp.{int_ranked, int_cmp_is}
use Rattle.std.specs.Ordering.{match_ordering}
use Rattle.std.specs.List.{AllByRecursion}
use Rattle.std.specs.List.Sorted.{IsStrictlySortedBy}
use Rattle.std.specs.Map.{keys_of}
use Rattle.std.specs.BTreeMap.{insert_entry}
use Rattle.std.proofs.lemmas.Int.{ints}
use Rattle.std.proofs.lemmas.List.{drop_all}
use Rattle.std.proofs.lemmas.List.Elements.{All-nil, All-cons, All-head, All-tail, All-append}
use Rattle.ncc_store.specs.declared.node.StoredNode.{StoredNode}
use Rattle.ncc_store.specs.declared.ran.Delta.{Delta}
use Rattle.ncc_store.specs.Graph.{Graph, IsGraph, IsNode, find}
use Rattle.ncc_store.specs.Delta.{applied, IsPut, IsOver}
use Rattle.ncc_store.specs.Layers.{Layers, Written, written_at, one, seen, IsWritten, IsLayered, with_put, with_gone}
use Rattle.ncc_store.proofs.Placed.{same_id, itself, apart, is_less, less_is, is_lt_true, lt_is_true, lt_is_false, above_apart, Ascends}
use Rattle.ncc_store.proofs.Placed.{Above, above_head, ascends_tail, All_found, found_id, find_here, find_past}
use Rattle.ncc_store.proofs.Written.{Entry, Keyed, KeysAbove, keys_nil, keys_head, keys_tail, written_here, written_past, All_insert}
use Rattle.ncc_store.proofs.Running.{next_at}
use Rattle.ncc_store.proofs.Seen.{legal_seen}
use Rattle.ncc_store.proofs.Changes.{put_of, gone_one, gone_of, delta_of, applied_is_seen}

abbrev pub entries_of : Delta → Written
entries_of d = with_gone (with_put [] d.put) d.gone

-- ---- an entry at an id at which nothing is written

-- what is not at the new id stays
written_beside : (j id : ℤ) (v : Option StoredNode) (es : Written) → int_eq j id ≡ false → written_at j (insert_entry int_cmp es id v)
    ≡ written_at j es
written_beside j id v [] h = written_past j (id, v) [] h
written_beside j id v (e ∷ es) h = go (int_cmp id e.0) refl (written_beside j id v es h) where
  past : (t : Bool) → int_eq j e.0 ≡ t → written_at j (insert_entry int_cmp es id v) ≡ written_at j es
      → written_at j (e ∷ insert_entry int_cmp es id v) ≡ written_at j (e ∷ es)
  past true k again = written_here j e (insert_entry int_cmp es id v) (sym (same_id j e.0 k))
      ∙ sym (written_here j e es (sym (same_id j e.0 k)))
  past false k again = written_past j e (insert_entry int_cmp es id v) k ∙ again ∙ sym (written_past j e es k)

  go : (o : Ordering) → int_cmp id e.0 ≡ o → written_at j (insert_entry int_cmp es id v) ≡ written_at j es
      → written_at j (match_ordering o ((id, v) ∷ e ∷ es) ((e.0, v) ∷ es) (e ∷ insert_entry int_cmp es id v)) ≡ written_at j (e ∷ es)
  go Less k again = written_past j (id, v) (e ∷ es) h
  go Equal k again =
      let same : id ≡ e.0 = int_ranked id e.0 Equal (sym k) in
      let p : int_eq j e.0 ≡ false = ap (int_eq j) (sym same) ∙ h in
      written_past j (e.0, v) es p ∙ sym (written_past j e es p)
  go Greater k again = past (int_eq j e.0) refl again

-- the order of the keys stays
keys_back : (k : ℤ) (es : Written) → KeysAbove k es → AllByRecursion (λ y. int_cmp k y ≡ Less) (keys_of es)
keys_back k [] a = tt
keys_back k (e ∷ es) a = (is_less k e.0 a.0, keys_back k es a.1)

keys_cons : (e : Entry) (es : Written) → KeysAbove e.0 es → Keyed es → Keyed (e ∷ es)
unfolding IsStrictlySortedBy
keys_cons e es a s = (keys_back e.0 es a, s)

keys_more : (j k : ℤ) (es : Written) → j <ℤ k → KeysAbove k es → KeysAbove j es
keys_more j k [] h a = tt
keys_more j k (e ∷ es) h a = (let x : k <ℤ e.0 = a.0 in omega (arith, ints), keys_more j k es h a.1)

above_insert : (j id : ℤ) (v : Option StoredNode) (es : Written) → j <ℤ id → KeysAbove j es → KeysAbove j (insert_entry int_cmp es id v)
above_insert j id v [] h a = (h, tt)
above_insert j id v (e ∷ es) h a = go (int_cmp id e.0) (above_insert j id v es h a.1) where
  go : (o : Ordering) → KeysAbove j (insert_entry int_cmp es id v) → KeysAbove j (match_ordering o ((id, v) ∷ e ∷ es) ((e.0, v) ∷ es)
      (e ∷ insert_entry int_cmp es id v))
  go Less again = (h, a)
  go Equal again = a
  go Greater again = (a.0, again)

keyed_insert : (id : ℤ) (v : Option StoredNode) (es : Written) → Keyed es → Keyed (insert_entry int_cmp es id v)
keyed_insert id v [] s = keys_cons (id, v) [] tt s
keyed_insert id v (e ∷ es) s = go (int_cmp id e.0) refl (keyed_insert id v es (keys_tail e es s)) where
  go : (o : Ordering) → int_cmp id e.0 ≡ o → Keyed (insert_entry int_cmp es id v)
      → Keyed (match_ordering o ((id, v) ∷ e ∷ es) ((e.0, v) ∷ es) (e ∷ insert_entry int_cmp es id v))
  go Less k again = let lt : id <ℤ e.0 = less_is id e.0 k in keys_cons (id, v) (e ∷ es) (lt, keys_more id e.0 es lt (keys_head e es s)) s
  go Equal k again = keys_cons (e.0, v) es (keys_head e es s) (keys_tail e es s)
  go Greater k again = let lt : e.0 <ℤ id = int_ranked id e.0 Greater (sym k) in keys_cons e (insert_entry int_cmp es id v)
      (above_insert e.0 id v es lt (keys_head e es s)) again

-- ---- what is put

put_insert : (id : ℤ) (es : Written) → written_at id es ≡ None → put_of (insert_entry int_cmp es id None) ≡ put_of es
put_insert id [] none = refl
put_insert id (e ∷ es) none = go (int_cmp id e.0) refl (put_insert id es) where
  go : (o : Ordering) → int_cmp id e.0 ≡ o → (written_at id es ≡ None → put_of (insert_entry int_cmp es id None) ≡ put_of es)
      → put_of (match_ordering o ((id, None) ∷ e ∷ es) ((e.0, None) ∷ es) (e ∷ insert_entry int_cmp es id None)) ≡ put_of (e ∷ es)
  go Less k again = refl
  go Equal k again = absurd (let f : Some e.1 ≡ None = sym (written_here id e es (sym (int_ranked id e.0 Equal (sym k)))) ∙ none in cc)
  go Greater k again =
      let lt : e.0 <ℤ id = int_ranked id e.0 Greater (sym k) in
      ap (λ (ns : List StoredNode). one e.1 ++ ns) (again (sym (written_past id e es (above_apart id e.0 lt)) ∙ none))

-- ---- what is gone

abbrev IdsBelow : ℤ → List ℤ → Type 0
IdsBelow id [] = Unit {0}
IdsBelow id (i ∷ is) = (i <ℤ id) × IdsBelow id is

below_append : (id : ℤ) (is js : List ℤ) → IdsBelow id is → IdsBelow id js → IdsBelow id (is ++ js)
below_append id [] js a b = b
below_append id (i ∷ is) js a b = (a.0, below_append id is js a.1 b)

below_rest : (id : ℤ) (is js : List ℤ) → IdsBelow id (is ++ js) → IdsBelow id js
below_rest id [] js a = a
below_rest id (i ∷ is) js a = below_rest id is js a.1

-- none is gone above an id that is above all that are gone
gone_none : (k id : ℤ) (es : Written) → KeysAbove id es → IdsBelow id (gone_of k es) → gone_of k es ≡ []
gone_none k id [] a b = refl
gone_none k id (e ∷ es) a b = go e.1 b (gone_none k id es a.1) where
  cut : (t : Bool) → IdsBelow id (cond t (e.0 ∷ []) [] ++ gone_of k es) → (IdsBelow id (gone_of k es) → gone_of k es ≡ [])
      → cond t (e.0 ∷ []) [] ++ gone_of k es ≡ []
  cut true c again = absurd (let x : e.0 <ℤ id = c.0 in let y : id <ℤ e.0 = a.0 in omega (arith, ints))
  cut false c again = again c

  go : (o : Option StoredNode) → IdsBelow id (gone_one k e.0 o ++ gone_of k es) → (IdsBelow id (gone_of k es) → gone_of k es ≡ [])
      → gone_one k e.0 o ++ gone_of k es ≡ []
  go None c again = cut (int_lt e.0 k) c again
  go (Some m) c again = again c

gone_insert : (k id : ℤ) (es : Written) → Keyed es → int_lt id k ≡ true → written_at id es ≡ None → IdsBelow id (gone_of k es)
    → gone_of k (insert_entry int_cmp es id None) ≡ gone_of k es ++ id ∷ []
gone_insert k id [] s lt none b = ap (λ (t : Bool). cond t (id ∷ []) [] ++ []) lt
gone_insert k id (e ∷ es) s lt none b = go (int_cmp id e.0) refl (gone_insert k id es (keys_tail e es s) lt) where
  go : (o : Ordering) → int_cmp id e.0 ≡ o → (written_at id es ≡ None → IdsBelow id (gone_of k es)
      → gone_of k (insert_entry int_cmp es id None) ≡ gone_of k es ++ id ∷ [])
      → gone_of k (match_ordering o ((id, None) ∷ e ∷ es) ((e.0, None) ∷ es) (e ∷ insert_entry int_cmp es id None))
      ≡ gone_of k (e ∷ es) ++ id ∷ []
  go Less c again =
      let under : id <ℤ e.0 = less_is id e.0 c in
      let nothing : gone_of k (e ∷ es) ≡ [] = gone_none k id (e ∷ es) (under, keys_more id e.0 es under (keys_head e es s)) b in
      ap (λ (t : Bool). cond t (id ∷ []) [] ++ gone_of k (e ∷ es)) lt ∙ ap (λ (is : List ℤ). id ∷ is) nothing
      ∙ sym (ap (λ (is : List ℤ). is ++ id ∷ []) nothing)
  go Equal c again = absurd (let f : Some e.1 ≡ None = sym (written_here id e es (sym (int_ranked id e.0 Equal (sym c)))) ∙ none in cc)
  go Greater c again =
      let over : e.0 <ℤ id = int_ranked id e.0 Greater (sym c) in
      ap (λ (is : List ℤ). gone_one k e.0 e.1 ++ is) (again (sym (written_past id e es (above_apart id e.0 over)) ∙ none)
      (below_rest id (gone_one k e.0 e.1) (gone_of k es) b))
      ∙ sym (append_assoc (gone_one k e.0 e.1) (gone_of k es) (id ∷ []))

-- ---- all that are gone, one by one

pub record Goes (k : ℤ) (es : Written) (is : List ℤ) : Type 0 where
  pub keyed : Keyed es
  pub ascending : IsStrictlySortedBy int_cmp is
  pub old : All (λ id. id <ℤ k) is
  pub free : All (λ id. written_at id es ≡ None) is
  pub above : All (λ id. IdsBelow id (gone_of k es)) is

ids_head : (i : ℤ) (is : List ℤ) → IsStrictlySortedBy int_cmp (i ∷ is) → AllByRecursion (λ y. int_cmp i y ≡ Less) is
unfolding IsStrictlySortedBy
ids_head i is s = s.0

ids_tail : (i : ℤ) (is : List ℤ) → IsStrictlySortedBy int_cmp (i ∷ is) → IsStrictlySortedBy int_cmp is
unfolding IsStrictlySortedBy
ids_tail i is s = s.1

free_later : (i : ℤ) (es : Written) (is : List ℤ) → AllByRecursion (λ y. int_cmp i y ≡ Less) is → All (λ id. written_at id es ≡ None) is
    → All (λ id. written_at id (insert_entry int_cmp es i None) ≡ None) is
free_later i es [] a h = All-nil _
free_later i es (j ∷ js) a h =
    All-cons (λ id. written_at id (insert_entry int_cmp es i None) ≡ None) j js
    (written_beside j i None es (above_apart j i (less_is i j a.0)) ∙ All-head (λ id. written_at id es ≡ None) j js h)
    (free_later i es js a.1 (All-tail (λ id. written_at id es ≡ None) j js h))

above_later : (k i : ℤ) (es new : Written) (is : List ℤ) → gone_of k new ≡ gone_of k es ++ i ∷ [] → AllByRecursion (λ y. int_cmp i y
    ≡ Less) is → All (λ id. IdsBelow id (gone_of k es)) is → All (λ id. IdsBelow id (gone_of k new)) is
above_later k i es new [] e a h = All-nil _
above_later k i es new (j ∷ js) e a h =
    All-cons (λ id. IdsBelow id (gone_of k new)) j js
    (subst (IdsBelow j) (sym e) (below_append j (gone_of k es) (i ∷ []) (All-head (λ id. IdsBelow id (gone_of k es)) j js h)
    (less_is i j a.0, tt)))
    (above_later k i es new js e a.1 (All-tail (λ id. IdsBelow id (gone_of k es)) j js h))

goes_on : (k : ℤ) (es : Written) (i : ℤ) (is : List ℤ) → Goes k es (i ∷ is) → (gone_of k (insert_entry int_cmp es i None)
    ≡ gone_of k es ++ i ∷ []) × Goes k (insert_entry int_cmp es i None) is
goes_on k es i is h =
    let new : gone_of k (insert_entry int_cmp es i None) ≡ gone_of k es ++ i ∷ [] =
    gone_insert k i es h.keyed (is_lt_true i k (All-head (λ id. id <ℤ k) i is h.old)) (All-head (λ id. written_at id es ≡ None) i is
    h.free) (All-head (λ id. IdsBelow id (gone_of k es)) i is h.above) in (
      new,
      record {
        keyed = keyed_insert i None es h.keyed;
        ascending = ids_tail i is h.ascending;
        old = All-tail (λ id. id <ℤ k) i is h.old;
        free = free_later i es is (ids_head i is h.ascending) (All-tail (λ id. written_at id es ≡ None) i is h.free);
        above = above_later k i es (insert_entry int_cmp es i None) is new (ids_head i is h.ascending)
            (All-tail (λ id. IdsBelow id (gone_of k es)) i is h.above);
      },
    )

gone_keyed : (k : ℤ) (es : Written) (is : List ℤ) → Goes k es is → Keyed (with_gone es is)
gone_keyed k es [] h = h.keyed
gone_keyed k es (i ∷ is) h = gone_keyed k (insert_entry int_cmp es i None) is (goes_on k es i is h).1

gone_put : (k : ℤ) (es : Written) (is : List ℤ) → Goes k es is → put_of (with_gone es is) ≡ put_of es
gone_put k es [] h = refl
gone_put k es (i ∷ is) h = gone_put k (insert_entry int_cmp es i None) is (goes_on k es i is h).1
    ∙ put_insert i es (All-head (λ id. written_at id es ≡ None) i is h.free)

gone_gone : (k : ℤ) (es : Written) (is : List ℤ) → Goes k es is → gone_of k (with_gone es is) ≡ gone_of k es ++ is
gone_gone k es [] h = sym (append-nil (gone_of k es))
gone_gone k es (i ∷ is) h = gone_gone k (insert_entry int_cmp es i None) is (goes_on k es i is h).1 ∙ ap (λ (js : List ℤ). js ++ is)
    (goes_on k es i is h).0 ∙ append_assoc (gone_of k es) (i ∷ []) is

gone_all : (P : Entry → Type 0) (es : Written) (is : List ℤ) → All (λ id. P (id, None)) is → All P es → All P (with_gone es is)
gone_all P es [] h all = all
gone_all P es (i ∷ is) h all = gone_all P (insert_entry int_cmp es i None) is (All-tail (λ id. P (id, None)) i is h)
    (All_insert P i None es (All-head (λ id. P (id, None)) i is h) all)

-- ---- all that are put, one by one: each goes behind those before

abbrev KeysUnder : ℤ → Written → Type 0
KeysUnder k [] = Unit {0}
KeysUnder k (e ∷ es) = (e.0 <ℤ k) × KeysUnder k es

abbrev Over : Written → List StoredNode → Type 0
Over es [] = Unit {0}
Over es (n ∷ ns) = KeysUnder n.id es × Over es ns

under_append : (k : ℤ) (es fs : Written) → KeysUnder k es → KeysUnder k fs → KeysUnder k (es ++ fs)
under_append k [] fs a b = b
under_append k (e ∷ es) fs a b = (a.0, under_append k es fs a.1 b)

over_more : (es : Written) (id : ℤ) (v : Option StoredNode) (ns : List StoredNode) → Above id ns → Over es ns → Over (es ++ (id, v) ∷ []) ns
over_more es id v [] a o = tt
over_more es id v (n ∷ ns) a o = (under_append n.id es ((id, v) ∷ []) o.0 (a.0, tt), over_more es id v ns a.1 o.1)

insert_last : (id : ℤ) (v : Option StoredNode) (es : Written) → KeysUnder id es → insert_entry int_cmp es id v ≡ es ++ (id, v) ∷ []
insert_last id v [] u = refl
insert_last id v (e ∷ es) u =
    ap (λ (o : Ordering). match_ordering o ((id, v) ∷ e ∷ es) ((e.0, v) ∷ es) (e ∷ insert_entry int_cmp es id v))
    (sym (int_cmp_is id e.0 Greater u.0))
    ∙ ap (λ (fs : Written). e ∷ fs) (insert_last id v es u.1)

abbrev put_entries : List StoredNode → Written
put_entries [] = []
put_entries (n ∷ ns) = (n.id, Some n) ∷ put_entries ns

put_is_behind : (es : Written) (ns : List StoredNode) → Ascends ns → Over es ns → with_put es ns ≡ es ++ put_entries ns
put_is_behind es [] a o = sym (append-nil es)
put_is_behind es (n ∷ ns) a o =
    ap (λ (fs : Written). with_put fs ns) (insert_last n.id (Some n) es o.0) ∙ put_is_behind (es ++ (n.id, Some n) ∷ []) ns
    (ascends_tail n ns a) (over_more es n.id (Some n) ns (above_head n ns a) o.1)
    ∙ append_assoc es ((n.id, Some n) ∷ []) (put_entries ns)

over_nothing : (ns : List StoredNode) → Over [] ns
over_nothing [] = tt
over_nothing (n ∷ ns) = (tt, over_nothing ns)

pub put_alone : (ns : List StoredNode) → Ascends ns → with_put [] ns ≡ put_entries ns
put_alone ns a = put_is_behind [] ns a (over_nothing ns)

puts : (ns : List StoredNode) → put_of (put_entries ns) ≡ ns
puts [] = refl
puts (n ∷ ns) = ap (λ (ms : List StoredNode). n ∷ ms) (puts ns)

puts_nothing_gone : (k : ℤ) (ns : List StoredNode) → gone_of k (put_entries ns) ≡ []
puts_nothing_gone k [] = refl
puts_nothing_gone k (n ∷ ns) = puts_nothing_gone k ns

puts_above : (k : ℤ) (ns : List StoredNode) → Above k ns → KeysAbove k (put_entries ns)
puts_above k [] a = tt
puts_above k (n ∷ ns) a = (a.0, puts_above k ns a.1)

puts_keyed : (ns : List StoredNode) → Ascends ns → Keyed (put_entries ns)
puts_keyed [] a = keys_nil
puts_keyed (n ∷ ns) a = keys_cons (n.id, Some n) (put_entries ns) (puts_above n.id ns (above_head n ns a))
    (puts_keyed ns (ascends_tail n ns a))

puts_free : (id : ℤ) (ns : List StoredNode) → find id ns ≡ None → written_at id (put_entries ns) ≡ None
puts_free id [] e = refl
puts_free id (n ∷ ns) e = go (int_eq n.id id) refl (puts_free id ns) where
  go : (t : Bool) → int_eq n.id id ≡ t → (find id ns ≡ None → written_at id (put_entries ns) ≡ None)
      → written_at id ((n.id, Some n) ∷ put_entries ns) ≡ None
  go true h again = absurd (let f : Some n ≡ None = sym (find_here id n ns (same_id n.id id h)) ∙ e in cc)
  go false h again = written_past id (n.id, Some n) (put_entries ns) (apart id n.id (λ k. absurd (let f : true ≡ false =
      sym (itself n.id) ∙ ap (int_eq n.id) (sym k) ∙ h in cc))) ∙ again (sym (find_past id n ns h) ∙ e)

puts_all : (P : Entry → Type 0) (ns : List StoredNode) → All (λ n. P (n.id, Some n)) ns → All P (put_entries ns)
puts_all P [] h = All-nil P
puts_all P (n ∷ ns) h = All-cons P (n.id, Some n) (put_entries ns) (All-head (λ m. P (m.id, Some m)) n ns h)
    (puts_all P ns (All-tail (λ m. P (m.id, Some m)) n ns h))

-- ---- the whole delta

each : {A : Type 0} (P : A → Type 0) (xs : List A) → ((x : A) → P x) → All P xs
each P [] h = All-nil P
each P (x ∷ xs) h = All-cons P x xs (h x) (each P xs h)

weaker : {A : Type 0} (P Q : A → Type 0) (xs : List A) → ((x : A) → P x → Q x) → All P xs → All Q xs
weaker P Q [] h all = All-nil Q
weaker P Q (x ∷ xs) h all = All-cons Q x xs (h x (All-head P x xs all)) (weaker P Q xs h (All-tail P x xs all))

both : {A : Type 0} (P Q : A → Type 0) (xs : List A) → All P xs → All Q xs → All (λ x. P x × Q x) xs
both P Q [] p q = All-nil _
both P Q (x ∷ xs) p q = All-cons (λ y. P y × Q y) x xs (All-head P x xs p, All-head Q x xs q) (both P Q xs (All-tail P x xs p)
    (All-tail Q x xs q))

module _ (g : Graph) (d : Delta) (legal : IsGraph g) (o : IsOver g d) where
  pub inside : (id : ℤ) → IsSome (find id g.nodes) → (pos 0 ≤ℤ id) × (id <ℤ g.next)
  inside id some = go (find id g.nodes) refl some where
    go : (r : Option StoredNode) → find id g.nodes ≡ r → IsSome r → (pos 0 ≤ℤ id) × (id <ℤ g.next)
    go None e s = absurd (cc)
    go (Some x) e s =
        let bounds : (pos 0 ≤ℤ x.id) × (x.id <ℤ g.next) = All_found (λ n. (pos 0 ≤ℤ n.id) × (n.id <ℤ g.next)) id g.nodes x
        legal.placed.below e in
        subst (λ i. (pos 0 ≤ℤ i) × (i <ℤ g.next)) (found_id id g.nodes x e) bounds

  not_negative : (n : StoredNode) → IsPut g d n → pos 0 ≤ℤ n.id
  not_negative n p = go (int_lt n.id g.next) refl where
    go : (t : Bool) → int_lt n.id g.next ≡ t → pos 0 ≤ℤ n.id
    go true h = (inside n.id (p.1 (lt_is_true n.id g.next h))).0
    go false h = let a : g.next ≤ℤ n.id = lt_is_false n.id g.next h in let b : pos 0 ≤ℤ g.next = legal.placed.low in omega (arith, ints)

  put_goes : Goes g.next (put_entries d.put) d.gone
  put_goes = record {
    keyed = puts_keyed d.put o.put;
    ascending = o.gone;
    old = weaker (λ id. IsSome (find id g.nodes)) (λ id. id <ℤ g.next) d.gone (λ id s. (inside id s).1) o.there;
    free = weaker (λ id. find id d.put ≡ None) (λ id. written_at id (put_entries d.put) ≡ None) d.gone (λ id e. puts_free id d.put e)
        o.apart;
    above = each (λ id. IdsBelow id (gone_of g.next (put_entries d.put))) d.gone (λ id. subst (IdsBelow id)
        (sym (puts_nothing_gone g.next d.put)) tt);
  }

  entries_are : entries_of d ≡ with_gone (put_entries d.put) d.gone
  entries_are = ap (λ (es : Written). with_gone es d.gone) (put_alone d.put o.put)

  written_so : All (IsWritten g d.next) (with_gone (put_entries d.put) d.gone)
  written_so =
      gone_all (IsWritten g d.next) (put_entries d.put) d.gone
      (weaker (λ id. IsSome (find id g.nodes)) (λ id. IsWritten g d.next (id, None)) d.gone
      (λ id s. (
        (inside id s).0,
        let a : id <ℤ g.next = (inside id s).1 in let b : g.next ≤ℤ d.next = o.low in
            omega (arith, ints),
        λ lt. s,
        tt,
      )) o.there)
      (puts_all (IsWritten g d.next) d.put (weaker (λ n. IsPut g d n × IsNode n) (λ n. IsWritten g d.next (n.id, Some n)) d.put
      (λ n h. (not_negative n h.0, h.0.0, h.0.1, (refl, h.1))) (both (IsPut g d) IsNode d.put o.known o.nodes)))

  pub layered_earlier : IsLayered g d.next (entries_of d)
  layered_earlier = subst (IsLayered g d.next) (sym entries_are) (record {
    below = legal;
    low = o.low;
    high = o.high;
    ordered = gone_keyed g.next (put_entries d.put) d.gone put_goes;
    written = written_so;
  })

  pub put_back : put_of (entries_of d) ≡ d.put
  put_back = ap put_of entries_are ∙ gone_put g.next (put_entries d.put) d.gone put_goes ∙ puts d.put

  pub gone_back : gone_of g.next (entries_of d) ≡ d.gone
  gone_back = ap (gone_of g.next) entries_are ∙ gone_gone g.next (put_entries d.put) d.gone put_goes
      ∙ ap (λ (is : List ℤ). is ++ d.gone) (puts_nothing_gone g.next d.put)

  pub applied_earlier : seen g d.next (entries_of d) ≡ applied d g
  applied_earlier =
      sym (applied_is_seen g d.next (entries_of d) layered_earlier) ∙ ap₂ (λ (ns : List StoredNode) (is : List ℤ). applied
      (record { next = d.next; put = ns; gone = is }) g) put_back gone_back

  -- the store with the delta is one
  pub legal_applied : IsGraph (applied d g)
  legal_applied = subst IsGraph applied_earlier (legal_seen g d.next (entries_of d) layered_earlier)

  -- the overlay as the code makes it
  pub starts_over : (n : ℤ) (es : Written) → n ≡ d.next → es ≡ entries_of d → IsLayered g n es
      × ◌≡◌ {A = Layers} (record { base = g; graph = seen g n es }) (record { base = g; graph = applied d g })
  starts_over n es e f = (
    subst (λ i. IsLayered g i es) (sym e) (subst (IsLayered g d.next) (sym f) layered_earlier),
    ap (λ (h : Graph). record { base = g; graph = h }) (ap₂ (λ (i : ℤ) (xs : Written). seen g i xs) e f ∙ applied_earlier),
  )

-- ---- one by one, as the code writes them

pub put_on : (old new all : Written) (items rest : List StoredNode) (m : StoredNode) (q : ℤ) → items ≡ m ∷ rest → q ≡ m.id → new
    ≡ insert_entry int_cmp old q (Some m) → with_put old items ≡ all → with_put new rest ≡ all
put_on old new all items rest m q e f g h = ap (λ (es : Written). with_put es rest) (g
    ∙ ap (λ (i : ℤ). insert_entry int_cmp old i (Some m)) f) ∙ sym (ap (with_put old) e) ∙ h

pub gone_on : (old new all : Written) (is : List ℤ) (i : ℕ) (id q : ℤ) → i < length is → id ≡ get_or is i (pos 0) → q ≡ id → new
    ≡ insert_entry int_cmp old q None → with_gone old (drop i is) ≡ all → with_gone new (drop (i + 1) is) ≡ all
gone_on old new all is i id q lt at e g h =
    ap (λ (es : Written). with_gone es (drop (i + 1) is)) (g ∙ ap (λ (j : ℤ). insert_entry int_cmp old j None) e)
    ∙ sym (ap (with_gone old) (next_at is i id (pos 0) lt at)) ∙ h

pub gone_end : (es all : Written) (is : List ℤ) (i : ℕ) → length is ≤ i → with_gone es (drop i is) ≡ all → es ≡ all
gone_end es all is i le h = sym (ap (with_gone es) (drop_all i is le)) ∙ h

pub entries_made : (d : Delta) (none put all : Written) (is : List ℤ) → none ≡ [] → put ≡ with_put none d.put → all ≡ with_gone put is
    → is ≡ d.gone → all ≡ entries_of d
entries_made d none put all is a b c e = c ∙ ap₂ with_gone (b ∙ ap (λ (es : Written). with_put es d.put) a) e
