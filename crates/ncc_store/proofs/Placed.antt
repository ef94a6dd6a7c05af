-- Nodes by ascending id: what is found, replaced and taken out.
use Rattle.std.proofs.Common.{◌≡◌, ℕ, zero, suc, ◌<◌, ℤ, ◌<ℤ◌, ◌≤ℤ◌, int_lt, Bool, true, false, not, cond, List, [], ◌∷◌, ◌++◌, length}
use Rattle.std.proofs.Common.{map, filter, get_or, set, All, Some, None, Less, Equal, Greater, Ordering, int_cmp, int_eq, refl, sym, ap}
use Rattle.std.proofs.Common.{ap₂, subst, ◌∙◌, arith}
use Rattle.std.specs.Cmp.{signed_Decides, int_ranked, int_cmp_is}
use Rattle.std.specs.List.{AllByRecursion}
use Rattle.std.specs.List.Sorted.{IsStrictlySortedBy}
use Rattle.std.proofs.lemmas.Int.{ints}
use Rattle.std.proofs.lemmas.List.Elements.{All-head, All-tail}
use Rattle.ncc_store.specs.declared.node.StoredNode.{StoredNode}
use Rattle.ncc_store.specs.Graph.{find, replace, without, ids}

-- ---- ids

pub same_id : (a b : ℤ) → int_eq a b ≡ true → a ≡ b
same_id a b e = (signed_Decides a b).0 e

pub itself : (a : ℤ) → int_eq a a ≡ true
itself a = (signed_Decides a a).1 refl

pub less_is : (a b : ℤ) → int_cmp a b ≡ Less → a <ℤ b
less_is a b e = int_ranked a b Less (sym e)

pub is_less : (a b : ℤ) → a <ℤ b → int_cmp a b ≡ Less
is_less a b h = sym (int_cmp_is a b Less h)

pub is_lt_true : (a b : ℤ) → a <ℤ b → int_lt a b ≡ true
is_lt_true a b h = go (int_lt a b) refl where
  go : (t : Bool) → int_lt a b ≡ t → t ≡ true
  go true e = refl
  go false e = absurd (grind (arith, ints))

pub lt_is_true : (a b : ℤ) → int_lt a b ≡ true → a <ℤ b
lt_is_true a b e = grind (arith, ints)

pub lt_is_false : (a b : ℤ) → int_lt a b ≡ false → b ≤ℤ a
lt_is_false a b e = grind (arith, ints)

pub is_lt_false : (a b : ℤ) → b ≤ℤ a → int_lt a b ≡ false
is_lt_false a b h = grind (arith, ints)

pub apart : (a b : ℤ) → (a ≡ b → ⊥) → int_eq a b ≡ false
apart a b ne = go (int_eq a b) refl where
  go : (t : Bool) → int_eq a b ≡ t → t ≡ false
  go true e = absurd (ne (same_id a b e))
  go false e = refl

pub below_apart : (a b : ℤ) → a <ℤ b → int_eq a b ≡ false
below_apart a b h = apart a b (λ e. omega (arith, ints))

pub above_apart : (a b : ℤ) → b <ℤ a → int_eq a b ≡ false
above_apart a b h = apart a b (λ e. omega (arith, ints))

-- ---- lists in order

abbrev pub Ascends : List StoredNode → Type 0
Ascends ns = IsStrictlySortedBy int_cmp (ids ns)

-- each id is above a number
abbrev pub Above : ℤ → List StoredNode → Type 0
Above k [] = Unit {0}
Above k (n ∷ ns) = (k <ℤ n.id) × Above k ns

above_from : (k : ℤ) (ns : List StoredNode) → AllByRecursion (λ y. int_cmp k y ≡ Less) (ids ns) → Above k ns
above_from k [] h = tt
above_from k (n ∷ ns) h = (less_is k n.id h.0, above_from k ns h.1)

above_back : (k : ℤ) (ns : List StoredNode) → Above k ns → AllByRecursion (λ y. int_cmp k y ≡ Less) (ids ns)
above_back k [] h = tt
above_back k (n ∷ ns) h = (is_less k n.id h.0, above_back k ns h.1)

pub above_head : (n : StoredNode) (ns : List StoredNode) → Ascends (n ∷ ns) → Above n.id ns
unfolding IsStrictlySortedBy
above_head n ns h = above_from n.id ns h.0

pub ascends_tail : (n : StoredNode) (ns : List StoredNode) → Ascends (n ∷ ns) → Ascends ns
unfolding IsStrictlySortedBy
ascends_tail n ns h = h.1

pub ascends_nil : Ascends []
unfolding IsStrictlySortedBy
ascends_nil = tt

pub ascends_cons : (n : StoredNode) (ns : List StoredNode) → Above n.id ns → Ascends ns → Ascends (n ∷ ns)
unfolding IsStrictlySortedBy
ascends_cons n ns h a = (above_back n.id ns h, a)

pub above_more : (j k : ℤ) (ns : List StoredNode) → j <ℤ k → Above k ns → Above j ns
above_more j k [] h a = tt
above_more j k (n ∷ ns) h a = (let x : k <ℤ n.id = a.0 in omega (arith, ints), above_more j k ns h a.1)

-- ---- what is found

pub find_here : (id : ℤ) (n : StoredNode) (ns : List StoredNode) → n.id ≡ id → find id (n ∷ ns) ≡ Some n
unfolding find
find_here id n ns e = ap (λ (t : Bool). cond t (Some n) (find id ns)) ((signed_Decides n.id id).1 e)

pub find_past : (id : ℤ) (n : StoredNode) (ns : List StoredNode) → int_eq n.id id ≡ false → find id (n ∷ ns) ≡ find id ns
unfolding find
find_past id n ns e = ap (λ (t : Bool). cond t (Some n) (find id ns)) e

pub find_above : (id : ℤ) (ns : List StoredNode) → Above id ns → find id ns ≡ None
unfolding find
find_above id [] h = refl
find_above id (n ∷ ns) h = find_past id n ns (above_apart n.id id h.0) ∙ find_above id ns h.1

pub find_nil : (id : ℤ) → find id [] ≡ None
unfolding find
find_nil id = refl

-- one list in front of another
pub find_append_none : (id : ℤ) (ns ms : List StoredNode) → find id ns ≡ None → find id (ns ++ ms) ≡ find id ms
find_append_none id [] ms e = refl
find_append_none id (n ∷ ns) ms e = go (int_eq n.id id) refl (find_append_none id ns ms) where
  go : (t : Bool) → int_eq n.id id ≡ t → (find id ns ≡ None → find id (ns ++ ms) ≡ find id ms) → find id (n ∷ ns ++ ms) ≡ find id ms
  go true h again = absurd (let f : Some n ≡ None = sym (find_here id n ns (same_id n.id id h)) ∙ e in cc)
  go false h again = find_past id n (ns ++ ms) h ∙ again (sym (find_past id n ns h) ∙ e)

pub find_append_some : (id : ℤ) (ns ms : List StoredNode) (x : StoredNode) → find id ns ≡ Some x → find id (ns ++ ms) ≡ Some x
find_append_some id [] ms x e = absurd (let f : None ≡ Some x = sym (find_nil id) ∙ e in cc)
find_append_some id (n ∷ ns) ms x e = go (int_eq n.id id) refl (find_append_some id ns ms x) where
  go : (t : Bool) → int_eq n.id id ≡ t → (find id ns ≡ Some x → find id (ns ++ ms) ≡ Some x) → find id (n ∷ ns ++ ms) ≡ Some x
  go true h again = find_here id n (ns ++ ms) (same_id n.id id h) ∙ sym (find_here id n ns (same_id n.id id h)) ∙ e
  go false h again = find_past id n (ns ++ ms) h ∙ again (sym (find_past id n ns h) ∙ e)

-- what is found stands at its id
pub found_id : (id : ℤ) (ns : List StoredNode) (x : StoredNode) → find id ns ≡ Some x → x.id ≡ id
found_id id [] x e = absurd (let f : None ≡ Some x = sym (find_nil id) ∙ e in cc)
found_id id (n ∷ ns) x e = go (int_eq n.id id) refl (found_id id ns x) where
  go : (t : Bool) → int_eq n.id id ≡ t → (find id ns ≡ Some x → x.id ≡ id) → x.id ≡ id
  go true h again = let f : Some n ≡ Some x = sym (find_here id n ns (same_id n.id id h)) ∙ e in let k : n ≡ x = cc in
      ap (λ (y : StoredNode). y.id) (sym k) ∙ same_id n.id id h
  go false h again = again (sym (find_past id n ns h) ∙ e)

-- what holds of each node holds of the one that is found
pub All_found : (P : StoredNode → Type 0) (id : ℤ) (ns : List StoredNode) (x : StoredNode) → All P ns → find id ns ≡ Some x → P x
All_found P id [] x all e = absurd (let f : None ≡ Some x = sym (find_nil id) ∙ e in cc)
All_found P id (n ∷ ns) x all e = go (int_eq n.id id) refl (All_found P id ns x (All-tail P n ns all)) where
  go : (t : Bool) → int_eq n.id id ≡ t → (find id ns ≡ Some x → P x) → P x
  go true h again = let f : Some n ≡ Some x = sym (find_here id n ns (same_id n.id id h)) ∙ e in let k : n ≡ x = cc in
      subst P k (All-head P n ns all)
  go false h again = again (sym (find_past id n ns h) ∙ e)

-- ---- two lists in order in which the same is found are one

pub same_found : (ns ms : List StoredNode) → Ascends ns → Ascends ms → ((id : ℤ) → find id ns ≡ find id ms) → ns ≡ ms
same_found [] [] a b h = refl
same_found [] (m ∷ ms) a b h = absurd (let f : None ≡ Some m = sym (find_nil m.id) ∙ h m.id ∙ find_here m.id m ms refl in cc)
same_found (n ∷ ns) [] a b h = absurd (let f : Some n ≡ None = sym (find_here n.id n ns refl) ∙ h n.id ∙ find_nil n.id in cc)
same_found (n ∷ ns) (m ∷ ms) a b h = go (int_cmp n.id m.id) refl (same_found ns ms (ascends_tail n ns a) (ascends_tail m ms b)) where
  past : n.id ≡ m.id → (id : ℤ) → find id ns ≡ find id ms
  past e id = at (int_eq n.id id) refl where
    at : (t : Bool) → int_eq n.id id ≡ t → find id ns ≡ find id ms
    at true g = let k : n.id ≡ id = same_id n.id id g in find_above id ns (subst (λ i. Above i ns) k (above_head n ns a))
        ∙ sym (find_above id ms (subst (λ i. Above i ms) (sym e ∙ k) (above_head m ms b)))
    at false g = sym (find_past id n ns g) ∙ h id ∙ find_past id m ms (ap (λ (i : ℤ). int_eq i id) (sym e) ∙ g)

  go : (o : Ordering) → int_cmp n.id m.id ≡ o → (((id : ℤ) → find id ns ≡ find id ms) → ns ≡ ms) → n ∷ ns ≡ m ∷ ms
  go Less e again =
      let lt : n.id <ℤ m.id = less_is n.id m.id e in
      let none : find n.id (m ∷ ms) ≡ None = find_above n.id (m ∷ ms) (lt, above_more n.id m.id ms lt (above_head m ms b)) in
      absurd (let f : Some n ≡ None = sym (find_here n.id n ns refl) ∙ h n.id ∙ none in cc)
  go Greater e again =
      let lt : m.id <ℤ n.id = int_ranked n.id m.id Greater (sym e) in
      let none : find m.id (n ∷ ns) ≡ None = find_above m.id (n ∷ ns) (lt, above_more m.id n.id ns lt (above_head n ns a)) in
      absurd (let f : Some m ≡ None = sym (find_here m.id m ms refl) ∙ sym (h m.id) ∙ none in cc)
  go Equal e again =
      let same : n.id ≡ m.id = int_ranked n.id m.id Equal (sym e) in
      let f : Some n ≡ Some m = sym (find_here n.id n ns refl) ∙ h n.id ∙ find_here n.id m ms (sym same) in
      let k : n ≡ m = cc in
      ap₂ (λ (x : StoredNode) (xs : List StoredNode). x ∷ xs) k (again (past same))

-- ---- by places

above_at : (k : ℤ) (ns : List StoredNode) (i : ℕ) (d : StoredNode) → Above k ns → i < length ns → k <ℤ (get_or ns i d).id
above_at k [] i d a lt = absurd (omega arith)
above_at k (n ∷ ns) zero d a lt = a.0
above_at k (n ∷ ns) (suc i) d a lt = above_at k ns i d a.1 (omega arith)

pub find_at : (id : ℤ) (ns : List StoredNode) (i : ℕ) (d : StoredNode) → Ascends ns → i < length ns → (get_or ns i d).id ≡ id
    → find id ns ≡ Some (get_or ns i d)
find_at id [] i d a lt e = absurd (omega arith)
find_at id (n ∷ ns) zero d a lt e = find_here id n ns e
find_at id (n ∷ ns) (suc i) d a lt e =
    let past : n.id <ℤ id = subst (λ k. n.id <ℤ k) e (above_at n.id ns i d (above_head n ns a) (omega arith)) in
    find_past id n ns (below_apart n.id id past) ∙ find_at id ns i d (ascends_tail n ns a) (omega arith) e

pub find_nowhere : (id : ℤ) (ns : List StoredNode) → ((i : ℕ) (d : StoredNode) → i < length ns → (get_or ns i d).id ≡ id → ⊥)
    → find id ns ≡ None
find_nowhere id [] h = find_nil id
find_nowhere id (n ∷ ns) h = find_past id n ns (apart n.id id (h 0 n (omega arith)))
    ∙ find_nowhere id ns (λ i d lt. h (suc i) d (omega arith))

-- ---- a node in the place of the one that has its id

pub replace_here : (m n : StoredNode) (ns : List StoredNode) → n.id ≡ m.id → replace m (n ∷ ns) ≡ m ∷ replace m ns
unfolding replace
replace_here m n ns e = ap (λ (t : Bool). cond t m n ∷ map (λ x. cond (int_eq x.id m.id) m x) ns) ((signed_Decides n.id m.id).1 e)

pub replace_past : (m n : StoredNode) (ns : List StoredNode) → int_eq n.id m.id ≡ false → replace m (n ∷ ns) ≡ n ∷ replace m ns
unfolding replace
replace_past m n ns e = ap (λ (t : Bool). cond t m n ∷ map (λ x. cond (int_eq x.id m.id) m x) ns) e

replace_nil : (m : StoredNode) → replace m [] ≡ []
unfolding replace
replace_nil m = refl

pub replace_none : (m : StoredNode) (ns : List StoredNode) → find m.id ns ≡ None → replace m ns ≡ ns
replace_none m [] e = replace_nil m
replace_none m (n ∷ ns) e = go (int_eq n.id m.id) refl (replace_none m ns) where
  go : (t : Bool) → int_eq n.id m.id ≡ t → (find m.id ns ≡ None → replace m ns ≡ ns) → replace m (n ∷ ns) ≡ n ∷ ns
  go true h again = absurd (let f : Some n ≡ None = sym (find_here m.id n ns (same_id n.id m.id h)) ∙ e in cc)
  go false h again = replace_past m n ns h ∙ ap (λ (xs : List StoredNode). n ∷ xs) (again (sym (find_past m.id n ns h) ∙ e))

pub ids_replace : (m : StoredNode) (ns : List StoredNode) → ids (replace m ns) ≡ ids ns
ids_replace m [] = ap ids (replace_nil m)
ids_replace m (n ∷ ns) = go (int_eq n.id m.id) refl (ids_replace m ns) where
  go : (t : Bool) → int_eq n.id m.id ≡ t → ids (replace m ns) ≡ ids ns → ids (replace m (n ∷ ns)) ≡ ids (n ∷ ns)
  go true h again = ap ids (replace_here m n ns (same_id n.id m.id h)) ∙ ap₂ (λ (i : ℤ) (is : List ℤ). i ∷ is)
      (sym (same_id n.id m.id h)) again
  go false h again = ap ids (replace_past m n ns h) ∙ ap (λ (is : List ℤ). n.id ∷ is) again

pub ascends_replace : (m : StoredNode) (ns : List StoredNode) → Ascends ns → Ascends (replace m ns)
ascends_replace m ns a = subst (IsStrictlySortedBy int_cmp) (sym (ids_replace m ns)) a

pub set_replaces : (m : StoredNode) (ns : List StoredNode) (i : ℕ) (d : StoredNode) → Ascends ns → i < length ns → (get_or ns i d).id
    ≡ m.id → replace m ns ≡ set ns i m
set_replaces m [] i d a lt e = absurd (omega arith)
set_replaces m (n ∷ ns) zero d a lt e =
    replace_here m n ns e ∙ ap (λ (xs : List StoredNode). m ∷ xs)
    (replace_none m ns (find_above m.id ns (subst (λ k. Above k ns) e (above_head n ns a))))
set_replaces m (n ∷ ns) (suc i) d a lt e =
    let past : n.id <ℤ m.id = subst (λ k. n.id <ℤ k) e (above_at n.id ns i d (above_head n ns a) (omega arith)) in
    replace_past m n ns (below_apart n.id m.id past) ∙ ap (λ (xs : List StoredNode). n ∷ xs)
    (set_replaces m ns i d (ascends_tail n ns a) (omega arith) e)

pub find_replaced : (m x : StoredNode) (ns : List StoredNode) → find m.id ns ≡ Some x → find m.id (replace m ns) ≡ Some m
find_replaced m x [] e = absurd (let f : None ≡ Some x = sym (find_nil m.id) ∙ e in cc)
find_replaced m x (n ∷ ns) e = go (int_eq n.id m.id) refl (find_replaced m x ns) where
  go : (t : Bool) → int_eq n.id m.id ≡ t → (find m.id ns ≡ Some x → find m.id (replace m ns) ≡ Some m) → find m.id (replace m (n ∷ ns))
      ≡ Some m
  go true h again = ap (find m.id) (replace_here m n ns (same_id n.id m.id h)) ∙ find_here m.id m (replace m ns) refl
  go false h again = ap (find m.id) (replace_past m n ns h) ∙ find_past m.id n (replace m ns) h ∙ again (sym (find_past m.id n ns h) ∙ e)

pub find_beside : (id : ℤ) (m : StoredNode) (ns : List StoredNode) → int_eq m.id id ≡ false → find id (replace m ns) ≡ find id ns
find_beside id m [] e = ap (find id) (replace_nil m)
find_beside id m (n ∷ ns) e = go (int_eq n.id m.id) refl (find_beside id m ns e) where
  go : (t : Bool) → int_eq n.id m.id ≡ t → find id (replace m ns) ≡ find id ns → find id (replace m (n ∷ ns)) ≡ find id (n ∷ ns)
  go true h again =
      let past : int_eq n.id id ≡ false = ap (λ (i : ℤ). int_eq i id) (same_id n.id m.id h) ∙ e in
      ap (find id) (replace_here m n ns (same_id n.id m.id h)) ∙ find_past id m (replace m ns) e ∙ again ∙ sym (find_past id n ns past)
  go false h again = ap (find id) (replace_past m n ns h) ∙ at (int_eq n.id id) refl where
    at : (t : Bool) → int_eq n.id id ≡ t → find id (n ∷ replace m ns) ≡ find id (n ∷ ns)
    at true g = find_here id n (replace m ns) (same_id n.id id g) ∙ sym (find_here id n ns (same_id n.id id g))
    at false g = find_past id n (replace m ns) g ∙ again ∙ sym (find_past id n ns g)

-- ---- some taken out

above_filter : (p : StoredNode → Bool) (k : ℤ) (ns : List StoredNode) → Above k ns → Above k (filter p ns)
above_filter p k [] a = tt
above_filter p k (n ∷ ns) a = go (p n) (above_filter p k ns a.1) where
  go : (t : Bool) → Above k (filter p ns) → Above k (cond t (n ∷ filter p ns) (filter p ns))
  go true b = (a.0, b)
  go false b = b

pub ascends_filter : (p : StoredNode → Bool) (ns : List StoredNode) → Ascends ns → Ascends (filter p ns)
ascends_filter p [] a = a
ascends_filter p (n ∷ ns) a = go (p n) (ascends_filter p ns (ascends_tail n ns a)) where
  go : (t : Bool) → Ascends (filter p ns) → Ascends (cond t (n ∷ filter p ns) (filter p ns))
  go true b = ascends_cons n (filter p ns) (above_filter p n.id ns (above_head n ns a)) b
  go false b = b

without_here : (id : ℤ) (n : StoredNode) (ns : List StoredNode) → int_eq n.id id ≡ true → without id (n ∷ ns) ≡ without id ns
unfolding without
without_here id n ns e = ap (λ (t : Bool). cond (not t) (n ∷ filter (λ x. not (int_eq x.id id)) ns) (filter (λ x. not (int_eq x.id id))
    ns)) e

without_past : (id : ℤ) (n : StoredNode) (ns : List StoredNode) → int_eq n.id id ≡ false → without id (n ∷ ns) ≡ n ∷ without id ns
unfolding without
without_past id n ns e = ap (λ (t : Bool). cond (not t) (n ∷ filter (λ x. not (int_eq x.id id)) ns) (filter (λ x. not (int_eq x.id id))
    ns)) e

without_nil : (id : ℤ) → without id [] ≡ []
unfolding without
without_nil id = refl

-- where there is none, nothing is taken out
pub without_none : (id : ℤ) (ns : List StoredNode) → find id ns ≡ None → without id ns ≡ ns
without_none id [] e = without_nil id
without_none id (n ∷ ns) e = go (int_eq n.id id) refl (without_none id ns) where
  go : (t : Bool) → int_eq n.id id ≡ t → (find id ns ≡ None → without id ns ≡ ns) → without id (n ∷ ns) ≡ n ∷ ns
  go true h again = absurd (let f : Some n ≡ None = sym (find_here id n ns (same_id n.id id h)) ∙ e in cc)
  go false h again = without_past id n ns h ∙ ap (λ (xs : List StoredNode). n ∷ xs) (again (sym (find_past id n ns h) ∙ e))

pub ascends_without : (id : ℤ) (ns : List StoredNode) → Ascends ns → Ascends (without id ns)
unfolding without
ascends_without id ns a = ascends_filter (λ n. not (int_eq n.id id)) ns a

pub find_gone : (id : ℤ) (ns : List StoredNode) → find id (without id ns) ≡ None
find_gone id [] = ap (find id) (without_nil id) ∙ find_nil id
find_gone id (n ∷ ns) = go (int_eq n.id id) refl (find_gone id ns) where
  go : (t : Bool) → int_eq n.id id ≡ t → find id (without id ns) ≡ None → find id (without id (n ∷ ns)) ≡ None
  go true h again = ap (find id) (without_here id n ns h) ∙ again
  go false h again = ap (find id) (without_past id n ns h) ∙ find_past id n (without id ns) h ∙ again

pub find_kept : (id k : ℤ) (ns : List StoredNode) → int_eq k id ≡ false → find id (without k ns) ≡ find id ns
find_kept id k [] e = ap (find id) (without_nil k)
find_kept id k (n ∷ ns) e = go (int_eq n.id k) refl (find_kept id k ns e) where
  go : (t : Bool) → int_eq n.id k ≡ t → find id (without k ns) ≡ find id ns → find id (without k (n ∷ ns)) ≡ find id (n ∷ ns)
  go true h again = ap (find id) (without_here k n ns h) ∙ again
      ∙ sym (find_past id n ns (ap (λ (i : ℤ). int_eq i id) (same_id n.id k h) ∙ e))
  go false h again = ap (find id) (without_past k n ns h) ∙ at (int_eq n.id id) refl where
    at : (t : Bool) → int_eq n.id id ≡ t → find id (n ∷ without k ns) ≡ find id (n ∷ ns)
    at true g = find_here id n (without k ns) (same_id n.id id g) ∙ sym (find_here id n ns (same_id n.id id g))
    at false g = find_past id n (without k ns) g ∙ again ∙ sym (find_past id n ns g)

-- ---- one list in front of another, whose ids are not below a number that is above those of the first

abbrev pub Under : ℤ → List StoredNode → Type 0
Under k [] = Unit {0}
Under k (n ∷ ns) = (n.id <ℤ k) × Under k ns

abbrev pub From : ℤ → List StoredNode → Type 0
From k [] = Unit {0}
From k (n ∷ ns) = (k ≤ℤ n.id) × From k ns

pub above_append : (k : ℤ) (ns ms : List StoredNode) → Above k ns → Above k ms → Above k (ns ++ ms)
above_append k [] ms a b = b
above_append k (n ∷ ns) ms a b = (a.0, above_append k ns ms a.1 b)

above_beyond : (j k : ℤ) (ms : List StoredNode) → j <ℤ k → From k ms → Above j ms
above_beyond j k [] h f = tt
above_beyond j k (m ∷ ms) h f = (let x : k ≤ℤ m.id = f.0 in omega (arith, ints), above_beyond j k ms h f.1)

pub ascends_append : (k : ℤ) (ns ms : List StoredNode) → Ascends ns → Under k ns → Ascends ms → From k ms → Ascends (ns ++ ms)
ascends_append k [] ms a u b f = b
ascends_append k (n ∷ ns) ms a u b f =
    ascends_cons n (ns ++ ms) (above_append n.id ns ms (above_head n ns a) (above_beyond n.id k ms u.0 f))
    (ascends_append k ns ms (ascends_tail n ns a) u.1 b f)

-- an id that is not below such a number is not found
pub find_under : (id k : ℤ) (ns : List StoredNode) → Under k ns → k ≤ℤ id → find id ns ≡ None
find_under id k [] u h = find_nil id
find_under id k (n ∷ ns) u h = find_past id n ns (below_apart n.id id (let x : n.id <ℤ k = u.0 in omega (arith, ints)))
    ∙ find_under id k ns u.1 h
