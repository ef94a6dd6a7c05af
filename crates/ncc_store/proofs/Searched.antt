-- What a search by id finds among nodes by ascending id.
use Rattle.std.proofs.Common.{◌≡◌, ℕ, zero, suc, ◌+◌, ◌<◌, ℤ, ◌<ℤ◌, Bool, true, false, not, ◌||◌, List, [], ◌∷◌, length, get_or, set}
use Rattle.std.proofs.Common.{filter, IsSortedBy, Result, Ok, Err, is_ok, Some, None, Less, Equal, Greater, int_cmp, int_eq, is_lt}
use Rattle.std.proofs.Common.{refl, sym, ap, subst, ◌∙◌, arith, inl, inr}
use Rattle.std.specs.Cmp.{signed_Decides, int_ranked, int_cmp_is, int_cmp_total}
use Rattle.std.specs.Ordering.{ordering_index}
use Rattle.std.specs.List.{list_any}
use Rattle.std.specs.List.Sorted.{IsStrictlySortedBy, IsNonDecreasingBy, IsPartitionPoint, IsSearchInRange, IsBinarySearchResult}
use Rattle.std.proofs.lemmas.Int.{ints}
use Rattle.std.proofs.lemmas.Bool.{cases_lt, or_right, or_from}
use Rattle.std.proofs.lemmas.List.Sorted.{searchable_from_sorted}
use Rattle.std.proofs.lemmas.Map.Keys.{Less-from_sorted}
use Rattle.ncc_store.specs.declared.node.StoredNode.{StoredNode}
use Rattle.ncc_store.specs.Graph.{find, replace}
use Rattle.ncc_store.proofs.Placed.{apart, Ascends, above_head, ascends_tail, find_at, find_nowhere, replace_none, set_replaces}

next_above : (ns : List StoredNode) (k : ℕ) (d : StoredNode) → Ascends ns → k + 1 < length ns
    → (get_or ns k d).id <ℤ (get_or ns (k + 1) d).id
next_above [] k d a lt = absurd (omega arith)
next_above (n ∷ []) k d a lt = absurd (omega arith)
next_above (n ∷ (m ∷ ms)) zero d a lt = (above_head n (m ∷ ms) a).0
next_above (n ∷ (m ∷ ms)) (suc k) d a lt = let e : suc k + 1 ≡ suc (k + 1) = omega arith in
    rw e (next_above (m ∷ ms) k d (ascends_tail n (m ∷ ms) a) (omega arith))

pub in_order : (ns : List StoredNode) → Ascends ns → IsSortedBy (λ a b. is_lt (int_cmp a.id b.id)) ns
in_order ns a k d h lt = ap is_lt (sym (int_cmp_is (get_or ns (k + 1) d).id (get_or ns k d).id Greater (next_above ns k d a lt)))

searchable : (id : ℤ) (ns : List StoredNode) → Ascends ns → IsNonDecreasingBy (λ y. ordering_index (int_cmp y.id id)) ns
searchable id ns a = searchable_from_sorted int_cmp_total (λ n. n.id) ns id (in_order ns a)

pub is_equal : (a b : ℤ) → int_cmp a b ≡ Equal → a ≡ b
is_equal a b e = int_ranked a b Equal (sym e)

-- the search hits
pub hit : (id q : ℤ) (ns xs : List StoredNode) (i : ℕ) (x : StoredNode) → q ≡ id → xs ≡ ns → Ascends ns → i < length xs
    → ((d : StoredNode) → int_cmp (get_or xs i d).id q ≡ Equal) → x ≡ get_or ns i x → Some x ≡ find id ns
hit id q ns xs i x e f a lt h is =
    let here : (get_or ns i x).id ≡ id = subst (λ ys. (get_or ys i x).id ≡ id) f (is_equal (get_or xs i x).id q (h x) ∙ e) in
    ap Some is ∙ sym (find_at id ns i x a (subst (λ ys. i < length ys) f lt) here)

never_equal : (a b : ℤ) → int_cmp a b ≡ Less → a ≡ b → ⊥
never_equal a b e h = let l : a <ℤ b = int_ranked a b Less (sym e) in omega (arith, ints)

never_same : (a b : ℤ) → int_cmp a b ≡ Greater → a ≡ b → ⊥
never_same a b e h = let l : b <ℤ a = int_ranked a b Greater (sym e) in omega (arith, ints)

gap : (id : ℤ) (ns : List StoredNode) (i : ℕ) → IsPartitionPoint (λ y. int_cmp y.id id ≡ Less) (λ y. int_cmp y.id id ≡ Greater) ns i
    → find id ns ≡ None
gap id ns i p = find_nowhere id ns (λ k d lt e. elim (cases_lt k i) [
  | inl l ↦ never_equal (get_or ns k d).id id
      (p.0 k d (omega arith) l) e
  | inr l ↦ never_same (get_or ns k d).id id (p.1 k d l lt) e
])

-- the search misses
pub missed : (id q : ℤ) (ns xs : List StoredNode) (i : ℕ) → q ≡ id → xs ≡ ns → Ascends ns
    → (IsNonDecreasingBy (λ y. ordering_index (int_cmp y.id q)) xs → IsPartitionPoint (λ y. int_cmp y.id q ≡ Less) (λ y. int_cmp y.id q
    ≡ Greater) xs i) → find id ns ≡ None
missed id q ns xs i e f a p =
    let there : Ascends xs = subst Ascends (sym f) a in
    ap (find id) (sym f) ∙ ap (λ (k : ℤ). find k xs) (sym e) ∙ gap q xs i (p (searchable q xs there))

-- the search for the id of a node says where the node goes
pub placed : (q : ℤ) (m : StoredNode) (ns : List StoredNode) (i : ℕ) → q ≡ m.id → Ascends ns → i < length ns
    → ((d : StoredNode) → int_cmp (get_or ns i d).id q ≡ Equal) → set ns i m ≡ replace m ns
placed q m ns i e a lt h = sym (set_replaces m ns i m a lt (is_equal (get_or ns i m).id q (h m) ∙ e))

pub not_placed : (q : ℤ) (m : StoredNode) (ns : List StoredNode) (i : ℕ) → q ≡ m.id → Ascends ns
    → (IsNonDecreasingBy (λ y. ordering_index (int_cmp y.id q)) ns → IsPartitionPoint (λ y. int_cmp y.id q ≡ Less) (λ y. int_cmp y.id q
    ≡ Greater) ns i) → ns ≡ replace m ns
not_placed q m ns i e a p = sym (replace_none m ns (missed m.id q ns ns i e refl a p))

-- ---- among ids alone

ids_in_order : (is : List ℤ) → IsStrictlySortedBy int_cmp is → IsSortedBy (λ a b. is_lt (int_cmp a b)) is
ids_in_order is a k d h lt =
    let less : int_cmp (get_or is k d) (get_or is (k + 1) d) ≡ Less = Less-from_sorted int_cmp is k (k + 1) d a (omega arith) lt in
    ap is_lt (sym (int_cmp_is (get_or is (k + 1) d) (get_or is k d) Greater (int_ranked (get_or is k d) (get_or is (k + 1) d) Less
    (sym less))))

any_at : (id : ℤ) (is : List ℤ) (i : ℕ) (d : ℤ) → i < length is → get_or is i d ≡ id → list_any (int_eq id) is ≡ true
any_at id [] i d lt e = absurd (omega arith)
any_at id (k ∷ is) zero d lt e = ap (λ (t : Bool). t || list_any (int_eq id) is) ((signed_Decides id k).1 (sym e))
any_at id (k ∷ is) (suc i) d lt e = ap (λ (t : Bool). int_eq id k || t) (any_at id is i d (omega arith) e)
    ∙ or_right (int_eq id k) true refl

any_nowhere : (id : ℤ) (is : List ℤ) → ((i : ℕ) (d : ℤ) → i < length is → get_or is i d ≡ id → ⊥) → list_any (int_eq id) is ≡ false
any_nowhere id [] h = refl
any_nowhere id (k ∷ is) h = or_from (int_eq id k) (list_any (int_eq id) is) (apart id k (λ e. h 0 k (omega arith) (sym e)))
    (any_nowhere id is (λ i d lt. h (suc i) d (omega arith)))

search_says : (id : ℤ) (is : List ℤ) (r : Result ℕ ℕ) → IsStrictlySortedBy int_cmp is → IsSearchInRange r (length is)
    → IsBinarySearchResult (λ y. int_cmp y id) is r → is_ok r ≡ list_any (int_eq id) is
search_says id is (Ok i) a b h = sym (any_at id is i id b (is_equal (get_or is i id) id (h id)))
search_says id is (Err i) a b h =
    let p = h (searchable_from_sorted int_cmp_total (λ k. k) is id (ids_in_order is a)) in
    sym (any_nowhere id is (λ k d lt e. elim (cases_lt k i) [
      | inl l ↦ never_equal (get_or is k d) id (p.0 k d (omega arith) l) e
      | inr l
          ↦ never_same (get_or is k d) id (p.1 k d l lt) e
    ]))

pub answers : (id q : ℤ) (is : List ℤ) (r : Result ℕ ℕ) (b : Bool) → q ≡ id → IsStrictlySortedBy int_cmp is
    → IsSearchInRange r (length is) → IsBinarySearchResult (λ y. int_cmp y q) is r → b ≡ is_ok r → b ≡ list_any (int_eq id) is
answers id q is r b e a range h f = f ∙ search_says q is r a range h ∙ ap (λ (k : ℤ). list_any (int_eq k) is) e

-- none is gone
pub none_gone : (ns : List StoredNode) (gone : List ℤ) → gone ≡ [] → ns ≡ filter (λ n. not (list_any (int_eq n.id) gone)) ns
none_gone ns gone e = subst (λ is. ns ≡ filter (λ n. not (list_any (int_eq n.id) is)) ns) (sym e) (all ns) where
  all : (xs : List StoredNode) → xs ≡ filter (λ n. not (list_any (int_eq n.id) [])) xs
  all [] = refl
  all (x ∷ xs) = ap (λ (ys : List StoredNode). x ∷ ys) (all xs)
