-- What is written, by ascending id.
use Rattle.std.proofs.Common.{◌≡◌, ℤ, ◌<ℤ◌, Bool, true, false, cond, [], ◌∷◌, All, Option, Some, None, Less, Equal, Greater, Ordering}
use Rattle.std.proofs.Common.{int_cmp, int_eq, refl, sym, ap, subst, ◌∙◌}
use Rattle.std.specs.Cmp.{signed_Decides, int_ranked}
use Rattle.std.specs.Ordering.{match_ordering}
use Rattle.std.specs.List.{AllByRecursion}
use Rattle.std.specs.List.Sorted.{IsStrictlySortedBy}
use Rattle.std.specs.Map.{keys_of}
use Rattle.std.specs.BTreeMap.{insert_entry}
use Rattle.std.proofs.lemmas.List.Elements.{All-cons, All-head, All-tail}
use Rattle.ncc_store.specs.declared.node.StoredNode.{StoredNode}
use Rattle.ncc_store.specs.Layers.{Written, written_at}
use Rattle.ncc_store.proofs.Placed.{same_id, less_is, below_apart}

abbrev pub Entry : Type 0
Entry = ℤ × Option StoredNode

abbrev pub Keyed : Written → Type 0
Keyed es = IsStrictlySortedBy int_cmp (keys_of es)

-- each key is above a number
abbrev pub KeysAbove : ℤ → Written → Type 0
KeysAbove k [] = Unit {0}
KeysAbove k (e ∷ es) = (k <ℤ e.0) × KeysAbove k es

above_from : (k : ℤ) (es : Written) → AllByRecursion (λ y. int_cmp k y ≡ Less) (keys_of es) → KeysAbove k es
above_from k [] h = tt
above_from k (e ∷ es) h = (less_is k e.0 h.0, above_from k es h.1)

pub keys_head : (e : Entry) (es : Written) → Keyed (e ∷ es) → KeysAbove e.0 es
unfolding IsStrictlySortedBy
keys_head e es h = above_from e.0 es h.0

pub keys_tail : (e : Entry) (es : Written) → Keyed (e ∷ es) → Keyed es
unfolding IsStrictlySortedBy
keys_tail e es h = h.1

pub keys_nil : Keyed []
unfolding IsStrictlySortedBy
keys_nil = tt

-- ---- what is written at an id

pub written_here : (id : ℤ) (e : Entry) (es : Written) → e.0 ≡ id → written_at id (e ∷ es) ≡ Some e.1
written_here id e es h = ap (λ (t : Bool). cond t (Some e.1) (written_at id es)) ((signed_Decides id e.0).1 (sym h))

pub written_past : (id : ℤ) (e : Entry) (es : Written) → int_eq id e.0 ≡ false → written_at id (e ∷ es) ≡ written_at id es
written_past id e es h = ap (λ (t : Bool). cond t (Some e.1) (written_at id es)) h

pub written_above : (id : ℤ) (es : Written) → KeysAbove id es → written_at id es ≡ None
written_above id [] a = refl
written_above id (e ∷ es) a = written_past id e es (below_apart id e.0 a.0) ∙ written_above id es a.1

-- what holds of each entry holds of the one at an id
pub written_holds : (P : Entry → Type 0) (id : ℤ) (es : Written) (o : Option StoredNode) → All P es → written_at id es ≡ Some o → P (id, o)
written_holds P id [] o all h = absurd (cc)
written_holds P id (e ∷ es) o all h = go (int_eq id e.0) refl (written_holds P id es o (All-tail P e es all)) where
  go : (t : Bool) → int_eq id e.0 ≡ t → (written_at id es ≡ Some o → P (id, o)) → P (id, o)
  go true g again =
      let f : Some e.1 ≡ Some o = sym (written_here id e es (sym (same_id id e.0 g))) ∙ h in
      let same : e.1 ≡ o = cc in
      subst (λ i. P (i, o)) (sym (same_id id e.0 g)) (subst (λ x. P (e.0, x)) same (All-head P e es all))
  go false g again = again (sym (written_past id e es g) ∙ h)

-- one more entry, or another value at its key
pub All_insert : (P : Entry → Type 0) (k : ℤ) (v : Option StoredNode) (es : Written) → P (k, v) → All P es
    → All P (insert_entry int_cmp es k v)
All_insert P k v [] p all = All-cons P (k, v) [] p all
All_insert P k v (e ∷ es) p all = go (int_cmp k e.0) refl (All_insert P k v es p (All-tail P e es all)) where
  go : (o : Ordering) → int_cmp k e.0 ≡ o → All P (insert_entry int_cmp es k v)
      → All P (match_ordering o ((k, v) ∷ e ∷ es) ((e.0, v) ∷ es) (e ∷ insert_entry int_cmp es k v))
  go Less g again = All-cons P (k, v) (e ∷ es) p all
  go Equal g again = All-cons P (e.0, v) es (subst (λ i. P (i, v)) (int_ranked k e.0 Equal (sym g)) p) (All-tail P e es all)
  go Greater g again = All-cons P e (insert_entry int_cmp es k v) (All-head P e es all) again
