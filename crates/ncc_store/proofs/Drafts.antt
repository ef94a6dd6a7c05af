-- Properties in a map by texts that are borrowed, seen as pairs in the order of their keys.
use Rattle.std.proofs.Common.{◌≡◌, ℕ, ◌+◌, ◌<◌, Bool, true, false, length, get_or, take, drop, List, [], ◌∷◌, ◌++◌, refl, sym, ap, ◌∙◌}
use Rattle.std.specs.Borrow.{Bor}
use Rattle.std.specs.declared.cmp.Ordering.{Ordering}
use Rattle.std.specs.declared.cmp.Ordering.TheVariants.{Less, Equal, Greater}
use Rattle.std.specs.Ordering.{nat_cmp, match_ordering, ordering_reverse}
use Rattle.std.specs.Cmp.Lexicographic.{slice_cmp, nat_list_cmp_total}
use Rattle.std.specs.List.{AllByRecursion}
use Rattle.std.specs.List.Sorted.{IsStrictlySortedBy}
use Rattle.std.specs.Map.{lookup, remove_entry, keys_of}
use Rattle.std.specs.BTreeMap.{is_at, insert_entry}
use Rattle.std.proofs.lemmas.List.{drop_more, take_more, take-append-drop}
use Rattle.std.proofs.lemmas.Map.Text.{is_eq-slice_cmp}
use Rattle.ncc_pack.specs.declared.value.Value.{Value}
use Rattle.ncc_store.specs.declared.scalar.Scalar.{Scalar}
use Rattle.ncc_store.specs.declared.scalar.Scalar.TheVariants as s
use Rattle.ncc_store.specs.Scalar.{value_of}
use Rattle.ncc_store.specs.Props.{Name, Props, name_cmp, IsKeyed, at_key, put}
use Rattle.ncc_store.specs.Views.{owned}

pub owned_at : (k : Name) (es : List (Bor Name × Value)) → lookup (is_at (λ q. slice_cmp nat_cmp k q.now)) es ≡ at_key k (owned es)
owned_at k [] = refl
owned_at k (e ∷ es) = rw (is_eq-slice_cmp k e.0.now, owned_at k es) refl

-- ---- changes at one key

owned_by : (o : Ordering) (ls es gs : List (Bor Name × Value)) → owned (match_ordering o ls es gs) ≡ match_ordering o (owned ls)
    (owned es) (owned gs)
owned_by Less ls es gs = refl
owned_by Equal ls es gs = refl
owned_by Greater ls es gs = refl

pub owned_insert : (es : List (Bor Name × Value)) (k : Bor Name) (v : Value)
    → owned (insert_entry (λ x y. slice_cmp nat_cmp x.now y.now) es k v) ≡ insert_entry name_cmp (owned es) k.now v
owned_insert [] k v = refl
owned_insert (e ∷ es) k v =
    owned_by (slice_cmp nat_cmp k.now e.0.now) ((k, v) ∷ e ∷ es) ((e.0, v) ∷ es) (e ∷ insert_entry (λ x y. slice_cmp nat_cmp x.now
    y.now) es k v)
    ∙ ap (λ (rest : Props). match_ordering (name_cmp k.now e.0.now) ((k.now, v) ∷ owned (e ∷ es)) ((e.0.now, v) ∷ owned es)
    ((e.0.now, e.1) ∷ rest)) (owned_insert es k v)

pub owned_remove : (k : Name) (es : List (Bor Name × Value)) → owned (remove_entry (is_at (λ q. slice_cmp nat_cmp k q.now)) es)
    ≡ remove_entry (is_at (name_cmp k)) (owned es)
owned_remove k [] = refl
owned_remove k (e ∷ es) = go (is_at (λ (q : Bor Name). slice_cmp nat_cmp k q.now) e.0) refl (owned_remove k es)
  where
    go : (b : Bool) → is_at (λ (q : Bor Name). slice_cmp nat_cmp k q.now) e.0 ≡ b
        → owned (remove_entry (is_at (λ q. slice_cmp nat_cmp k q.now)) es) ≡ remove_entry (is_at (name_cmp k)) (owned es)
        → owned (remove_entry (is_at (λ q. slice_cmp nat_cmp k q.now)) (e ∷ es)) ≡ remove_entry (is_at (name_cmp k)) (owned (e ∷ es))
    go true b rest = rw b refl
    go false b rest = rw b (ap (λ (ps : Props). (e.0.now, e.1) ∷ ps) rest)

-- ---- keys that come in their order

below_later : (k : Name) (ps : Props) (p : Name × Value) (rest : Props) → AllByRecursion (λ q. name_cmp k q ≡ Less)
    (keys_of (ps ++ p ∷ rest)) → name_cmp k p.0 ≡ Less
below_later k [] p rest h = h.0
below_later k (x ∷ ps) p rest h = below_later k ps p rest h.1

inserted_last : (ps : Props) (p : Name × Value) (rest : Props) → IsKeyed (ps ++ p ∷ rest) → insert_entry name_cmp ps p.0 p.1 ≡ ps ++ p ∷ []
unfolding IsStrictlySortedBy
inserted_last [] p rest h = refl
inserted_last (x ∷ ps) p rest h =
    let below : name_cmp x.0 p.0 ≡ Less = below_later x.0 ps p rest h.0 in
    let above : name_cmp p.0 x.0 ≡ Greater = nat_list_cmp_total.antisymm p.0 x.0 ∙ ap ordering_reverse below in
    rw above (ap (λ (ps : Props). x ∷ ps) (inserted_last ps p rest h.1))

pub one_more : (ps : Props) (i : ℕ) (d : Name × Value) (es fs : List (Bor Name × Value)) (k : Bor Name) (v : Value) → IsKeyed ps
    → i < length ps → k.now ≡ (get_or ps i d).0 → v ≡ (get_or ps i d).1
    → fs ≡ insert_entry (λ x y. slice_cmp nat_cmp x.now y.now) es k v → owned es ≡ take i ps → owned fs ≡ take (i + 1) ps
one_more ps i d es fs k v keyed lt is_key is_value is so_far =
    let p : Name × Value = get_or ps i d in
    let parts : take i ps ++ p ∷ drop (i + 1) ps ≡ ps = rw (← drop_more ps i d lt) (take-append-drop i ps) in
    let whole : IsKeyed (take i ps ++ p ∷ drop (i + 1) ps) = rw parts keyed in
    ap owned is ∙ owned_insert es k v ∙ rw (so_far, is_key, is_value) (inserted_last (take i ps) p (drop (i + 1) ps) whole
    ∙ sym (take_more ps i d lt))

-- ---- a property that is set

pub put_null : (es fs : List (Bor Name × Value)) (k : Name) → fs ≡ remove_entry (is_at (λ q. slice_cmp nat_cmp k q.now)) es → owned fs
    ≡ put (owned es) k s.Null
unfolding put
put_null es fs k is = ap owned is ∙ owned_remove k es

put_by : (ps : Props) (k : Name) (x : Scalar) → ¬ (x ≡ s.Null) → insert_entry name_cmp ps k (value_of x) ≡ put ps k x
unfolding put
put_by ps k s.Null h = absurd (h refl)
put_by ps k (s.Bool b) h = refl
put_by ps k (s.Int z) h = refl
put_by ps k (s.Text t) h = refl

pub put_other : (es fs : List (Bor Name × Value)) (k : Bor Name) (x : Scalar) (v : Value) → ¬ (x ≡ s.Null) → v ≡ value_of x
    → fs ≡ insert_entry (λ x y. slice_cmp nat_cmp x.now y.now) es k v → owned fs ≡ put (owned es) k.now x
put_other es fs k x v h is_value is = ap owned is ∙ owned_insert es k v ∙ rw is_value (put_by (owned es) k.now x h)

-- ---- the properties as a list

less_owned : (k : Bor Name) (es : List (Bor Name × Value)) → AllByRecursion (λ q. slice_cmp nat_cmp k.now q.now ≡ Less) (keys_of es)
    → AllByRecursion (λ q. name_cmp k.now q ≡ Less) (keys_of (owned es))
less_owned k [] h = h
less_owned k (e ∷ es) h = (h.0, less_owned k es h.1)

pub keyed_owned : (es : List (Bor Name × Value)) → IsStrictlySortedBy (λ x y. slice_cmp nat_cmp x.now y.now) (keys_of es)
    → IsKeyed (owned es)
unfolding IsStrictlySortedBy
keyed_owned [] h = h
keyed_owned (e ∷ es) h = (less_owned e.0 es h.0, keyed_owned es h.1)
