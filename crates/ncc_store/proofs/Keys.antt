-- Pairs in the order of their keys: what a search among them finds.
use Rattle.std.proofs.Common.{◌≡◌, ℕ, ◌+◌, ◌<◌, ◌≤◌, false, length, get_or, [], ◌∷◌, Some, None, refl, sym, ap, ◌∙◌, arith, slice_get}
use Rattle.std.specs.declared.cmp.Ordering.{Ordering}
use Rattle.std.specs.declared.cmp.Ordering.TheVariants.{Less, Equal, Greater}
use Rattle.std.specs.Ordering.{is_lt, is_eq, ordering_index, ordering_reverse, eq_by_cmp}
use Rattle.std.specs.Cmp.{eq_by_cmp_equiv}
use Rattle.std.specs.Cmp.Lexicographic.{bytes_decides, nat_list_cmp_total}
use Rattle.std.specs.Map.{lookup, keys_of}
use Rattle.std.specs.BTreeMap.{is_at}
use Rattle.std.specs.List.{HoldsAt}
use Rattle.std.specs.List.Sorted.{IsNonDecreasingBy, IsPartitionPoint}
use Rattle.std.proofs.lemmas.List.{get_or-map, length-map}
use Rattle.std.proofs.lemmas.List.Sorted.{searchable_from_sorted}
use Rattle.std.proofs.lemmas.Map.Entries.{lookup_from_place, lookup_at_gap}
use Rattle.std.proofs.lemmas.Map.Keys.{Less-from_sorted, IsDistinct-from_sorted}
use Rattle.std.proofs.lemmas.Map.Text.{is_eq-slice_cmp}
use Rattle.std.proofs.lemmas.Option.{slice_get-get_or, get_or_from_slice_get, slice_get_within}
use Rattle.ncc_pack.specs.declared.value.Value.{Value}
use Rattle.ncc_store.specs.Props.{Name, Props, name_cmp, IsKeyed, at_key}

-- a key is found by its bytes as it is by its order
pub at_key-is : (k : Name) (ps : Props) → at_key k ps ≡ lookup (is_at (name_cmp k)) ps
at_key-is k [] = refl
at_key-is k (p ∷ ps) = rw (is_eq-slice_cmp k p.0, at_key-is k ps) refl

module _ (ps : Props) (sorted : IsKeyed ps) (k : Name) where
  next_is_not_below : (i : ℕ) (d : Name × Value) → 0 ≤ i → i + 1 < length ps
      → is_lt (name_cmp (get_or ps (i + 1) d).0 (get_or ps i d).0) ≡ false
  next_is_not_below i d _ lt =
      let key : Name × Value → Name = λ p. p.0 in
      let n : i + 1 < length (keys_of ps) = omega (arith, length-map ps key) in
      let below : name_cmp (get_or (keys_of ps) i d.0) (get_or (keys_of ps) (i + 1) d.0) ≡ Less = Less-from_sorted name_cmp (keys_of ps)
      i (i + 1) d.0 sorted (omega arith) n in
      let below : name_cmp (get_or ps i d).0 (get_or ps (i + 1) d).0 ≡ Less =
      rw (← get_or-map key ps i d d.0 (omega arith), ← get_or-map key ps (i + 1) d d.0 lt) below in
      ap is_lt (nat_list_cmp_total.antisymm (get_or ps (i + 1) d).0 (get_or ps i d).0 ∙ ap ordering_reverse below)

  rises : IsNonDecreasingBy (λ p. ordering_index (name_cmp p.0 k)) ps
  rises = searchable_from_sorted nat_list_cmp_total (λ p. p.0) ps k next_is_not_below

  pub found : (i : ℕ) (d : Name × Value) → i < length ps → HoldsAt (λ q. name_cmp q.0 k ≡ Equal) ps i → Some (get_or ps i d).1 ≡ at_key k ps
  found i d lt equal =
      let p : Name × Value = get_or ps i d in
      let own : p.0 ≡ k = (bytes_decides p.0 k).0 (sym (is_eq-slice_cmp p.0 k) ∙ ap is_eq (equal d)) in
      let at_own : lookup (eq_by_cmp name_cmp p.0) ps ≡ Some p.1 = lookup_from_place (eq_by_cmp_equiv nat_list_cmp_total) ps i p.0 p.1
      (IsDistinct-from_sorted name_cmp (keys_of ps) sorted) (slice_get-get_or ps i d lt) in
      let at_this : lookup (is_at (name_cmp k)) ps ≡ Some p.1 = rw own at at_own in
      sym (at_key-is k ps ∙ at_this)

  at_place : (i : ℕ) (p : Name × Value) (o : Ordering) → slice_get ps i ≡ Some p → name_cmp (get_or ps i p).0 k ≡ o → name_cmp p.0 k ≡ o
  at_place i p o e h = rw (get_or_from_slice_get ps i p p e) at h

  pub absent : (i : ℕ) → (IsNonDecreasingBy (λ q. ordering_index (name_cmp q.0 k)) ps → IsPartitionPoint (λ q. name_cmp q.0 k ≡ Less)
      (λ q. name_cmp q.0 k ≡ Greater) ps i) → None ≡ at_key k ps
  absent i parted =
      let parts : IsPartitionPoint (λ q. name_cmp q.0 k ≡ Less) (λ q. name_cmp q.0 k ≡ Greater) ps i = parted rises in
      let turned : (p : Name × Value) → name_cmp k p.0 ≡ ordering_reverse (name_cmp p.0 k) = λ p. nat_list_cmp_total.antisymm k p.0 in
      sym (at_key-is k ps ∙ lookup_at_gap nat_list_cmp_total k ps i sorted
      (λ j p lt e. turned p ∙ ap ordering_reverse (at_place j p Less e (parts.0 j p (omega arith) lt)))
      (λ p e. turned p ∙ ap ordering_reverse (at_place i p Greater e (parts.1 i p (omega arith) (slice_get_within ps i p e)))))
