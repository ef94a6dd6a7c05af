-- Parameters, put into a map one by one: looking up in it is looking up in the pairs.
use Rattle.std.proofs.Common.{◌≡◌, ℕ, ◌+◌, ◌<◌, ◌≤◌, Bool, true, false, cond, not, ◌&&◌, length, get_or, take, drop, List, [], ◌∷◌}
use Rattle.std.proofs.Common.{◌++◌, Option, Some, refl, sym, ap, ◌∙◌, arith}
use Rattle.std.specs.Prelude.{IsTrue, nat_le}
use Rattle.std.specs.Borrow.{Bor}
use Rattle.std.specs.List.{list_any, list_all}
use Rattle.std.specs.Option.{option_map}
use Rattle.std.specs.Ordering.{nat_cmp}
use Rattle.std.specs.Cmp.Lexicographic.{slice_cmp, bytes_decides, nat_list_eq_equiv}
use Rattle.std.specs.Str.{bytes_eq}
use Rattle.std.specs.Map.{lookup}
use Rattle.std.specs.BTreeMap as tree
use Rattle.std.specs.BTreeMap.{BTreeMap, is_at}
use Rattle.std.proofs.lemmas.List.{take_more, take_all}
use Rattle.std.proofs.lemmas.Map.Text.{is_eq-slice_cmp, btree_map_updates_str}
use Rattle.ncc_pack.specs.declared.value.Value.{Value}
use Rattle.ncc_pack.specs.declared.value.Value.TheVariants as value
use Rattle.ncc_pack.specs.Limits.{max_depth, max_size}
use Rattle.ncc_pack.specs.Keys.{keys, distinct}
use Rattle.ncc_pack.specs.Fits.{fits, fits_text, fits_within}
use Rattle.ncc_pack.proofs.Single.{fits_of_dict}
use Rattle.ncc_pack.proofs.Fitting.{dict_more, distinct_step, is_fresh}
use Rattle.ncc_store.specs.Props.{Name, Props, at_key}
use Rattle.ncc_store.specs.Views.{shared}

-- ---- one more pair behind others

at_key-push : (q : Name) (ps : Props) (p : Name × Value) → list_any (bytes_eq p.0) (keys ps) ≡ false → at_key q (ps ++ p ∷ [])
    ≡ cond (bytes_eq p.0 q) (Some p.1) (at_key q ps)
at_key-push q [] p h = rw (nat_list_eq_equiv.symm p.0 q) refl
at_key-push q (x ∷ ps) p h = go (bytes_eq p.0 x.0) (bytes_eq q x.0) refl refl (at_key-push q ps p)
  where
    go : (a b : Bool) → bytes_eq p.0 x.0 ≡ a → bytes_eq q x.0 ≡ b → (list_any (bytes_eq p.0) (keys ps) ≡ false → at_key q (ps ++ p ∷ [])
        ≡ cond (bytes_eq p.0 q) (Some p.1) (at_key q ps)) → at_key q (x ∷ ps ++ p ∷ [])
        ≡ cond (bytes_eq p.0 q) (Some p.1) (at_key q (x ∷ ps))
    go true b e f rest = absurd (let g : true ≡ false = rw e at h in cc)
    go false true e f rest =
        let same : q ≡ x.0 = (bytes_decides q x.0).0 f in
        let apart : bytes_eq p.0 q ≡ false = rw same e in
        rw (f, apart) refl
    go false false e f rest = rw f (rest (rw e at h))

-- ---- a map by texts that are borrowed

abbrev pub got : Name → BTreeMap (Bor Name) (Bor Value) → Option (Bor Value)
got q m = tree.get_by (λ k. slice_cmp nat_cmp q k.now) m

abbrev pub now_of : Option (Bor Value) → Option Value
now_of o = option_map (λ v. v.now) o

choice : (b : Bool) (v : Bor Value) (o : Option (Bor Value)) → now_of (cond b (Some v) o) ≡ cond b (Some v.now) (now_of o)
choice true v o = refl
choice false v o = refl

found_in : (q : Name) (es : List (Bor Name × Bor Value)) → now_of (lookup (is_at (λ k. slice_cmp nat_cmp q k.now)) es)
    ≡ at_key q (shared es)
found_in q [] = refl
found_in q (e ∷ es) = rw (is_eq-slice_cmp q e.0.now) (choice (bytes_eq q e.0.now) e.1 (lookup (is_at (λ k. slice_cmp nat_cmp q k.now))
    es) ∙ ap (λ o. cond (bytes_eq q e.0.now) (Some e.1.now) o) (found_in q es))

pub shared-is : (q : Name) (m : BTreeMap (Bor Name) (Bor Value)) → now_of (got q m) ≡ at_key q (shared m.entries)
shared-is q m = found_in q m.entries

-- ---- the loop

differ : (ps : Props) → IsTrue (fits (value.Dict ps)) → distinct [] ps ≡ true
differ ps h =
    let parts : fits (value.Dict ps) ≡ (nat_le (length ps) max_size && list_all (λ p. fits_text p.0 && fits_within p.1 31) ps
    && distinct [] ps) = fits_of_dict ps ∙ dict_more ps max_depth (omega arith) in
    last (nat_le (length ps) max_size && list_all (λ p. fits_text p.0 && fits_within p.1 31) ps) (distinct [] ps) (rw parts at h)
  where
    last : (a b : Bool) → IsTrue (a && b) → b ≡ true
    last a b h = grind arith

-- the map has the pairs so far, and no key of them twice
pub record Holds (m : BTreeMap (Bor Name) (Bor Value)) (ps : Props) (i : ℕ) : Type 0 where
  pub apart : distinct [] ps ≡ distinct (keys (take i ps)) (drop i ps)
  pub same : (q : Name) → at_key q (shared m.entries) ≡ at_key q (take i ps)

pub none_yet : (m : BTreeMap (Bor Name) (Bor Value)) (ps : Props) → m.entries ≡ [] → Holds m ps 0
none_yet m ps none = record { apart = refl; same = λ q. ap (λ (es : List (Bor Name × Bor Value)). at_key q (shared es)) none }

unseen : (a b : Bool) → (not a && b) ≡ true → a ≡ false
unseen a b h = grind arith

pub one_more : (m n : BTreeMap (Bor Name) (Bor Value)) (key : Bor Name) (held : Bor Value) (ps : Props) (i : ℕ) (d : Name × Value)
    → IsTrue (fits (value.Dict ps)) → i < length ps → key.now ≡ (get_or ps i d).0 → held.now ≡ (get_or ps i d).1
    → tree.Updates (λ x y. slice_cmp nat_cmp x.now y.now) m n key (Some held) → Holds m ps i → Holds n ps (i + 1)
one_more m n key held ps i d fit lt is_key is_held up h =
    let p : Name × Value = get_or ps i d in
    let first : list_any (bytes_eq p.0) (keys (take i ps)) ≡ false = unseen _ _ (sym (distinct_step ps i d lt) ∙ sym h.apart
    ∙ differ ps fit) in
    let after : (q : Name) → at_key q (shared n.entries) ≡ cond (bytes_eq p.0 q) (Some p.1) (at_key q (take i ps)) =
    λ q. sym (shared-is q n) ∙ ap now_of (btree_map_updates_str key.now m n (Some held) up q) ∙ choice (bytes_eq key.now q) held
    (got q m) ∙ rw (is_key, is_held, shared-is q m, h.same q) refl in
    record {
      apart = is_fresh ps i d lt h.apart first;
      same = λ q. after q ∙ sym (at_key-push q (take i ps) p first) ∙ ap (at_key q) (sym (take_more ps i d lt));
    }

pub all_held : (m : BTreeMap (Bor Name) (Bor Value)) (ps : Props) (i : ℕ) → length ps ≤ i → Holds m ps i → (k : Name)
    → at_key k (shared m.entries) ≡ at_key k ps
all_held m ps i le h k = h.same k ∙ ap (at_key k) (take_all i ps le)
