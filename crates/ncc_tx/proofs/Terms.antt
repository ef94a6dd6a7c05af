-- The terms of a log, item by item.
use Rattle.std.proofs.Common.{◌≡◌, ℕ, suc, ◌+◌, ◌<◌, ◌≤◌, List, [], ◌∷◌, ◌++◌, length, get_or, take, drop, refl, sym, ap, ◌∙◌, subst, arith}
use Rattle.std.specs.Prelude.{IsTrue}
use Rattle.std.proofs.lemmas.List.{drop_all, drop_more, get_or-map, length-map, take_more_same}
use Rattle.std.proofs.lemmas.List.Elements.{All-more}
use Rattle.ncc_tx.specs.declared.entry.Item.{Item}
use Rattle.ncc_tx.specs.Items.{entry_allowed}
use Rattle.ncc_tx.specs.Kept.{AllAllowed, NeverFalls, SameTerms, TermsParted, terms}

-- ---- terms that don't fall

-- they don't fall in all the items exactly where they don't from the last one on in those that are left
pub record Left (least greatest last : ℕ) (items rest : List Item) : Type 0 where
  pub to : NeverFalls last greatest rest → NeverFalls least greatest items
  pub from : NeverFalls least greatest items → NeverFalls last greatest rest

pub left_begins : (least greatest : ℕ) (items : List Item) → Left least greatest least items items
left_begins least greatest items = record { to = λ h. h; from = λ h. h }

next_is : (i : ℕ) (items : List Item) (x : Item) → i < length items → x ≡ get_or items i x → drop i items ≡ x ∷ drop (i + 1) items
next_is i items x lt is = drop_more items i x lt ∙ ap (λ (y : Item). y ∷ drop (i + 1) items) (sym is)

pub left_more : (least greatest last i : ℕ) (items : List Item) (x : Item) → i < length items → x ≡ get_or items i x →
    last ≤ x.term → x.term ≤ greatest
    → Left least greatest last items (drop i items) → Left least greatest x.term items (drop (i + 1) items)
left_more least greatest last i items x lt is above below l =
    let e = next_is i items x lt is in
    record {
      to = λ h. l.to (subst (NeverFalls last greatest) (sym e) (above, below, h));
      from = λ h. let r = subst (NeverFalls last greatest) e (l.from h) in r.2;
    }

pub left_stops : (least greatest last i : ℕ) (items : List Item) (x : Item) → i < length items → x ≡ get_or items i x →
    ((last ≤ x.term) × (x.term ≤ greatest) → ⊥)
    → Left least greatest last items (drop i items) → NeverFalls least greatest items → ⊥
left_stops least greatest last i items x lt is wrong l h = let r =
    subst (NeverFalls last greatest) (next_is i items x lt is) (l.from h) in wrong (r.0, r.1)

pub left_ends : (least greatest last i : ℕ) (items : List Item) → length items ≤ i → Left least greatest last items (drop i items) →
    NeverFalls least greatest items
left_ends least greatest last i items le l = l.to (subst (NeverFalls last greatest) (sym (drop_all i items le)) tt)

-- ---- the same terms at the front

pub parted_at : (xs ys : List Item) (i : ℕ) (x y : Item) → i < length xs → i < length ys → x ≡ get_or xs i x → y ≡ get_or ys i y →
    (x.term ≡ y.term → ⊥) → TermsParted (drop i xs) (drop i ys)
parted_at xs ys i x y lt le is same other = rw (next_is i xs x lt is, next_is i ys y le same) other

pub parted_end : (xs ys : List Item) (i : ℕ) → length ys ≤ i → TermsParted (drop i xs) (drop i ys)
parted_end xs ys i le = rw (drop_all i ys le) (go (drop i xs))
  where
    go : (zs : List Item) → TermsParted zs []
    go [] = tt
    go (z ∷ zs) = tt

pub parted_all : (xs ys : List Item) (i : ℕ) → length xs ≤ i → TermsParted (drop i xs) (drop i ys)
parted_all xs ys i le = rw (drop_all i xs le) tt

-- the first of both have the same terms
pub record SameSoFar (xs ys : List Item) (i : ℕ) : Type 0 where
  pub le : i ≤ length ys
  pub same : take i (terms xs) ≡ take i (terms ys)

pub same_more : (xs ys : List Item) (i : ℕ) (x y : Item) → i < length xs → i < length ys → x ≡ get_or xs i x → y ≡ get_or ys i y →
    x.term ≡ y.term → SameSoFar xs ys i → SameSoFar xs ys (i + 1)
same_more xs ys i x y lt le is same e s =
    let f : Item → ℕ = λ z. z.term in
    let one : get_or (terms xs) i 0 ≡ x.term = get_or-map f xs i x 0 lt ∙ ap f (sym is) in
    let two : get_or (terms ys) i 0 ≡ y.term = get_or-map f ys i y 0 le ∙ ap f (sym same) in
    let in_xs : i < length (terms xs) = omega (arith, length-map xs f) in
    let in_ys : i < length (terms ys) = omega (arith, length-map ys f) in
    record {
      le = omega arith;
      same = take_more_same (terms xs) (terms ys) i 0 in_xs in_ys s.same (one ∙ e ∙ sym two);
    }

pub same_front : (xs ys : List Item) (i : ℕ) → i ≤ length xs → SameSoFar xs ys i → TermsParted (drop i xs) (drop i ys) → SameTerms xs ys i
same_front xs ys i le s most = record { in_first = le; in_second = s.le; same = s.same; most = most }

pub all_same : (xs ys : List Item) (i : ℕ) → length xs ≤ i → i ≤ length xs → SameSoFar xs ys i → SameTerms xs ys (length xs)
all_same xs ys i le ge s = let e : i ≡ length xs = omega arith in
    subst (SameTerms xs ys) e (same_front xs ys i ge s (parted_all xs ys i le))

-- ---- an entry that is not allowed

pub fails : (items : List Item) (i : ℕ) (x : Item) → i < length items → x ≡ get_or items i x →
    (IsTrue (entry_allowed x.entry) → ⊥) → AllAllowed items → ⊥
fails items i x lt is wrong all = wrong (subst (λ (y : Item). IsTrue (entry_allowed y.entry)) (sym is) (all i x lt))

pub allowed_more : (items : List Item) (i : ℕ) (x : Item) → i < length items → x ≡ get_or items i x →
    IsTrue (entry_allowed x.entry) → AllAllowed (take i items) → AllAllowed (take (i + 1) items)
allowed_more items i x lt is good all = All-more (λ (y : Item). IsTrue (entry_allowed y.entry)) items i x lt all
    (subst (λ (y : Item). IsTrue (entry_allowed y.entry)) is good)

-- what the comparing of terms, item by item, takes
pub ruleset parts = (parted_at, parted_end, same_more, same_front, all_same)
