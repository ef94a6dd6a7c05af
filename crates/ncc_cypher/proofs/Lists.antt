-- Token lists with separators, and lists of which each element is right.
use Rattle.std.proofs.Common.{◌≡◌, ℕ, Bool, true, false, ◌&&◌, eqb, List, [], ◌∷◌, ◌++◌, None, refl, ap, append_assoc, eq-eqb}
use Rattle.std.specs.Str.{bytes_eq}
use Rattle.std.proofs.lemmas.List.{append-nil}
use Rattle.std.proofs.lemmas.Bool.{eqb-true}
use Rattle.ncc_cypher.specs.declared.token.Token.{Token}
use Rattle.ncc_cypher.specs.declared.tree.Pair.{Pair}
use Rattle.ncc_cypher.specs.declared.tree.Item.{Item}
use Rattle.ncc_cypher.specs.Grammar.{Named, further, parted, NotEmpty, Every, IsPair, has, AllNew, ArePairs, items_of}

abbrev pub each_then : {A : Type 0} → (A → List Token) → Token → List A → List Token
each_then f sep [] = []
each_then f sep (x ∷ xs) = f x ++ (sep ∷ each_then f sep xs)

pub each_then_more : {A : Type 0} (f : A → List Token) (sep : Token) (xs : List A) (x : A) → each_then f sep (xs ++ (x ∷ [])) ≡ each_then f sep xs ++ (f x ++ (sep ∷ []))
each_then_more f sep [] x = refl
each_then_more f sep (y ∷ ys) x = rw (each_then_more f sep ys x) (simp append_assoc)

further_last : {A : Type 0} (f : A → List Token) (sep : Token) (xs : List A) (x : A) → further f sep (xs ++ (x ∷ [])) ≡ sep ∷ (each_then f sep xs ++ f x)
further_last f sep [] x = ap (λ (z : List Token). sep ∷ z) (append-nil (f x))
further_last f sep (y ∷ ys) x = rw (further_last f sep ys x) (simp append_assoc)

pub parted_last : {A : Type 0} (f : A → List Token) (sep : Token) (xs : List A) (x : A) → parted f sep (xs ++ (x ∷ [])) ≡ each_then f sep xs ++ f x
parted_last f sep [] x = append-nil (f x)
parted_last f sep (y ∷ ys) x = rw (further_last f sep ys x) (simp append_assoc)

further_then : {A : Type 0} (f : A → List Token) (sep : Token) (xs : List A) → sep ∷ each_then f sep xs ≡ further f sep xs ++ (sep ∷ [])
further_then f sep [] = refl
further_then f sep (y ∷ ys) = rw (further_then f sep ys) (simp append_assoc)

pub parted_then : {A : Type 0} (f : A → List Token) (sep : Token) (xs : List A) → NotEmpty xs → each_then f sep xs ≡ parted f sep xs ++ (sep ∷ [])
parted_then f sep [] ne = absurd ne
parted_then f sep (x ∷ xs) ne = rw (further_then f sep xs) (simp append_assoc)

pub not_empty : {A : Type 0} (xs : List A) (x : A) → NotEmpty (xs ++ (x ∷ []))
not_empty [] x = tt
not_empty (y ∷ ys) x = tt

pub Every_more : {A : Type 0} (P : A → Type 0) (xs : List A) (x : A) → Every P xs → P x → Every P (xs ++ (x ∷ []))
Every_more P [] x e p = (p, tt)
Every_more P (y ∷ ys) x e p = (e.0, Every_more P ys x e.1 p)

pub Every_append : {A : Type 0} (P : A → Type 0) (xs ys : List A) → Every P xs → Every P ys → Every P (xs ++ ys)
Every_append P [] ys e f = f
Every_append P (x ∷ xs) ys e f = (e.0, Every_append P xs ys e.1 f)

pub Every_front : {A : Type 0} (P : A → Type 0) (xs ys : List A) → Every P (xs ++ ys) → Every P xs
Every_front P [] ys e = tt
Every_front P (x ∷ xs) ys e = (e.0, Every_front P xs ys e.1)

pub Every_back : {A : Type 0} (P : A → Type 0) (xs ys : List A) → Every P (xs ++ ys) → Every P ys
Every_back P [] ys e = e
Every_back P (x ∷ xs) ys e = Every_back P xs ys e.1

AllNew_more : (before ps : List Pair) (p : Pair) → AllNew before ps → has p.key (before ++ ps) ≡ false → AllNew before (ps ++ (p ∷ []))
AllNew_more before [] p n e = (rw append-nil at e, tt)
AllNew_more before (q ∷ ps) p n e = (n.0, AllNew_more (before ++ (q ∷ [])) ps p n.1 (rw append_assoc e))

pub pairs_more : (ps : List Pair) (p : Pair) → ArePairs ps → has p.key ps ≡ false → IsPair None p → ArePairs (ps ++ (p ∷ []))
pairs_more ps p a e f = (AllNew_more [] ps p a.0 e, Every_more (IsPair None) ps p a.1 f)

pub items_more : (xs : List Named) (x : Named) → items_of (xs ++ (x ∷ [])) ≡ items_of xs ++ (x.item ∷ [])
items_more [] x = refl
items_more (y ∷ ys) x = ap (λ (z : List Item). y.item ∷ z) (items_more ys x)

-- ---- names

both : (x y : Bool) → (x && y) ≡ true → (x ≡ true) × (y ≡ true)
both true true e = (refl, refl)
both true false e = absurd cc
both false y e = absurd cc

pub same_name : (x y : List ℕ) → bytes_eq x y ≡ true → x ≡ y
same_name [] [] e = refl
same_name [] (b ∷ y) e = absurd cc
same_name (a ∷ x) [] e = absurd cc
same_name (a ∷ x) (b ∷ y) e =
    let s = both (eqb a b) (bytes_eq x y) e in
    let i : a ≡ b = eqb-true a b s.0 in
    let j : x ≡ y = same_name x y s.1 in
    cc

pub itself : (x : List ℕ) → bytes_eq x x ≡ true
itself [] = refl
itself (a ∷ x) = let i : eqb a a ≡ true = eq-eqb a a refl in rw (i, itself x) refl
