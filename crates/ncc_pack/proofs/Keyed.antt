-- Steps of the loop over pairs.
use Rattle.std.proofs.Common.{◌≡◌, ℕ, suc, ◌-◌, ◌+◌, ◌<◌, ◌≤◌, Bool, true, false, not, cond, ◌||◌, eqb, List, [], ◌∷◌, ◌++◌, length, map}
use Rattle.std.proofs.Common.{Ok, Err, refl, sym, ap, ◌∙◌, arith}
use Rattle.std.specs.Borrow.{Bor}
use Rattle.std.specs.List.{list_any}
use Rattle.std.specs.Str.{bytes_eq}
use Rattle.std.specs.Ordering.{nat_cmp}
use Rattle.std.specs.Cmp.Lexicographic.{slice_cmp}
use Rattle.std.specs.BTreeSet as sorted
use Rattle.std.specs.BTreeSet.{BTreeSet}
use Rattle.std.proofs.lemmas.Map.Text.{is_eq-slice_cmp}
use Rattle.std.proofs.lemmas.List.Folds.{list_any-append}
use Rattle.std.proofs.lemmas.List.{append-nil, map_push}
use Rattle.ncc_pack.specs.declared.error.PackError.{PackError}
use Rattle.ncc_pack.specs.declared.error.PackError.TheVariants.{RepeatedKey}
use Rattle.ncc_pack.specs.Reading.{Read, Fails, key_at, pairs_at}
use Rattle.ncc_pack.proofs.Lists.{with_front, fails_on, regroup}

abbrev pub keys : {A : Type 0} → List (List ℕ × A) → List (List ℕ)
keys ps = map (λ p. p.0) ps

abbrev pub has : BTreeSet (Bor (List ℕ)) → List ℕ → Bool
has s q = sorted.contains_by (λ k. slice_cmp nat_cmp q k.now) s

swapped : (x y : ℕ) → eqb x y ≡ eqb y x
swapped x y = grind arith

flipped : (xs ys : List ℕ) → bytes_eq xs ys ≡ bytes_eq ys xs
flipped [] [] = refl
flipped [] (y ∷ ys) = refl
flipped (x ∷ xs) [] = refl
flipped (x ∷ xs) (y ∷ ys) = let e : eqb x y ≡ eqb y x = swapped x y in rw (e, flipped xs ys) refl

either : (a b : Bool) → cond a true b ≡ (b || (a || false))
either true true = refl
either true false = refl
either false true = refl
either false false = refl

pub in_set : (a b : Bool) → a ≡ false → a ≡ not b → b ≡ true
in_set a true e f = refl
in_set a false e f = absurd (let g : false ≡ true = sym e ∙ f in cc)

pub not_in_set : (a b : Bool) → a ≡ true → a ≡ not b → b ≡ false
not_in_set a true e f = absurd (let g : true ≡ false = sym e ∙ f in cc)
not_in_set a false e f = refl

pub one_more : {A : Type 0} (s n : BTreeSet (Bor (List ℕ))) (key : Bor (List ℕ)) (front : List (List ℕ × A)) (x : A)
    → sorted.Updates (λ x y. slice_cmp nat_cmp x.now y.now) s n key true
    → ((q : List ℕ) → has s q ≡ list_any (bytes_eq q) (keys front)) → (q : List ℕ)
    → has n q ≡ list_any (bytes_eq q) (keys (front ++ (key.now, x) ∷ []))
one_more s n key front x up h q =
    let b : Bor (List ℕ) = record { ref_ptr = (0, 0); now = q } in
    up.0 b ∙ rw (
      is_eq-slice_cmp key.now q,
      h q,
      flipped key.now q,
      map_push (λ p. p.0) front (key.now, x),
      list_any-append (bytes_eq q)
          (keys front) (key.now ∷ []),
    )
    (either (bytes_eq q key.now) (list_any (bytes_eq q) (keys front)))

module _ {A : Type 0} (total : ℕ) (value : List ℕ → Read A) (front : List (List ℕ × A)) (count i : ℕ) (bytes : List ℕ)
    (all : Read (List (List ℕ × A)))
    (lt : i < count) (so_far : with_front front (pairs_at total value (keys front) (count - i) bytes) ≡ all) where
  left : count - i ≡ suc (count - (i + 1))
  left = omega arith

  pub key_fails : (err : PackError) → Fails err (key_at total bytes) → Fails err all
  unfolding pairs_at
  key_fails err h = fails_on err (key_at total bytes) all (λ f. let e : with_front front
      (pairs_at total value (keys front) (count - i) bytes) ≡ Err err = rw (left, f) refl in sym so_far ∙ e) h

  pub repeats : (key after : List ℕ) → key_at total bytes ≡ Ok (key, after) → list_any (bytes_eq key) (keys front) ≡ true
      → all ≡ Err (RepeatedKey (total - length bytes))
  unfolding pairs_at
  repeats key after k r = let e : with_front front (pairs_at total value (keys front) (count - i) bytes)
      ≡ Err (RepeatedKey (total - length bytes)) = rw (left, k, r) refl in sym so_far ∙ e

  pub value_fails : (key after : List ℕ) (err : PackError) → key_at total bytes ≡ Ok (key, after)
      → list_any (bytes_eq key) (keys front) ≡ false → Fails err (value after) → Fails err all
  unfolding pairs_at
  value_fails key after err k r h = fails_on err (value after) all
      (λ f. let e : with_front front (pairs_at total value (keys front) (count - i) bytes) ≡ Err err =
      rw (left, k, r, f) refl in sym so_far ∙ e) h

  pub goes_on : (key after : List ℕ) (x : A) (rest : List ℕ) → key_at total bytes ≡ Ok (key, after)
      → list_any (bytes_eq key) (keys front) ≡ false → value after ≡ Ok (x, rest)
      → with_front (front ++ (key, x) ∷ []) (pairs_at total value (keys (front ++ (key, x) ∷ [])) (count - (i + 1)) rest) ≡ all
  unfolding pairs_at
  goes_on key after x rest k r f =
      let tail : Read (List (List ℕ × A)) = pairs_at total value (keys front ++ key ∷ []) (count - (i + 1)) rest in
      let e : with_front front (pairs_at total value (keys front) (count - i) bytes) ≡ with_front (front ++ (key, x) ∷ []) tail =
      rw (left, k, r, f) (regroup front (key, x) tail) in
      rw (map_push (λ p. p.0) front (key, x)) (sym e ∙ so_far)

pub is_done : {A : Type 0} (total : ℕ) (value : List ℕ → Read A) (front : List (List ℕ × A)) (count i : ℕ) (bytes : List ℕ)
    (all : Read (List (List ℕ × A))) → count ≤ i
    → with_front front (pairs_at total value (keys front) (count - i) bytes) ≡ all → all ≡ Ok (front, bytes)
unfolding pairs_at
is_done total value front count i bytes all le so_far =
    let k : count - i ≡ 0 = omega arith in
    let e : with_front front (pairs_at total value (keys front) (count - i) bytes) ≡ Ok (front, bytes) =
    rw k (ap (λ (ns : List (List ℕ × _)). Ok (ns, bytes)) (append-nil front)) in
    sym so_far ∙ e
