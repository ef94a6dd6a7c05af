-- What the places of keys and the set beside say stays true when a pair is added.
use Rattle.std.proofs.Common.{◌≡◌, ℕ, ◌<◌, ◌+◌, ◌-◌, zero, suc, take, Bool, true, false, cond, ◌||◌, List, [], ◌∷◌, ◌++◌, Option, Some, None, length, slice_get, nat_eq, nat_lt, ◌≤◌, refl, sym, ap, ◌∙◌, subst, replicate, arith}
use Rattle.std.proofs.Math.ListN.{set}
use Rattle.std.specs.Str.{bytes_eq}
use Rattle.std.proofs.lemmas.Slice.Eq.{bytes_eq-Decides}
use Rattle.std.proofs.lemmas.Bool.{eqb-true, eqb-false, ltb-false, ltb-true, false_from_ne_true}
use Rattle.std.proofs.lemmas.List.{length-append, length-set, length-replicate, get_or-replicate, get_or_append_left, get_or-set_same, get_or-set_other}
use Rattle.std.proofs.lemmas.Option.{slice_get-get_or, slice_get_within, slice_get_past}
use Rattle.std.proofs.Math.Seq.{get_or-append_seam}
use Rattle.ncc_cypher.specs.declared.tree.Pair.{Pair}
use Rattle.ncc_cypher.specs.Grammar.{Name, has}
use Rattle.ncc_cypher.specs.Slots.{place, has_key, is_at, is_free, kept_at, kept, HoldsAt, Holds}
use Rattle.ncc_cypher.proofs.Keys.{has_more}

-- ---- elements of lists

longer : {A : Type 0} (xs : List A) (y : A) → length (xs ++ y ∷ []) ≡ length xs + 1
longer xs y = length-append xs (y ∷ [])

get_more : {A : Type 0} (xs : List A) (y : A) (n : ℕ) → n < length xs → slice_get (xs ++ y ∷ []) n ≡ slice_get xs n
get_more xs y n lt =
    let more : n < length (xs ++ y ∷ []) = rw (longer xs y) (omega arith) in
    slice_get-get_or (xs ++ y ∷ []) n y more ∙ ap Some (get_or_append_left xs (y ∷ []) y n lt) ∙ sym (slice_get-get_or xs n y lt)

get_last : {A : Type 0} (xs : List A) (y : A) → slice_get (xs ++ y ∷ []) (length xs) ≡ Some y
get_last xs y =
    let more : length xs < length (xs ++ y ∷ []) = rw (longer xs y) (omega arith) in
    slice_get-get_or (xs ++ y ∷ []) (length xs) y more ∙ ap Some (get_or-append_seam xs y [] y)

get_set : {A : Type 0} (xs : List A) (i : ℕ) (y : A) → i < length xs → slice_get (set xs i y) i ≡ Some y
get_set xs i y lt =
    let still : i < length (set xs i y) = rw (length-set xs i y) lt in
    slice_get-get_or (set xs i y) i y still ∙ ap Some (get_or-set_same xs i y y lt)

get_other_in : {A : Type 0} (xs : List A) (i j : ℕ) (y : A) → (j ≡ i → ⊥) → j < length xs → slice_get (set xs i y) j ≡ slice_get xs j
get_other_in xs i j y ne lt =
    let still : j < length (set xs i y) = rw (length-set xs i y) lt in
    slice_get-get_or (set xs i y) j y still ∙ ap Some (get_or-set_other xs i j y y ne) ∙ sym (slice_get-get_or xs j y lt)

get_past : {A : Type 0} (xs : List A) (i j : ℕ) (y : A) → length xs ≤ j → slice_get (set xs i y) j ≡ slice_get xs j
get_past xs i j y le =
    let still : length (set xs i y) ≤ j = rw (length-set xs i y) le in
    slice_get_past (set xs i y) j still ∙ sym (slice_get_past xs j le)

get_other : {A : Type 0} (xs : List A) (i j : ℕ) (y : A) → (j ≡ i → ⊥) → slice_get (set xs i y) j ≡ slice_get xs j
get_other xs i j y ne = go (nat_lt j (length xs)) refl where
  go : (r : Bool) → nat_lt j (length xs) ≡ r → slice_get (set xs i y) j ≡ slice_get xs j
  go true e =
      let lt : j < length xs = ltb-true j (length xs) e in
      get_other_in xs i j y ne lt
  go false e =
      let le : length xs ≤ j = ltb-false j (length xs) e in
      get_past xs i j y le

-- ---- a pair is added

false_or : (a b : Bool) → a ≡ false → (a || b) ≡ b
false_or true b e = absurd cc
false_or false b e = refl

or_moves : (x o b h : Bool) → (x || o) ≡ h → (x || cond b true o) ≡ (h || b)
or_moves true o true h e = rw (sym e) refl
or_moves true o false h e = rw (sym e) refl
or_moves false true true h e = rw (sym e) refl
or_moves false true false h e = rw (sym e) refl
or_moves false false true h e = rw (sym e) refl
or_moves false false false h e = rw (sym e) refl

-- what a place says, where it keeps what it said and the set gets the key
besides : (s : Option (Option ℕ)) (ps : List Pair) (p : Pair) (q : Name) (other : Bool) → (is_free s ≡ true → bytes_eq p.key q ≡ false)
    → HoldsAt s other ps q → HoldsAt s (cond (bytes_eq p.key q) true other) (ps ++ p ∷ []) q
besides None ps p q other differs h = or_moves false other (bytes_eq p.key q) (has q ps) h ∙ sym (has_more q ps p)
besides (Some None) ps p q other differs h = (
  rw (differs refl) h.0,
  has_more q ps p ∙ false_or (has q ps) (bytes_eq p.key q) h.1 ∙ differs refl,
)
besides (Some (Some n)) ps p q other differs h = (
  rw (longer ps p) (omega (arith, h.0)),
  ap (λ (z : Option Pair). has_key z q || cond (bytes_eq p.key q) true other) (get_more ps p n h.0) ∙ or_moves (is_at ps n q) other (bytes_eq p.key q) (has q ps) h.1 ∙ sym (has_more q ps p),
)

-- the same, where the set stays and the key is another
stays : (s : Option (Option ℕ)) (ps : List Pair) (p : Pair) (q : Name) (other : Bool) → bytes_eq p.key q ≡ false
    → HoldsAt s other ps q → HoldsAt s other (ps ++ p ∷ []) q
stays s ps p q other e h =
    let same : cond (bytes_eq p.key q) true other ≡ other = rw e refl in
    subst (λ (z : Bool). HoldsAt s z (ps ++ p ∷ []) q) same (besides s ps p q other (λ _. e) h)

-- what a place says that was free and got the pair
fills : (s : Option (Option ℕ)) (ps : List Pair) (p : Pair) (q : Name) (other : Bool) → is_free s ≡ true
    → HoldsAt s other ps q → HoldsAt (Some (Some (length ps))) other (ps ++ p ∷ []) q
fills None ps p q other free h = absurd cc
fills (Some (Some n)) ps p q other free h = absurd cc
fills (Some None) ps p q other free h = (
  rw (longer ps p) (omega arith),
  ap (λ (z : Option Pair). has_key z q || other) (get_last ps p)
      ∙ ap (λ (z : Bool). bytes_eq p.key q || z) h.0
      ∙ or_none (bytes_eq p.key q)
      ∙ sym (has_more q ps p ∙ false_or (has q ps) (bytes_eq p.key q) h.1),
) where
  or_none : (b : Bool) → (b || false) ≡ b
  or_none true = refl
  or_none false = refl

-- ---- all places

kept_set : (taken : List Bool) (numbers : List ℕ) (i n : ℕ) → i < length taken → i < length numbers → kept (set taken i true) (set numbers i n) i ≡ Some (Some n)
kept_set taken numbers i n a b = rw (get_set taken i true a) (rw (get_set numbers i n b) refl)

kept_other : (taken : List Bool) (numbers : List ℕ) (i j n : ℕ) → (j ≡ i → ⊥) → kept (set taken i true) (set numbers i n) j ≡ kept taken numbers j
kept_other taken numbers i j n ne = rw (get_other taken i j true ne) (rw (get_other numbers i j n ne) refl)

abbrev place_of : List Bool → Name → ℕ
place_of taken q = place (length taken) q

-- keys of two places differ
apart : (taken : List Bool) (k q : Name) → (place_of taken k ≡ place_of taken q → ⊥) → bytes_eq k q ≡ false
apart taken k q ne = false_from_ne_true (bytes_eq k q) (λ t. ne (ap (place_of taken) ((bytes_eq-Decides k q).0 t)))

pub with_other : (taken : List Bool) (numbers : List ℕ) (ps : List Pair) (p : Pair) → is_free (kept taken numbers (place (length taken) p.key)) ≡ false → (q : Name) (other : Bool)
    → Holds taken numbers other ps q → Holds taken numbers (cond (bytes_eq p.key q) true other) (ps ++ p ∷ []) q
with_other taken numbers ps p full q other h =
    besides (kept taken numbers (place (length taken) q)) ps p q other (λ free. false_from_ne_true (bytes_eq p.key q) (λ t.
    let e : p.key ≡ q = (bytes_eq-Decides p.key q).0 t in
    let f : is_free (kept taken numbers (place (length taken) p.key)) ≡ is_free (kept taken numbers (place (length taken) q)) = ap (λ (z : Name). is_free (kept taken numbers (place (length taken) z))) e in
    no_both (sym full ∙ f ∙ free))) h where
      no_both : false ≡ true → ⊥
      no_both e = absurd cc

pub within : (taken : List Bool) (numbers : List ℕ) (i : ℕ) → is_free (kept taken numbers i) ≡ true → (i < length taken) × (i < length numbers)
within taken numbers i free = go (slice_get taken i) refl (slice_get numbers i) refl free where
  go : (b : Option Bool) → slice_get taken i ≡ b → (n : Option ℕ) → slice_get numbers i ≡ n → is_free (kept_at b n) ≡ true → (i < length taken) × (i < length numbers)
  go None e n f free = absurd cc
  go (Some true) e None f free = absurd cc
  go (Some false) e None f free = absurd cc
  go (Some true) e (Some n) f free = absurd cc
  go (Some false) e (Some n) f free = (slice_get_within taken i false e, slice_get_within numbers i n f)

pub with_first : (taken : List Bool) (numbers : List ℕ) (ps : List Pair) (p : Pair) → is_free (kept taken numbers (place (length taken) p.key)) ≡ true → (q : Name) (other : Bool)
    → Holds taken numbers other ps q → Holds (set taken (place (length taken) p.key) true) (set numbers (place (length taken) p.key) (length ps)) other (ps ++ p ∷ []) q
with_first taken numbers ps p free q other h =
    let at : ℕ = place (length taken) p.key in
    let many : length (set taken at true) ≡ length taken = length-set taken at true in
    subst (λ (n : ℕ). HoldsAt (kept (set taken at true) (set numbers at (length ps)) (place n q)) other (ps ++ p ∷ []) q) (sym many) (go (nat_eq (place (length taken) q) at) refl) where
      go : (r : Bool) → nat_eq (place (length taken) q) (place (length taken) p.key) ≡ r
          → HoldsAt (kept (set taken (place (length taken) p.key) true) (set numbers (place (length taken) p.key) (length ps)) (place (length taken) q)) other (ps ++ p ∷ []) q
      go true e =
          let same : place (length taken) q ≡ place (length taken) p.key = eqb-true (place (length taken) q) (place (length taken) p.key) e in
          let here : is_free (kept taken numbers (place (length taken) q)) ≡ true = rw same free in
          let room : (place (length taken) p.key < length taken) × (place (length taken) p.key < length numbers) = within taken numbers (place (length taken) p.key) free in
          let new : kept (set taken (place (length taken) p.key) true) (set numbers (place (length taken) p.key) (length ps)) (place (length taken) q) ≡ Some (Some (length ps))
          = rw same (kept_set taken numbers (place (length taken) p.key) (length ps) room.0 room.1) in
          subst (λ (z : Option (Option ℕ)). HoldsAt z other (ps ++ p ∷ []) q) (sym new) (fills (kept taken numbers (place (length taken) q)) ps p q other here h)
      go false e =
          let ne : place (length taken) q ≡ place (length taken) p.key → ⊥ = eqb-false (place (length taken) q) (place (length taken) p.key) e in
          let old : kept (set taken (place (length taken) p.key) true) (set numbers (place (length taken) p.key) (length ps)) (place (length taken) q) ≡ kept taken numbers (place (length taken) q)
          = kept_other taken numbers (place (length taken) p.key) (place (length taken) q) (length ps) ne in
          let differ : bytes_eq p.key q ≡ false = apart taken p.key q (λ f. ne (sym f)) in
          subst (λ (z : Option (Option ℕ)). HoldsAt z other (ps ++ p ∷ []) q) (sym old) (stays (kept taken numbers (place (length taken) q)) ps p q other differ h)

-- ---- what is found

pub found : (taken : List Bool) (numbers : List ℕ) (ps : List Pair) (q : Name) (other : Bool) (s : Option (Option ℕ)) → s ≡ kept taken numbers (place (length taken) q)
    → Holds taken numbers other ps q → HoldsAt s other ps q
found taken numbers ps q other s e h = rw e h

none_at : (n i : ℕ) (q : Name) → HoldsAt (kept (replicate n false) (replicate n 0) i) false [] q
none_at n i q = go (nat_lt i n) refl where
  got : {A : Type 0} (x : A) → i < n → slice_get (replicate n x) i ≡ Some x
  got x lt =
      let in_range : i < length (replicate n x) = rw (length-replicate n x) lt in
      slice_get-get_or (replicate n x) i x in_range ∙ ap Some (get_or-replicate n i x x lt)

  go : (r : Bool) → nat_lt i n ≡ r → HoldsAt (kept (replicate n false) (replicate n 0) i) false [] q
  go true e =
      let lt : i < n = ltb-true i n e in
      let free : kept (replicate n false) (replicate n 0) i ≡ Some None = rw (got false lt) (rw (got {A = ℕ} 0 lt) refl) in
      subst (λ (z : Option (Option ℕ)). HoldsAt z false [] q) (sym free) (refl, refl)
  go false e =
      let le : length (replicate n false) ≤ i = rw (length-replicate n false) (ltb-false i n e) in
      let none : kept (replicate n false) (replicate n 0) i ≡ None = rw (slice_get_past (replicate n false) i le) refl in
      subst (λ (z : Option (Option ℕ)). HoldsAt z false [] q) (sym none) refl

pub empty : (taken : List Bool) (numbers : List ℕ) (n : ℕ) (other : Bool) (ps : List Pair) (q : Name) → taken ≡ replicate n false → numbers ≡ replicate n 0 → other ≡ false → ps ≡ []
    → Holds taken numbers other ps q
empty taken numbers n other ps q a m b e = rw a (rw m (rw b (rw e (none_at n (place (length (replicate n false)) q) q))))

-- the same, with what the code has
pub first : (taken : List Bool) (numbers : List ℕ) (ps : List Pair) (p : Pair) (at n : ℕ) (now : List Pair) → at ≡ place (length taken) p.key → is_free (kept taken numbers at) ≡ true
    → n ≡ length ps → now ≡ ps ++ p ∷ [] → (q : Name) (other : Bool) → Holds taken numbers other ps q → Holds (set taken at true) (set numbers at n) other now q
first taken numbers ps p at n now e free f g q other h =
    rw e (rw f (rw g (with_first taken numbers ps p (subst (λ (z : ℕ). is_free (kept taken numbers z) ≡ true) e free) q other h)))

pub beside : (taken : List Bool) (numbers : List ℕ) (ps : List Pair) (p : Pair) (at : ℕ) (k : Name) (now : List Pair) (with_key : Bool) → at ≡ place (length taken) p.key
    → is_free (kept taken numbers at) ≡ false → p.key ≡ k → now ≡ ps ++ p ∷ [] → (q : Name) (other : Bool) → with_key ≡ cond (bytes_eq k q) true other
    → Holds taken numbers other ps q → Holds taken numbers with_key now q
beside taken numbers ps p at k now with_key e full f g q other w h =
    rw g (rw w (subst (λ (z : Name). Holds taken numbers (cond (bytes_eq z q) true other) (ps ++ p ∷ []) q) f
    (with_other taken numbers ps p (subst (λ (z : ℕ). is_free (kept taken numbers z) ≡ false) e full) q other h)))

take_none : {A : Type 0} (n : ℕ) → take {A = A} n [] ≡ []
take_none zero = refl
take_none (suc n) = refl

-- places that were made from none
pub filled : {A : Type 0} (x : A) (n m : ℕ) (xs all : List A) → xs ≡ [] → m ≡ 0 → all ≡ take n xs ++ replicate (n - m) x → all ≡ replicate n x
filled {A} x n m xs all a b e =
    let whole : n - m ≡ n = omega (arith, b) in
    e ∙ ap (λ (z : List A). take n z ++ replicate (n - m) x) a ∙ ap (λ (z : List A). z ++ replicate (n - m) x) (take_none n) ∙ ap (λ (k : ℕ). replicate k x) whole
