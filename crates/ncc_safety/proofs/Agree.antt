-- Logs that agree up to a place, item by item.
use Rattle.std.proofs.Common.{◌≡◌, ℕ, zero, suc, ◌+◌, ◌<◌, ◌≤◌, Bool, true, false, nat_eq, if◌then◌else◌, List, [], ◌∷◌, ◌++◌, length, take, drop, slice_get, Some, None, ◌⊎◌, refl, sym, ap, ◌∙◌, inl, inr, arith}
use Rattle.std.proofs.lemmas.Bool.{eqb-true, eqb-false}
use Rattle.std.proofs.lemmas.Option.{slice_get_within}
use Rattle.ncc_tx.specs.declared.entry.Item.{Item}
use Rattle.ncc_raft.specs.Logs.{merged, accepted}
use Rattle.ncc_safety.specs.Lists.{Agree, IsCut}

pub get_some : (xs : List Item) (k : ℕ) → k < length xs → (x : Item) × (slice_get xs k ≡ Some x)
get_some [] k l = absurd (omega arith)
get_some (x ∷ xs) zero l = (x, refl)
get_some (x ∷ xs) (suc k) l = get_some xs k (omega arith)

pub get_left : (xs ys : List Item) (k : ℕ) → k < length xs → slice_get (xs ++ ys) k ≡ slice_get xs k
get_left [] ys k l = absurd (omega arith)
get_left (x ∷ xs) ys zero l = refl
get_left (x ∷ xs) ys (suc k) l = get_left xs ys k (omega arith)

pub get_right : (xs ys : List Item) (k : ℕ) → slice_get (xs ++ ys) (length xs + k) ≡ slice_get ys k
get_right [] ys k = let e : 0 + k ≡ k = omega arith in rw e
get_right (x ∷ xs) ys k = let e : suc (length xs) + k ≡ suc (length xs + k) = omega arith in rw e (get_right xs ys k)

pub get_take : (n : ℕ) (xs : List Item) (k : ℕ) (x : Item) → slice_get (take n xs) k ≡ Some x → slice_get xs k ≡ Some x
get_take zero xs k x e = absurd (cc)
get_take (suc n) [] k x e = absurd (cc)
get_take (suc n) (y ∷ xs) zero x e = e
get_take (suc n) (y ∷ xs) (suc k) x e = get_take n xs k x e

pub get_drop : (n : ℕ) (xs : List Item) (k : ℕ) → slice_get (drop n xs) k ≡ slice_get xs (n + k)
get_drop zero xs k = let e : 0 + k ≡ k = omega arith in rw e
get_drop (suc n) [] k = refl
get_drop (suc n) (y ∷ xs) k = let e : suc n + k ≡ suc (n + k) = omega arith in rw e (get_drop n xs k)

pub longer : (xs ys : List Item) → ((k : ℕ) (x : Item) → slice_get xs k ≡ Some x → slice_get ys k ≡ Some x) → length xs ≤ length ys
longer [] ys h = omega arith
longer (x ∷ xs) [] h = let e = h 0 x refl in absurd (cc)
longer (x ∷ xs) (y ∷ ys) h = let l = longer xs ys (λ k z e. h (suc k) z e) in omega arith

pub take_same : (p : ℕ) (xs ys : List Item) → p ≤ length xs → Agree p xs ys → take p xs ≡ take p ys
take_same zero xs ys l h = refl
take_same (suc p) [] ys l h = absurd (omega arith)
take_same (suc p) (x ∷ xs) [] l h = let e = h 0 (omega arith) in absurd (cc)
take_same (suc p) (x ∷ xs) (y ∷ ys) l h =
    let e = h 0 (omega arith) in
    let r = take_same p xs ys (omega arith) (λ k q. h (suc k) (omega arith)) in
    let xy : x ≡ y = cc in
    rw (xy, r)

-- at one place, two items of one term are the same item
abbrev pub Matching : List Item → List Item → Type 0
Matching xs ys = (k : ℕ) (x y : Item) → slice_get xs k ≡ Some x → slice_get ys k ≡ Some y → x.term ≡ y.term → x ≡ y

-- the old list was cut at its first item that differs
pub record Cutoff (new old : List Item) (n : ℕ) (whole : List Item) : Type 0 where
  pub place : ℕ
  pub below : place < n
  pub differs : slice_get old place ≡ slice_get whole place → ⊥
  pub size : length new ≡ n
  pub agree : Agree n new whole

abbrev pub Joined : List Item → List Item → ℕ → List Item → Type 0
Joined new old n whole = ((new ≡ old) × Agree n old whole) ⊎ Cutoff new old n whole

cut_agree : (items whole : List Item) → IsCut whole 0 items → Agree (length items) items whole
cut_agree items whole h k l =
    let s = get_some items k l in
    let e : 0 + k ≡ k = omega arith in
    s.1 ∙ sym (rw e at (h k s.0 s.1))

joined_cons : (new old : List Item) (n : ℕ) (whole : List Item) (x y : Item) → x ≡ y → Joined new old n whole →
    Joined (x ∷ new) (x ∷ old) (suc n) (y ∷ whole)
joined_cons new old n whole x y e (inl h) = inl (ap (λ l. x ∷ l) h.0, agree)
  where
    agree : Agree (suc n) (x ∷ old) (y ∷ whole)
    agree zero l = ap Some e
    agree (suc k) l = h.1 k (omega arith)
joined_cons new old n whole x y e (inr h) =
    inr (record { place = suc h.place; below = let b = h.below in omega arith; differs = h.differs; size = ap suc h.size; agree = agree })
  where
    agree : Agree (suc n) (x ∷ new) (y ∷ whole)
    agree zero l = ap Some e
    agree (suc k) l = h.agree k (omega arith)

merged_joined : (old items whole : List Item) → Matching old whole → IsCut whole 0 items →
    Joined (merged old items) old (length items) whole
unfolding merged
merged_joined old [] whole m c = inl (refl, λ k l. absurd (omega arith))
merged_joined [] (x ∷ xs) whole m c =
    let f : slice_get whole 0 ≡ Some x = c 0 x refl in
    inr (record { place = 0; below = omega arith; differs = λ e. absurd (cc); size = refl; agree = cut_agree (x ∷ xs) whole c })
merged_joined (o ∷ os) (x ∷ xs) [] m c = let f : None ≡ Some x = c 0 x refl in absurd (cc)
merged_joined (o ∷ os) (x ∷ xs) (y ∷ ys) m c = go (nat_eq o.term x.term) refl (λ a b. merged_joined os xs ys a b)
  where
    yx : y ≡ x
    yx = let f : Some y ≡ Some x = c 0 x refl in cc

    tail_cut : IsCut ys 0 xs
    tail_cut k z e = let p : 0 + k ≡ k = omega arith in let q : 0 + suc k ≡ suc k = omega arith in rw p (rw q at (c (suc k) z e))

    go : (b : Bool) → (nat_eq o.term x.term) ≡ b → (Matching os ys → IsCut ys 0 xs → Joined (merged os xs) os (length xs) ys) →
        Joined (if b then o ∷ merged os xs else x ∷ xs) (o ∷ os) (suc (length xs)) (y ∷ ys)
    go true e rec =
        let oy : o ≡ y = m 0 o y refl refl (eqb-true o.term x.term e ∙ ap (λ (z : Item). z.term) (sym yx)) in
        joined_cons (merged os xs) os (length xs) ys o y oy (rec (λ k a b p q r. m (suc k) a b p q r) tail_cut)
    go false e rec = inr (record {
      place = 0;
      below = omega arith;
      differs = λ (q : Some o ≡ Some y). let oy : o ≡ y = cc in
          eqb-false o.term x.term e (ap (λ (z : Item). z.term) (oy ∙ yx));
      size = refl;
      agree = cut_agree (x ∷ xs) (y ∷ ys) c;
    })

pub accepted_joined : (old : List Item) (p : ℕ) (items whole : List Item) → p ≤ length old → Agree p old whole → Matching old whole →
    IsCut whole p items → Joined (accepted old p items) old (p + length items) whole
unfolding accepted
accepted_joined old zero items whole l a m c = let e : 0 + length items ≡ length items = omega arith in
    rw e (merged_joined old items whole m c)
accepted_joined [] (suc p) items whole l a m c = absurd (omega arith)
accepted_joined (o ∷ os) (suc p) items [] l a m c = let f : Some o ≡ None = a 0 (omega arith) in absurd (cc)
accepted_joined (o ∷ os) (suc p) items (y ∷ ys) l a m c =
    let oy : o ≡ y = let f : Some o ≡ Some y = a 0 (omega arith) in cc in
    let e : suc p + length items ≡ suc (p + length items) = omega arith in
    let tail_cut : IsCut ys p items = λ k z q. let r : suc p + k ≡ suc (p + k) = omega arith in rw r at (c k z q) in
    rw e (joined_cons (take p os ++ merged (drop p os) items) os (p + length items) ys o y oy
    (accepted_joined os p items ys (omega arith) (λ k q. a (suc k) (omega arith)) (λ k x z q r s. m (suc k) x z q r s) tail_cut))

pub cut_fits : (whole : List Item) (p : ℕ) (items : List Item) → p ≤ length whole → IsCut whole p items → p + length items ≤ length whole
cut_fits whole p [] l c = omega arith
cut_fits whole p (x ∷ xs) l c =
    let s = get_some (x ∷ xs) (length xs) (omega arith) in
    let w = slice_get_within whole (p + length xs) s.0 (c (length xs) s.0 s.1) in
    omega arith
