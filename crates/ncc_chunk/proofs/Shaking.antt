-- The handshake's answer and its bytes, as one more byte comes.
use Rattle.std.proofs.Common.{◌≡◌, ◌≢◌, ℕ, ◌<◌, ◌≤◌, Bool, true, false, cond, List, [], ◌∷◌, ◌++◌, length, take, ◌⊎◌, inl, inr}
use Rattle.std.proofs.Common.{refl, sym, ap, ◌∙◌, length-append, arith}
use Rattle.std.specs.Prelude.{nat_lt, bytes_eq}
use Rattle.std.specs.List.{list_any}
use Rattle.std.proofs.lemmas.Bool.{ltb-true, ltb-false, cases_lt}
use Rattle.std.proofs.Math.Seq.{take_all}
use Rattle.std.proofs.lemmas.List.{take-append-le, take-take, length-take}
use Rattle.ncc_chunk.specs.declared.handshake.Shake.{Shake}
use Rattle.ncc_chunk.specs.declared.handshake.Shake.TheVariants.{More, Chosen, BadMagic, NoVersion}
use Rattle.ncc_chunk.specs.Handshake.{magic, covers, proposals, answer_to, handshake_of}

-- the answer by its three tests: fewer than 4, the magic, fewer than 20, and a proposal that covers
more_by : (few whole less some : Bool) → cond few More (cond whole (cond less More (cond some Chosen NoVersion)) BadMagic) ≡ More →
    (few ≡ true) ⊎ ((whole ≡ true) × (less ≡ true))
more_by true whole less some e = inl refl
more_by false true true some e = inr (refl, refl)
more_by false true false true e = absurd (cc)
more_by false true false false e = absurd (cc)
more_by false false less some e = absurd (cc)

settled_by : (few whole less some : Bool) →
    cond few More (cond whole (cond less More (cond some Chosen NoVersion)) BadMagic) ≢ More → (few ≡ false)
    × ((whole ≡ false) ⊎ ((whole ≡ true) × (less ≡ false)))
settled_by true whole less some e = absurd (e refl)
settled_by false true true some e = absurd (e refl)
settled_by false true false some e = (refl, inr (refl, refl))
settled_by false false less some e = (refl, inl refl)

pub more_is : (b : List ℕ) → answer_to b ≡ More → (length b < 4) ⊎ ((bytes_eq (take 4 b) magic ≡ true) × (length b < 20))
more_is b e = elim (more_by (nat_lt (length b) 4) (bytes_eq (take 4 b) magic) (nat_lt (length b) 20) (list_any covers (proposals b)) e) [
  | inl h ↦ inl (ltb-true (length b) 4 h)
  | inr h ↦ inr (h.0, ltb-true (length b) 20 h.1)
]

pub settled_is : (b : List ℕ) → answer_to b ≢ More → (4 ≤ length b)
    × ((bytes_eq (take 4 b) magic ≡ false) ⊎ ((bytes_eq (take 4 b) magic ≡ true) × (20 ≤ length b)))
settled_is b e =
    let s = settled_by (nat_lt (length b) 4) (bytes_eq (take 4 b) magic) (nat_lt (length b) 20) (list_any covers (proposals b)) e in
    (ltb-false (length b) 4 s.0, elim s.1 [ inl h ↦ inl h | inr h ↦ inr (h.0, ltb-false (length b) 20 h.1) ])

-- less than 20 bytes have come where more are wanted
pub more_is_short : (b : List ℕ) → answer_to b ≡ More → length b < 20
more_is_short b e = elim (more_is b e) [ inl h ↦ omega arith | inr h ↦ h.1 ]

by_magic : (b : Bool) (x y : List ℕ) → b ≡ true → cond b x y ≡ x
by_magic true x y e = refl
by_magic false x y e = absurd (cc)

by_other : (b : Bool) (x y : List ℕ) → b ≡ false → cond b x y ≡ y
by_other false x y e = refl
by_other true x y e = absurd (cc)

magic_of : List ℕ → Bool
magic_of s = bytes_eq (take 4 s) magic

with_magic : (s : List ℕ) → magic_of s ≡ true → handshake_of s ≡ take 20 s
unfolding magic_of
with_magic s e = by_magic (bytes_eq (take 4 s) magic) (take 20 s) (take 4 s) e

with_other : (s : List ℕ) → magic_of s ≡ false → handshake_of s ≡ take 4 s
unfolding magic_of
with_other s e = by_other (bytes_eq (take 4 s) magic) (take 20 s) (take 4 s) e

magic_cases : (s : List ℕ) → (magic_of s ≡ true) ⊎ (magic_of s ≡ false)
magic_cases s = elim (magic_of s) as (λ b. (b ≡ true) ⊎ (b ≡ false)) [ true ↦ inl refl | false ↦ inr refl ]

-- the magic stands in the first four bytes
magic_front : (a b : List ℕ) → take 4 a ≡ take 4 b → magic_of a ≡ magic_of b
unfolding magic_of
magic_front a b e = ap (λ v. bytes_eq v magic) e

-- Up to its end a handshake is what came.
handshake_cases : (s : List ℕ) → ((magic_of s ≡ true) × (handshake_of s ≡ take 20 s)) ⊎ ((magic_of s ≡ false) × (handshake_of s ≡ take 4 s))
handshake_cases s = elim (magic_cases s) [ inl e ↦ inl (e, with_magic s e) | inr e ↦ inr (e, with_other s e) ]

more_is_of : (b : List ℕ) → answer_to b ≡ More → (length b < 4) ⊎ ((magic_of b ≡ true) × (length b < 20))
unfolding magic_of
more_is_of b e = more_is b e

settled_is_of : (b : List ℕ) → answer_to b ≢ More → (4 ≤ length b) × ((magic_of b ≡ false) ⊎ ((magic_of b ≡ true) × (20 ≤ length b)))
unfolding magic_of
settled_is_of b e = settled_is b e

clash : (b : Bool) → b ≡ true → b ≡ false → ⊥
clash b e f = cc

-- where more are wanted, the handshake is all that came
pub whole_where_more : (s : List ℕ) → answer_to (handshake_of s) ≡ More → handshake_of s ≡ s
whole_where_more s e = elim (handshake_cases s) [
  | inl h ↦ (
      let l = length-take 20 s in
      let k = ap length h.1 in
      h.1 ∙ take_all 20 s (let m = more_is_short (handshake_of s) e in omega arith))
  | inr h ↦ (
      let l = length-take 4 s in
      let k = ap length h.1 in
      let front : take 4 (handshake_of s) ≡ take 4 s = ap (take 4) h.1 ∙ take-take 4 4 s (omega arith) in
      elim (more_is_of (handshake_of s) e) [
        | inl m ↦ h.1 ∙ take_all 4 s (omega arith)
        | inr m ↦ absurd (clash (magic_of s) (sym (magic_front (handshake_of s) s front) ∙ m.0) h.0)
      ])
]

-- once it is settled, what comes behind changes nothing
pub same_where_settled : (s x : List ℕ) → answer_to (handshake_of s) ≢ More → handshake_of (s ++ x) ≡ handshake_of s
same_where_settled s x e =
    let t = settled_is_of (handshake_of s) e in
    elim (handshake_cases s) [
      | inl h ↦ (
          let l = length-take 20 s in
          let k = ap length h.1 in
          let front : take 4 (handshake_of s) ≡ take 4 s = ap (take 4) h.1 ∙ take-take 4 20 s (omega arith) in
          elim t.1 [
            | inl m ↦ absurd (clash (magic_of s) h.0 (sym (magic_front (handshake_of s) s front) ∙ m))
            | inr m ↦ (let long = m.1 in with_magic (s ++ x) (magic_front (s ++ x) s (take-append-le 4 s x (omega arith)) ∙ h.0)
                ∙ take-append-le 20 s x (omega arith) ∙ sym h.1)
          ])
      | inr h ↦ (
          let l = length-take 4 s in
          let k = ap length h.1 in
          let long = t.0 in
          with_other (s ++ x) (magic_front (s ++ x) s (take-append-le 4 s x (omega arith)) ∙ h.0)
          ∙ take-append-le 4 s x (omega arith) ∙ sym h.1)
    ]

-- where more are wanted, one more byte is taken
pub one_more : (b : List ℕ) (y : ℕ) → answer_to b ≡ More → handshake_of (b ++ y ∷ []) ≡ b ++ y ∷ []
one_more b y e =
    let l = length-append b (y ∷ []) in
    elim (more_is_of b e) [
      | inl m ↦ elim (handshake_cases (b ++ y ∷ [])) [
        | inl h ↦ h.1 ∙ take_all 20 (b ++ y ∷ []) (omega arith)
        | inr h ↦ h.1 ∙ take_all 4 (b ++ y ∷ []) (omega arith)
      ]
      | inr m ↦ (let short = m.1 in elim (handshake_cases (b ++ y ∷ [])) [
        | inl h ↦ h.1 ∙ take_all 20 (b ++ y ∷ []) (omega arith)
        | inr h ↦ elim (cases_lt (length b) 4) [
          | inl few ↦ h.1 ∙ take_all 4 (b ++ y ∷ []) (omega arith)
          | inr some ↦ absurd (clash (magic_of b) m.0 (sym (magic_front (b ++ y ∷ []) b (take-append-le 4 b (y ∷ []) some)) ∙ h.0))
        ]
      ])
    ]

-- a handshake is its own
handshake_twice : (s : List ℕ) → handshake_of (handshake_of s) ≡ handshake_of s
handshake_twice s = elim (handshake_cases s) [
  | inl h ↦ (let front : take 4 (handshake_of s) ≡ take 4 s = ap (take 4) h.1 ∙ take-take 4 20 s (omega arith) in
      with_magic (handshake_of s) (magic_front (handshake_of s) s front ∙ h.0) ∙ ap (take 20) h.1 ∙ take-take 20 20 s (omega arith)
      ∙ sym h.1)
  | inr h ↦ (let front : take 4 (handshake_of s) ≡ take 4 s = ap (take 4) h.1 ∙ take-take 4 4 s (omega arith) in
      with_other (handshake_of s) (magic_front (handshake_of s) s front ∙ h.0) ∙ front ∙ sym h.1)
]

is_more : (s : Shake) → (s ≡ More) ⊎ (s ≢ More)
is_more More = inl refl
is_more Chosen = inr (λ e. cc)
is_more BadMagic = inr (λ e. cc)
is_more NoVersion = inr (λ e. cc)

pub goes_on : (s x : List ℕ) → handshake_of (handshake_of s ++ x) ≡ handshake_of (s ++ x)
goes_on s x = elim (is_more (answer_to (handshake_of s))) [
  | inl e ↦ ap (λ v. handshake_of (v ++ x)) (whole_where_more s e)
  | inr e ↦ same_where_settled (handshake_of s) x (λ m. e (ap answer_to (sym (handshake_twice s)) ∙ m)) ∙ handshake_twice s
      ∙ sym (same_where_settled s x e)
]
