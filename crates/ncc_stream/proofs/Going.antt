-- The laws of going on.
use Rattle.std.proofs.Common.{◌≡◌, ℕ, zero, suc, ◌+◌, ◌≤◌, Option, Some, None, List, ◌++◌, length, refl, sym, ap, ◌∙◌, append_assoc, arith}
use Rattle.ncc_stream.specs.Stream.{Stand, Move, IsLawful, further, behind, still, run, going, going_on}

pub at_none : {C E F W : Type 0} (move : Move C E F W) (n : ℕ) (c : C) (xs : List E) (fs : List F) → move c xs fs ≡ None
    → run move n c xs fs ≡ still c xs fs
unfolding run
at_none move zero c xs fs h = refl
at_none move (suc n) c xs fs h = rw (h, run) refl

pub at_some : {C E F W : Type 0} (move : Move C E F W) (n : ℕ) (c : C) (xs : List E) (fs : List F) (t : Stand C E F W)
    → move c xs fs ≡ Some t → run move (suc n) c xs fs ≡ behind t.written (run move n t.core t.items t.facts)
unfolding run
at_some move n c xs fs t h = rw (h, run) refl

pub behind_twice : {C E F W : Type 0} (a b : List W) (r : Stand C E F W) → behind a (behind b r) ≡ behind (a ++ b) r
behind_twice a b r =
    ap (λ w. record { core = r.core; items = r.items; facts = r.facts; written = w }) (sym (append_assoc a b r.written))

module _ {C E F W : Type 0} (move : Move C E F W) (lawful : IsLawful move) where
  enough_at : (n m : ℕ) (c : C) (xs : List E) (fs : List F) (o : Option (Stand C E F W)) → move c xs fs ≡ o
      → ((k : ℕ) (d : C) (ys : List E) (gs : List F) → length ys + length gs ≤ n → length ys + length gs ≤ k
      → run move n d ys gs ≡ run move k d ys gs)
      → length xs + length fs ≤ suc n → length xs + length fs ≤ m → run move (suc n) c xs fs ≡ run move m c xs fs
  enough_at n m c xs fs None e ih h k = at_none move (suc n) c xs fs e ∙ sym (at_none move m c xs fs e)
  enough_at n zero c xs fs (Some t) e ih h k = let s = lawful.shrinks c xs fs t e in absurd (omega arith)
  enough_at n (suc m) c xs fs (Some t) e ih h k =
      let s = lawful.shrinks c xs fs t e in
      at_some move n c xs fs t e
      ∙ ap (behind t.written) (ih m t.core t.items t.facts (omega arith) (omega arith))
      ∙ sym (at_some move m c xs fs t e)

  none_left : (m : ℕ) (c : C) (xs : List E) (fs : List F) (o : Option (Stand C E F W)) → move c xs fs ≡ o
      → length xs + length fs ≤ 0 → run move zero c xs fs ≡ run move m c xs fs
  none_left m c xs fs None e h = at_none move zero c xs fs e ∙ sym (at_none move m c xs fs e)
  none_left m c xs fs (Some t) e h = let s = lawful.shrinks c xs fs t e in absurd (omega arith)

  -- fuel beyond what is left changes nothing
  pub enough : (n m : ℕ) (c : C) (xs : List E) (fs : List F) → length xs + length fs ≤ n → length xs + length fs ≤ m
      → run move n c xs fs ≡ run move m c xs fs
  enough zero m c xs fs h k = none_left m c xs fs (move c xs fs) refl h
  enough (suc n) m c xs fs h k = enough_at n m c xs fs (move c xs fs) refl (λ k d ys gs. enough n k d ys gs) h k

  pub going_none : (c : C) (xs : List E) (fs : List F) → move c xs fs ≡ None → going move c xs fs ≡ still c xs fs
  unfolding going
  going_none c xs fs e = at_none move (length xs + length fs) c xs fs e

  -- one move, and then the rest of them
  pub going_some : (c : C) (xs : List E) (fs : List F) (t : Stand C E F W) → move c xs fs ≡ Some t
      → going move c xs fs ≡ behind t.written (going move t.core t.items t.facts)
  unfolding going
  going_some c xs fs t e =
      let s = lawful.shrinks c xs fs t e in
      enough (length xs + length fs) (suc (length xs + length fs)) c xs fs (omega arith) (omega arith)
      ∙ at_some move (length xs + length fs) c xs fs t e
      ∙ ap (behind t.written)
      (enough (length xs + length fs) (length t.items + length t.facts) t.core t.items t.facts (omega arith) (omega arith))

  on_at : (n : ℕ) (c : C) (xs ys : List E) (fs gs : List F) (o : Option (Stand C E F W)) → move c xs fs ≡ o
      → ((d : C) (zs : List E) (hs : List F)
      → going move d (zs ++ ys) (hs ++ gs) ≡ going_on move (run move n d zs hs) ys gs)
      → going move c (xs ++ ys) (fs ++ gs) ≡ going_on move (run move (suc n) c xs fs) ys gs
  on_at n c xs ys fs gs None e ih = rw (at_none move (suc n) c xs fs e) refl
  on_at n c xs ys fs gs (Some t) e ih = rw (at_some move n c xs fs t e) (
      going_some c (xs ++ ys) (fs ++ gs) (further ys gs t) (lawful.extends c xs fs t ys gs e)
      ∙ ap (behind t.written) (ih t.core t.items t.facts)
      ∙ behind_twice t.written _ _)

  on_by : (n : ℕ) (c : C) (xs ys : List E) (fs gs : List F)
      → going move c (xs ++ ys) (fs ++ gs) ≡ going_on move (run move n c xs fs) ys gs
  unfolding run
  on_by zero c xs ys fs gs = refl
  on_by (suc n) c xs ys fs gs = on_at n c xs ys fs gs (move c xs fs) refl (λ d zs hs. on_by n d zs ys hs gs)

  -- the law of going on
  pub goes_on : (c : C) (xs ys : List E) (fs gs : List F)
      → going move c (xs ++ ys) (fs ++ gs) ≡ going_on move (going move c xs fs) ys gs
  unfolding going
  goes_on c xs ys fs gs = on_by (length xs + length fs) c xs ys fs gs

  no_more : (c : C) (xs : List E) (fs : List F) (o : Option (Stand C E F W)) → move c xs fs ≡ o
      → length xs + length fs ≤ 0 → move c xs fs ≡ None
  no_more c xs fs None e h = e
  no_more c xs fs (Some t) e h = let s = lawful.shrinks c xs fs t e in absurd (omega arith)

  rests_at : (n : ℕ) (c : C) (xs : List E) (fs : List F) (o : Option (Stand C E F W)) → move c xs fs ≡ o
      → ((d : C) (ys : List E) (gs : List F) → length ys + length gs ≤ n
      → let r = run move n d ys gs in move r.core r.items r.facts ≡ None)
      → length xs + length fs ≤ suc n → let r = run move (suc n) c xs fs in move r.core r.items r.facts ≡ None
  rests_at n c xs fs None e ih h = rw (at_none move (suc n) c xs fs e) e
  rests_at n c xs fs (Some t) e ih h =
      let s = lawful.shrinks c xs fs t e in
      rw (at_some move n c xs fs t e) (ih t.core t.items t.facts (omega arith))

  rests_by : (n : ℕ) (c : C) (xs : List E) (fs : List F) → length xs + length fs ≤ n
      → let r = run move n c xs fs in move r.core r.items r.facts ≡ None
  unfolding run
  rests_by zero c xs fs h = no_more c xs fs (move c xs fs) refl h
  rests_by (suc n) c xs fs h = rests_at n c xs fs (move c xs fs) refl (λ d ys gs. rests_by n d ys gs) h

  -- in the end no move is left
  pub comes_to_rest : (c : C) (xs : List E) (fs : List F)
      → let r = going move c xs fs in move r.core r.items r.facts ≡ None
  unfolding going
  comes_to_rest c xs fs = rests_by (length xs + length fs) c xs fs (omega arith)

  module _ (weight : C → List E → ℕ)
      (falls : (c : C) (xs : List E) (fs : List F) (t : Stand C E F W) → move c xs fs ≡ Some t → weight t.core t.items ≤ weight c xs) where
    falls_at : (n : ℕ) (c : C) (xs : List E) (fs : List F) (o : Option (Stand C E F W)) → move c xs fs ≡ o
        → ((d : C) (ys : List E) (gs : List F) → let r = run move n d ys gs in weight r.core r.items ≤ weight d ys)
        → let r = run move (suc n) c xs fs in weight r.core r.items ≤ weight c xs
    falls_at n c xs fs None e ih = rw (at_none move (suc n) c xs fs e) (omega arith)
    falls_at n c xs fs (Some t) e ih =
        let f = falls c xs fs t e in
        let i = ih t.core t.items t.facts in
        rw (at_some move n c xs fs t e) (omega arith)

    falls_by : (n : ℕ) (c : C) (xs : List E) (fs : List F) → let r = run move n c xs fs in weight r.core r.items ≤ weight c xs
    unfolding run
    falls_by zero c xs fs = omega arith
    falls_by (suc n) c xs fs = falls_at n c xs fs (move c xs fs) refl (λ d ys gs. falls_by n d ys gs)

    -- what falls with each move is no more in the end
    pub never_rises : (c : C) (xs : List E) (fs : List F) → let r = going move c xs fs in weight r.core r.items ≤ weight c xs
    unfolding going
    never_rises c xs fs = falls_by (length xs + length fs) c xs fs
