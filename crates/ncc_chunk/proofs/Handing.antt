-- When a message is handed out, and why not.
use Rattle.std.proofs.Common.{◌≡◌, ℕ, ◌<◌, Some, None, List, [], ◌∷◌, ◌++◌, length, drop, ◌⊎◌, inl, inr, refl, sym, ap, subst, ◌∙◌}
use Rattle.std.proofs.Common.{append-nil, length-append, arith}
use Rattle.std.proofs.lemmas.List.{append_cancel_left}
use Rattle.ncc_chunk.specs.declared.dechunker.Position.{Position}
use Rattle.ncc_chunk.specs.declared.dechunker.Position.TheVariants.{Between, InHead, InBody, Stopped}
use Rattle.ncc_chunk.specs.declared.dechunker.Dechunk.TheVariants.{Again, TooLong}
use Rattle.ncc_chunk.specs.Chunks.{none, Framed, nothing, PastLimit, EndsAfter, IsTooLongAfter, IsNextAfter, IsBetweenMessages}
use Rattle.ncc_chunk.specs.Inflow.{Inflow, IsBetween, Holds, Stands, IsPastLimit}
use Rattle.ncc_chunk.specs.Keeping.{missing_at, first_of}
use Rattle.ncc_chunk.proofs.Framing.{framed_same, not_past_cut}
use Rattle.ncc_chunk.proofs.Steps.{chunks_in_none, chunks_of_none, holds_none}

pub first_some : (xs : List (List ℕ)) (m : List ℕ) → Some m ≡ first_of xs → xs ≡ m ∷ drop 1 xs
first_some [] m e = absurd (cc)
first_some (x ∷ xs) m e = let h : m ≡ x = cc in rw h refl

pub first_none : (xs : List (List ℕ)) → None ≡ first_of xs → xs ≡ []
first_none [] e = refl
first_none (x ∷ xs) e = absurd (cc)

-- lists are no longer than themselves
not_longer : (xs ys : List (List ℕ)) (y : List ℕ) → xs ≡ xs ++ y ∷ ys → ⊥
not_longer xs ys y e = let l = simp length-append at (ap length e) in omega arith

-- while a message is ready
module _ (a : Inflow) (m : List ℕ) (ms : List (List ℕ)) (is : a.ready ≡
    m ∷ ms) (stream : List ℕ) (handed : List (List ℕ)) (k : Stands a stream handed) where
  framed : Framed stream (handed ++ m ∷ ms) k.rest
  framed = subst (λ (r : List (List ℕ)). Framed stream (handed ++ r) k.rest) is k.framed

  pub not_ends : EndsAfter stream handed → ⊥
  not_ends e = not_longer handed ms m (framed_same stream stream handed (handed ++ m ∷ ms) e.0 k.rest refl e.1 framed).0

  pub not_long : IsTooLongAfter stream handed → ⊥
  not_long e = not_longer handed ms m (framed_same stream stream handed (handed ++ m ∷ ms) e.0 k.rest refl e.1 framed).0

  pub whole_is : (message rest : List ℕ) (more : List (List ℕ)) → Framed stream (handed ++ message ∷ more) rest → m ≡ message
  whole_is message rest more f =
      let e = append_cancel_left handed (m ∷ ms) (message ∷ more)
      (framed_same stream stream (handed ++ m ∷ ms) (handed ++ message ∷ more) k.rest rest refl framed f).0 in cc

  pub next_after : IsNextAfter stream handed m
  next_after = (ms, k.rest, framed)

-- what is held below the limit is not past it
pub holds_fits : (p : Position) (body r : List ℕ) → missing_at p ≡ Again → Holds p body r → PastLimit r → ⊥
holds_fits Between body r e h o = let f = h.fits in not_past_cut body r [] h.whole tt (omega arith) (subst PastLimit (sym (append-nil r)) o)
holds_fits (InHead first) body r e h o = let f = h.fits in
    not_past_cut body h.chunks (first ∷ []) h.whole tt (omega arith) (subst PastLimit h.rest_is o)
holds_fits (InBody left) body r e h o =
    let f = h.fits in
    let l = h.left_is in
    let s = h.some_left in
    let b = ap length h.body_is in
    let p = length-append h.message h.part in
    not_past_cut h.message h.chunks (h.high ∷ h.low ∷ h.part) h.whole (omega arith) (omega arith) (subst PastLimit h.rest_is o)
holds_fits Stopped body r e h o = absurd (cc)

pub holds_long : (p : Position) (body r : List ℕ) → missing_at p ≡ TooLong → Holds p body r → PastLimit r
holds_long Between body r e h = absurd (cc)
holds_long (InHead _) body r e h = absurd (cc)
holds_long (InBody _) body r e h = absurd (cc)
holds_long Stopped body r e h = h

pub missing_is : (p : Position) → (missing_at p ≡ Again) ⊎ (missing_at p ≡ TooLong)
missing_is Between = inl refl
missing_is (InHead _) = inl refl
missing_is (InBody _) = inl refl
missing_is Stopped = inr refl

pub missing_stopped : (p : Position) → missing_at p ≡ TooLong → p ≡ Stopped
missing_stopped Between e = absurd (cc)
missing_stopped (InHead _) e = absurd (cc)
missing_stopped (InBody _) e = absurd (cc)
missing_stopped Stopped e = refl

-- behind a message that is too long the place is that
pub past_stopped : (a : Inflow) → IsPastLimit a → a.place ≡ Stopped
past_stopped a (stream, handed, k, e) = elim (missing_is a.place) [
  | inl h ↦ (
      let s = framed_same stream stream (handed ++ a.ready) (handed ++ a.ready) e.0 k.rest refl e.1 k.framed in
      absurd (holds_fits a.place a.body k.rest h k.holds (subst PastLimit s.1 e.2)))
  | inr h ↦ missing_stopped a.place h
]

-- while no message is ready
module _ (a : Inflow) (is : a.ready ≡ []) (stream : List ℕ) (handed : List (List ℕ)) (k : Stands a stream handed) where
  framed_all : Framed stream handed k.rest
  framed_all = subst (λ (r : List (List ℕ)). Framed stream r k.rest) (ap (λ r. handed ++ r) is ∙ append-nil handed) k.framed

  pub ends : missing_at a.place ≡ Again → EndsAfter stream handed
  ends e = (k.rest, framed_all, holds_fits a.place a.body k.rest e k.holds)

  pub long : missing_at a.place ≡ TooLong → IsTooLongAfter stream handed
  long e = (k.rest, framed_all, holds_long a.place a.body k.rest e k.holds)

  pub ends_back : EndsAfter stream handed → missing_at a.place ≡ Again
  ends_back e = elim (missing_is a.place) [
    | inl h ↦ h
    | inr h ↦ (let s = framed_same stream stream handed handed e.0 k.rest refl e.1 framed_all in
        absurd (e.2 (subst PastLimit (sym s.1) (holds_long a.place a.body k.rest h k.holds))))
  ]

  pub long_back : IsTooLongAfter stream handed → missing_at a.place ≡ TooLong
  long_back e = elim (missing_is a.place) [
    | inl h ↦ (let s = framed_same stream stream handed handed e.0 k.rest refl e.1 framed_all in
        absurd (holds_fits a.place a.body k.rest h k.holds (subst PastLimit s.1 e.2)))
    | inr h ↦ h
  ]

  pub not_whole : (message rest : List ℕ) (more : List (List ℕ)) → Framed stream (handed ++ message ∷ more) rest → ⊥
  not_whole message rest more f = not_longer handed more message
      (framed_same stream stream handed (handed ++ message ∷ more) k.rest rest refl framed_all f).0

-- nothing is held exactly where nothing has come
holds_nothing : (p : Position) (body r : List ℕ) → Holds p body r → r ≡ [] → (p ≡ Between) × (body ≡ [])
holds_nothing Between body r h e = (refl, chunks_in_none body r h.whole e)
holds_nothing (InHead first) body r h e = let l = simp length-append at (ap length (sym h.rest_is ∙ e)) in absurd (omega arith)
holds_nothing (InBody left) body r h e = let l = simp length-append at (ap length (sym h.rest_is ∙ e)) in absurd (omega arith)
holds_nothing Stopped body r h e = let l = simp length-append at (ap length (sym h.rest_is ∙ e)) in absurd (omega arith)

pub idle_is : (a : Inflow) → a.place ≡ Between → a.body ≡ [] → (stream : List ℕ) (handed : List (List ℕ)) → Stands a stream handed →
    IsBetweenMessages stream
idle_is a p b stream handed k =
    let w : IsBetween a.body k.rest = subst (λ p. Holds p a.body k.rest) p k.holds in
    (handed ++ a.ready, subst (λ (r : List ℕ). Framed stream (handed ++ a.ready) r) (chunks_of_none a.body k.rest w.whole b) k.framed)

pub idle_back : (a : Inflow) (stream : List ℕ) (handed : List (List ℕ)) → Stands a stream handed → IsBetweenMessages stream →
    (a.place ≡ Between) × (a.body ≡ [])
idle_back a stream handed k e = holds_nothing a.place a.body k.rest k.holds
    (framed_same stream stream (handed ++ a.ready) e.0 k.rest [] refl k.framed e.1).1

pub stands_new : Stands (record { ready = []; body = []; place = Between }) [] []
stands_new = record {
  rest = [];
  framed = nothing (holds_none Between [] [] (record { whole = none; fits = omega arith }));
  holds = record { whole = none; fits = omega arith };
}
