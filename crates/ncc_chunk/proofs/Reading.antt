-- Every stream can be read.
use Rattle.std.proofs.Common.{◌≡◌, ℕ, ◌+◌, List, [], ◌∷◌, length, ◌⊎◌, inl, inr, refl, subst, arith}
use Rattle.std.proofs.lemmas.Bool.{cases_lt}
use Rattle.ncc_chunk.specs.declared.dechunker.Position.{Position}
use Rattle.ncc_chunk.specs.declared.dechunker.Position.TheVariants.{Between, InHead, InBody, Stopped}
use Rattle.ncc_chunk.specs.Chunks.{size_of, limit, EndsAfter, IsTooLongAfter}
use Rattle.ncc_chunk.specs.Inflow.{Inflow, IsInBody, Holds}
use Rattle.ncc_chunk.specs.Keeping.{Took}
use Rattle.ncc_chunk.proofs.Steps.{begins_as, took_none, took_then, step_stopped, step_first, step_long, step_size, step_end, step_body}
use Rattle.ncc_chunk.proofs.Handing.{stands_new, missing_is, holds_fits, holds_long}

-- one more byte, by the place
one_byte : (a : Inflow) (p : Position) → a.place ≡ p → (b : ℕ) → (c : Inflow) × Took a (b ∷ []) c
one_byte a Between e b = (_, step_first a b e)
one_byte a (InHead h) e b = elim (cases_lt 0 (size_of h b)) [
  | inr none ↦ (_, step_end a h b e (omega arith))
  | inl some ↦ elim (cases_lt limit (length a.body + size_of h b)) [
    | inl long ↦ (_, step_long a h b e long)
    | inr fits ↦ (_, step_size a h b (size_of h b) e refl some fits)
  ]
]
one_byte a (InBody left) e b = elim (cases_lt 0 left) [
  | inl some ↦ (_, step_body a left (b ∷ []) e (omega arith))
  | inr none ↦ (
    a,
    record {
      stands = λ stream handed k. (let w : IsInBody left a.body k.rest = subst (λ p. Holds p a.body k.rest) e k.holds in
          let s = w.some_left in absurd (omega arith));
      begins = begins_as a;
    },
  )
]
one_byte a Stopped e b = (a, step_stopped a (b ∷ []) e)

-- all of a stream
all_bytes : (a : Inflow) (xs : List ℕ) → (c : Inflow) × Took a xs c
all_bytes a [] = (a, took_none a)
all_bytes a (x ∷ xs) =
    let s = one_byte a a.place refl x in
    let r = all_bytes s.0 xs in
    (r.0, took_then a s.0 r.0 (x ∷ []) xs s.1 r.1)

pub reading : (stream : List ℕ) → (messages : List (List ℕ)) × (EndsAfter stream messages ⊎ IsTooLongAfter stream messages)
reading stream =
    let r = all_bytes (record { ready = []; body = []; place = Between }) stream in
    let k = r.1.stands [] [] stands_new in (
      r.0.ready,
      elim (missing_is r.0.place) [
        | inl e ↦ inl (k.rest, k.framed, holds_fits r.0.place r.0.body k.rest e k.holds)
        | inr e ↦ inr (k.rest, k.framed, holds_long r.0.place r.0.body k.rest e k.holds)
      ],
    )
