-- What the steps of a dechunker take and leave (Bolt Protocol message specification, the section on chunking). No public clause
-- speaks of it.
use Rattle.std.specs.Prelude.{◌≡◌, ℕ, zero, suc, ◌+◌, ◌-◌, ◌<◌, ◌≤◌, List, [], ◌∷◌, ◌++◌, length, drop, Option, Some, None}
use Rattle.ncc_chunk.specs.declared.dechunker.Dechunk.{Dechunk}
use Rattle.ncc_chunk.specs.declared.dechunker.Dechunk.TheVariants.{Again, TooLong}
use Rattle.ncc_chunk.specs.declared.dechunker.Position.{Position}
use Rattle.ncc_chunk.specs.declared.dechunker.Position.TheVariants.{Between, InBody, Stopped}
use Rattle.ncc_chunk.specs.Chunks.{limit}
use Rattle.ncc_chunk.specs.Inflow.{Inflow, Stands}

-- The lists begin with these, and then comes one that begins with the body.
abbrev pub Begins : List (List ℕ) → List ℕ → List (List ℕ) → Type 0
Begins _ _ [] = ⊥
Begins [] body (x ∷ xs) = (more : List ℕ) × (x ≡ body ++ more)
Begins (first ∷ ready) body (x ∷ xs) = (first ≡ x) × Begins ready body xs

-- From one state to the next these bytes were taken. What was kept before is still there, in front of what came.
pub record Took (before : Inflow) (bytes : List ℕ) (after : Inflow) : Type 0 where
  pub stands : (stream : List ℕ) (handed : List (List ℕ)) → Stands before stream handed → Stands after (stream ++ bytes) handed
  pub begins : Begins before.ready before.body (after.ready ++ after.body ∷ [])

-- So long a body is held at this place: within the limit, with what is still to come of a chunk's body, which is some.
abbrev pub IsWithin : Position → ℕ → Type 0
IsWithin (InBody left) held = (0 < left) × (held + left ≤ limit)
IsWithin _ held = held ≤ limit

-- the place in a body of which so many bytes are still to come
abbrev pub place_by : ℕ → Position
place_by zero = Between
place_by (suc n) = InBody (suc n)

-- after a part of a body, of which so many bytes were to come
abbrev pub grown : Inflow → ℕ → List ℕ → Inflow
grown state left part = record { ready = state.ready; body = state.body ++ part; place = place_by (left - length part) }

-- the messages, with one more where it is not empty
abbrev pub ready_with : List (List ℕ) → List ℕ → List (List ℕ)
ready_with ready [] = ready
ready_with ready (x ∷ xs) = ready ++ (x ∷ xs) ∷ []

-- after 00 00
abbrev pub ended : Inflow → Inflow
ended state = record { ready = ready_with state.ready state.body; body = []; place = Between }

-- why no message is ready
abbrev pub missing_at : Position → Dechunk
missing_at Stopped = TooLong
missing_at _ = Again

-- the first message, if there is one
abbrev pub first_of : List (List ℕ) → Option (List ℕ)
first_of [] = None
first_of (x ∷ xs) = Some x

-- after the first message was handed out
abbrev pub without_first : Inflow → Inflow
without_first state = record { ready = drop 1 state.ready; body = state.body; place = state.place }
