-- What a dechunker keeps, and which streams it stands for (Bolt Protocol message specification, the section on chunking).
use Rattle.std.specs.Prelude.{◌≡◌, ℕ, ◌+◌, ◌<◌, ◌≤◌, List, [], ◌∷◌, ◌++◌, length, ◌↔◌}
use Rattle.ncc_chunk.specs.declared.dechunker.Position.{Position}
use Rattle.ncc_chunk.specs.declared.dechunker.Position.TheVariants.{Between, InHead, InBody, Stopped}
use Rattle.ncc_chunk.specs.Chunks.{Chunks, Framed, PastLimit, IsTooLongAfter, size_of, limit}

-- what a dechunker keeps: none of the stream's bytes but bodies, and at most one byte of a head
pub record Inflow : Type 0 where
  -- whole messages that are not yet handed out
  pub ready : List (List ℕ)
  -- the bodies of the next message's chunks, as far as they have come
  pub body : List ℕ
  pub place : Position

-- The rest is whole chunks and a part of one more, and these are the bodies in it. So many bytes of the last are still to come.
pub record IsInBody (left : ℕ) (body rest : List ℕ) : Type 0 where
  pub message : List ℕ
  pub chunks : List ℕ
  pub high : ℕ
  pub low : ℕ
  pub part : List ℕ
  pub whole : Chunks message chunks
  pub rest_is : rest ≡ chunks ++ high ∷ low ∷ part
  pub body_is : body ≡ message ++ part
  pub left_is : length part + left ≡ size_of high low
  pub some_left : 0 < left
  pub fits : length body + left ≤ limit

-- The rest is whole chunks and the first byte of a head.
pub record IsInHead (first : ℕ) (body rest : List ℕ) : Type 0 where
  pub chunks : List ℕ
  pub whole : Chunks body chunks
  pub rest_is : rest ≡ chunks ++ first ∷ []
  pub fits : length body ≤ limit

-- The rest is whole chunks.
pub record IsBetween (body rest : List ℕ) : Type 0 where
  pub whole : Chunks body rest
  pub fits : length body ≤ limit

-- what has come of the next message, by the place in it
abbrev pub Holds : Position → List ℕ → List ℕ → Type 0
Holds Between body rest = IsBetween body rest
Holds (InHead first) body rest = IsInHead first body rest
Holds (InBody left) body rest = IsInBody left body rest
Holds Stopped body rest = PastLimit rest

-- The dechunker has been fed this stream and has handed out these messages: the stream is them, those that are ready, and what is held.
pub record Stands (state : Inflow) (stream : List ℕ) (handed : List (List ℕ)) : Type 0 where
  pub rest : List ℕ
  pub framed : Framed stream (handed ++ state.ready) rest
  pub holds : Holds state.place state.body rest

-- With this piece behind a stream that the one stands for, the other stands for it.
abbrev pub Feeds : Inflow → List ℕ → Inflow → Type 0
Feeds old piece new =
    (stream : List ℕ) (handed : List (List ℕ)) → Stands old stream handed → Stands new (stream ++ piece) handed

-- With this message behind those that the one handed out, the other handed out them.
abbrev pub HandsOut : Inflow → List ℕ → Inflow → Type 0
HandsOut old message new =
    (stream : List ℕ) (handed : List (List ℕ)) → Stands old stream handed → Stands new stream (handed ++ message ∷ [])

-- It is so exactly where this holds of the stream that was fed and the messages that were handed out.
abbrev pub ExactlyAt : (List ℕ → List (List ℕ) → Type 0) → Inflow → Type 0 → Type 0
ExactlyAt P state answer = (stream : List ℕ) (handed : List (List ℕ)) → Stands state stream handed → (answer ↔ P stream handed)

-- Behind the messages that are ready comes one that is too long.
abbrev pub IsPastLimit : Inflow → Type 0
IsPastLimit state =
    (stream : List ℕ) × (handed : List (List ℕ)) × Stands state stream handed × IsTooLongAfter stream (handed ++ state.ready)
