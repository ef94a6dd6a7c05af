-- Messages in chunks. From the section on chunking of the Bolt Protocol message specification.
use Rattle.std.specs.Prelude.{◌≡◌, ◌≢◌, ℕ, ◌+◌, ◌*◌, ◌<◌, ◌≤◌, List, [], ◌∷◌, ◌++◌, length}

-- the size that the two bytes of a chunk's head spell, the greater first
abbrev pub size_of : ℕ → ℕ → ℕ
size_of high low = 256 * high + low

-- The bytes are whole chunks, one after another, whose bodies join to the message. A chunk is a size, which is not 0, and so many bytes.
pub data Chunks : List ℕ → List ℕ → Type 0 where
  none : Chunks [] []
  chunk : (high low : ℕ) (body message bytes : List ℕ) → 0 < size_of high low → length body ≡ size_of high low →
      Chunks message bytes → Chunks (body ++ message) (high ∷ low ∷ body ++ bytes)

-- how many bytes a message has at most
abbrev pub limit : ℕ
limit = 1048576

-- The bytes are a message that is not too long: one or more chunks, and 00 00.
pub record Spells (message bytes : List ℕ) : Type 0 where
  pub chunks : List ℕ
  pub whole : Chunks message chunks
  pub not_empty : 0 < length message
  pub fits : length message ≤ limit
  pub ends : bytes ≡ chunks ++ 0 ∷ 0 ∷ []

-- The rest begins neither with a no-op, 00 00, nor with a whole message.
pub record HoldsNone (rest : List ℕ) : Type 0 where
  pub no_op : (more : List ℕ) → rest ≢ 0 ∷ 0 ∷ more
  pub message : (message bytes more : List ℕ) → Spells message bytes → rest ≢ bytes ++ more

-- The bytes are these messages, with no-ops before and between them, and then a rest that holds none.
pub data Framed : List ℕ → List (List ℕ) → List ℕ → Type 0 where
  nothing : {rest : List ℕ} → HoldsNone rest → Framed rest [] rest
  no_op : {bytes rest : List ℕ} {messages : List (List ℕ)} → Framed bytes messages rest → Framed (0 ∷ 0 ∷ bytes) messages rest
  message : (first spelled bytes : List ℕ) {rest : List ℕ} {messages : List (List ℕ)} → Spells first spelled →
      Framed bytes messages rest → Framed (spelled ++ bytes) (first ∷ messages) rest

-- The sizes of the chunks that the rest begins with pass the limit. A size counts once both bytes of its head have come.
pub record PastLimit (rest : List ℕ) : Type 0 where
  pub message : List ℕ
  pub chunks : List ℕ
  pub high : ℕ
  pub low : ℕ
  pub more : List ℕ
  pub whole : Chunks message chunks
  pub rest_is : rest ≡ chunks ++ high ∷ low ∷ more
  pub past : limit < length message + size_of high low

-- Behind these messages the stream goes on with a message that is too long.
abbrev pub IsTooLongAfter : List ℕ → List (List ℕ) → Type 0
IsTooLongAfter stream messages = (rest : List ℕ) × Framed stream messages rest × PastLimit rest

-- Behind these messages the stream has no whole message, and none that is too long.
abbrev pub EndsAfter : List ℕ → List (List ℕ) → Type 0
EndsAfter stream messages = (rest : List ℕ) × Framed stream messages rest × ¬ (PastLimit rest)

-- Behind these messages the stream goes on with this one.
abbrev pub IsNextAfter : List ℕ → List (List ℕ) → List ℕ → Type 0
IsNextAfter stream messages next = (later : List (List ℕ)) × (rest : List ℕ) × Framed stream (messages ++ next ∷ later) rest

-- Nothing stands behind the last whole message of the stream but no-ops.
abbrev pub IsBetweenMessages : List ℕ → Type 0
IsBetweenMessages stream = (messages : List (List ℕ)) × Framed stream messages []
