-- The messages of a stream, as functions. From the section on chunking of the Bolt Protocol message specification.
use Rattle.std.specs.Prelude.{ℕ, zero, suc, ◌+◌, Bool, true, false, List, [], ◌∷◌, ◌++◌, length, take, drop, if◌then◌else◌, nat_lt, ◌==◌}
use Rattle.ncc_chunk.specs.Chunks.{size_of, limit}

-- what a stream begins with
pub data Front : Type 0 where
  -- a message, and what stands behind it; an empty one is a no-op
  whole : List ℕ → List ℕ → Front
  -- less than a message
  part : Front
  -- chunks whose sizes pass the limit
  long : Front

-- behind chunks with this body, what the stream goes on with; it looks at so many heads at most
unfoldable pub front_by : ℕ → List ℕ → List ℕ → Front
front_by (suc n) body (high ∷ low ∷ bytes) =
    if size_of high low == 0 then whole body bytes
    else if nat_lt limit (length body + size_of high low) then long
    else if nat_lt (length bytes) (size_of high low) then part
    else front_by n (body ++ take (size_of high low) bytes) (drop (size_of high low) bytes)
front_by _ body bytes = part

-- what a stream begins with
abbrev pub front_of : List ℕ → Front
front_of stream = front_by (length stream) [] stream

-- the messages of a stream, and what stands behind the last and behind the no-ops after it
pub record Parts : Type 0 where
  pub messages : List (List ℕ)
  pub rest : List ℕ

-- with this message in front, where it is not empty
abbrev pub with_first : List ℕ → Parts → Parts
with_first [] parts = parts
with_first (x ∷ xs) parts = record { messages = (x ∷ xs) ∷ parts.messages; rest = parts.rest }

-- at most so many messages and no-ops
unfoldable pub parts_by : ℕ → List ℕ → Parts
parts_by zero stream = record { messages = []; rest = stream }
parts_by (suc n) stream = elim (front_of stream) [
  | whole message more ↦ with_first message (parts_by n more)
  | part ↦ record { messages = []; rest = stream }
  | long ↦ record { messages = []; rest = stream }
]

-- all messages of a stream
unfoldable pub messages_of : List ℕ → List (List ℕ)
messages_of stream = (parts_by (length stream) stream).messages

-- what stands behind them
unfoldable pub rest_of : List ℕ → List ℕ
rest_of stream = (parts_by (length stream) stream).rest

-- the stream goes on with chunks whose sizes pass the limit
abbrev pub is_long : Front → Bool
is_long long = true
is_long _ = false

-- behind its messages the stream goes on with one that is too long
unfoldable pub is_too_long : List ℕ → Bool
is_too_long stream = is_long (front_of (rest_of stream))
