-- A message as it is sent. From the section on chunking of the Bolt Protocol message specification.
use Rattle.std.specs.Prelude.{ℕ, zero, suc, ◌/◌, ◌%◌, List, [], ◌∷◌, ◌++◌, length, take, drop, if◌then◌else◌, nat_lt}

-- how many bytes a chunk has at most
abbrev pub most : ℕ
most = 65535

-- one chunk: its size as two bytes, the greater first, and its body
abbrev pub chunk_of : List ℕ → List ℕ
chunk_of body = (length body / 256) ∷ (length body % 256) ∷ body

-- chunks of the greatest size while more than that is left, so many of them at most, and then the rest
unfoldable pub chunks_by : ℕ → List ℕ → List ℕ
chunks_by zero message = chunk_of message
chunks_by (suc n) message = if nat_lt most (length message) then chunk_of (take most message) ++ chunks_by n
    (drop most message) else chunk_of message

-- all chunks of a message: there are no more of them than it has bytes
unfoldable pub chunks_of : List ℕ → List ℕ
chunks_of message = chunks_by (length message) message

-- a message as it is sent: its chunks, and 00 00
abbrev pub chunked : List ℕ → List ℕ
chunked message = chunks_of message ++ 0 ∷ 0 ∷ []
