-- What is so of streams of messages (Bolt Protocol message specification, the section on chunking).
use Rattle.std.specs.Prelude.{◌≡◌, ◌⊎◌, ◌↔◌, ◌<◌, ◌≤◌, ◌++◌, ◌∷◌, ℕ, List, length, IsTrue}
use Rattle.ncc_chunk.specs.Chunks.{Chunks, Framed, PastLimit, EndsAfter, IsTooLongAfter, limit}
use Rattle.ncc_chunk.specs.Chunked.{chunks_of, chunked}
use Rattle.ncc_chunk.specs.Inflow.{Inflow, Stands}
use Rattle.ncc_chunk.specs.Messages.{messages_of, rest_of, is_too_long}

-- Every stream is some messages, behind which it ends or goes on with one that is too long.
abbrev pub EveryStreamReads : Type 0
EveryStreamReads = (stream : List ℕ) → (messages : List (List ℕ)) × (EndsAfter stream messages ⊎ IsTooLongAfter stream messages)

-- A stream is these messages and this rest, and no others.
abbrev pub MessagesAreOne : Type 0
MessagesAreOne =
    (stream : List ℕ) (a b : List (List ℕ)) (x y : List ℕ) → Framed stream a x → Framed stream b y → (a ≡ b) × (x ≡ y)

-- What comes behind a stream goes on from its rest.
abbrev pub MessagesGoOn : Type 0
MessagesGoOn =
    (stream more x y : List ℕ) (a b : List (List ℕ)) → Framed stream a x → Framed (x ++ more) b y → Framed (stream ++ more) (a ++ b) y

-- A stream that goes on with a message that is too long still does when more has come.
abbrev pub TooLongStays : Type 0
TooLongStays =
    (stream more : List ℕ) (messages : List (List ℕ)) → IsTooLongAfter stream messages → IsTooLongAfter (stream ++ more) messages

-- What is sent of a message is read as the message, whatever comes behind.
abbrev pub SentIsRead : Type 0
SentIsRead =
    (message bytes : List ℕ) (messages : List (List ℕ)) (rest : List ℕ) → 0 < length message → length message ≤ limit
    → Framed bytes messages rest → Framed (chunked message ++ bytes) (message ∷ messages) rest

-- A stream is the messages and the rest that the functions give.
abbrev pub FunctionsRead : Type 0
FunctionsRead = (stream : List ℕ) → Framed stream (messages_of stream) (rest_of stream)

-- What a stream is, the functions give.
abbrev pub FunctionsAreAll : Type 0
FunctionsAreAll =
    (stream rest : List ℕ) (messages : List (List ℕ)) → Framed stream messages rest
    → (messages ≡ messages_of stream) × (rest ≡ rest_of stream)

-- The test of a stream that is too long is right.
abbrev pub TestsTooLong : Type 0
TestsTooLong = (stream : List ℕ) → IsTrue (is_too_long stream) ↔ IsTooLongAfter stream (messages_of stream)

-- The messages of a stream with more behind are its own, and those of its rest with that behind.
abbrev pub FunctionsGoOn : Type 0
FunctionsGoOn =
    (stream more : List ℕ)
    → (messages_of (stream ++ more) ≡ messages_of stream ++ messages_of (rest_of stream ++ more))
    × (rest_of (stream ++ more) ≡ rest_of (rest_of stream ++ more))

-- Once a stream is too long, it has no more messages, and stays so.
abbrev pub NoMorePastLimit : Type 0
NoMorePastLimit =
    (stream more : List ℕ) → IsTrue (is_too_long stream)
    → (messages_of (stream ++ more) ≡ messages_of stream) × IsTrue (is_too_long (stream ++ more))

-- What a dechunker handed out and what is ready are the messages of the stream that it was fed.
abbrev pub DechunkerHasMessages : Type 0
DechunkerHasMessages =
    (state : Inflow) (stream : List ℕ) (handed : List (List ℕ)) → Stands state stream handed
    → messages_of stream ≡ handed ++ state.ready
