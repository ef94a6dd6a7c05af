-- The handshake of Bolt: what a client says first. From the Bolt Protocol handshake specification.
use Rattle.std.specs.Prelude.{ℕ, ◌-◌, Bool, false, ◌&&◌, List, [], ◌∷◌, length, take, drop, if◌then◌else◌, nat_le, nat_lt, ◌==◌, bytes_eq}
use Rattle.std.specs.List.{list_any}
use Rattle.ncc_chunk.specs.declared.handshake.Shake.{Shake}
use Rattle.ncc_chunk.specs.declared.handshake.Shake.TheVariants.{More, Chosen, BadMagic, NoVersion}

-- the four bytes that every handshake begins with, 60 60 B0 17
abbrev pub magic : List ℕ
magic = 96 ∷ 96 ∷ 176 ∷ 23 ∷ []

-- A proposal offers its major version with each minor version from minor - range to minor. This says whether 4.4 is one of them.
abbrev pub covers : List ℕ → Bool
covers (reserved ∷ range ∷ minor ∷ major ∷ []) = (major == 4) && (nat_le 4 minor && nat_le (minor - range) 4)
covers _ = false

-- the four proposals, of four bytes each, behind the magic
abbrev pub proposals : List ℕ → List (List ℕ)
proposals bytes = take 4 (drop 4 bytes) ∷ take 4 (drop 8 bytes) ∷ take 4 (drop 12 bytes) ∷ take 4 (drop 16 bytes) ∷ []

-- the answer to a handshake that began with the magic, of which these bytes have come
abbrev pub answer_to_proposals : List ℕ → Shake
answer_to_proposals bytes = if nat_lt (length bytes) 20 then More else if list_any covers (proposals bytes) then Chosen else NoVersion

-- the answer to a handshake of which these bytes have come
abbrev pub answer_to : List ℕ → Shake
answer_to bytes = if nat_lt (length bytes) 4 then More else if bytes_eq (take 4 bytes) magic then answer_to_proposals bytes else BadMagic

-- the bytes of a stream that are its handshake: 20, or the first four where these are not the magic
abbrev pub handshake_of : List ℕ → List ℕ
handshake_of stream = if bytes_eq (take 4 stream) magic then take 20 stream else take 4 stream
