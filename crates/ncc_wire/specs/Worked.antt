-- A worked frame: member 1 asks member 2 for its vote in term 1, with an empty log, in cluster 1.
use Rattle.std.specs.Prelude.{ℕ, List, [], ◌∷◌, ◌++◌, take}
use Rattle.ncc_raft.specs.declared.message.Envelope.{Envelope}
use Rattle.ncc_raft.specs.declared.message.Body.TheVariants.{VoteAsk}

abbrev pub asked : Envelope
asked = record { from = 1; to = 2; body = VoteAsk 1 0 0 }

-- the size of what follows, 35; the cluster
abbrev pub head : List ℕ
head = 0 ∷ 0 ∷ 0 ∷ 0x23 ∷ 0 ∷ 0 ∷ 0 ∷ 0 ∷ 0 ∷ 0 ∷ 0 ∷ 1 ∷ []

-- the term, and sixteen bytes 00
abbrev pub tail : List ℕ
tail = 0 ∷ 0 ∷ 0 ∷ 0 ∷ 0 ∷ 0 ∷ 0 ∷ 1 ∷ 0 ∷ 0 ∷ 0 ∷ 0 ∷ 0 ∷ 0 ∷ 0 ∷ 0 ∷ 0 ∷ 0 ∷ 0 ∷ 0 ∷ 0 ∷ 0 ∷ 0 ∷ 0 ∷ []

-- kind, sender and receiver
abbrev pub with_kind : ℕ → List ℕ
with_kind kind = head ++ (kind ∷ 1 ∷ 2 ∷ tail)

-- the first 38 of its 39 bytes
abbrev pub cut : List ℕ
cut = take 38 (with_kind 1)
