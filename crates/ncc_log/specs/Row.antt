-- A worked journal: of member 2 of cluster 1, new, and after one save of term 1 and vote 2.
use Rattle.std.specs.Prelude.{ℕ, List, [], ◌∷◌, ◌++◌}
use Rattle.ncc_tx.specs.declared.entry.ChangeSet.{ChangeSet}
use Rattle.ncc_tx.specs.declared.entry.Saved.{Saved}

abbrev pub new_file : List ℕ
new_file = 0x4E ∷ 0x43 ∷ 0x43 ∷ 0x4A ∷ 1 ∷ 0 ∷ 0 ∷ 0 ∷ 0 ∷ 0 ∷ 0 ∷ 0 ∷ 1 ∷ 2 ∷ 0 ∷ []

abbrev pub change : ChangeSet
change = record { term = 1; vote = 2; keep = 0; items = [] }

abbrev pub part : Saved
part = record { term = 1; vote = 2; log = [] }

-- the payload of 21 bytes: term, vote, number kept, number of items
abbrev pub payload_bytes : List ℕ
payload_bytes = 0 ∷ 0 ∷ 0 ∷ 0 ∷ 0 ∷ 0 ∷ 0 ∷ 1 ∷ 2 ∷ 0 ∷ 0 ∷ 0 ∷ 0 ∷ 0 ∷ 0 ∷ 0 ∷ 0 ∷ 0 ∷ 0 ∷ 0 ∷ 0 ∷ []

-- the open gate, the size, the payload; and the closed gate is behind it
abbrev pub saved_front : List ℕ
saved_front = 0x4E ∷ 0x43 ∷ 0x43 ∷ 0x4A ∷ 1 ∷ 0 ∷ 0 ∷ 0 ∷ 0 ∷ 0 ∷ 0 ∷ 0 ∷ 1 ∷ 2 ∷ 1 ∷ 0 ∷ 0 ∷ 0 ∷ 0x15 ∷ payload_bytes

abbrev pub saved_file : List ℕ
saved_file = saved_front ++ 0 ∷ []
