-- Which entries may stand in a log, and the spelling of items, which a journal's records and the frames of peers share.
-- Numbers are big-endian.
use Rattle.std.specs.Prelude.{◌≡◌, ℕ, ◌^◌, ◌<◌, nat_le, Bool, ◌&&◌, IsTrue, List, ◌++◌, length}
use Rattle.std.specs.Int.{w32, w64, to_be_bytes}
use Rattle.std.specs.List.{All, flat_map}
use Rattle.ncc_tx.specs.declared.entry.Entry.{Entry}
use Rattle.ncc_tx.specs.declared.entry.Item.{Item}
use Rattle.ncc_tx.specs.Spelled.{entry_fits, spelled}

-- the greatest length of the spelling of an entry that may stand in a log
abbrev pub max_entry : ℕ
max_entry = 1_048_576

-- the entry fits and is short enough
unfoldable pub entry_allowed : Entry → Bool
entry_allowed x = entry_fits x && nat_le (length (spelled x)) max_entry

-- the term, the size of the entry, and the entry
unfoldable pub item_bytes : Item → List ℕ
item_bytes i = to_be_bytes w64 i.term ++ to_be_bytes w32 (length (spelled i.entry)) ++ spelled i.entry

abbrev pub items_bytes : List Item → List ℕ
items_bytes is = flat_map item_bytes is

-- the number of the items, and the items
unfoldable pub counted : List Item → List ℕ
counted is = to_be_bytes w32 (length is) ++ items_bytes is

-- items that can be told from their bytes: terms of eight bytes, entries that are allowed, and a number of four bytes
pub record AreItems (is : List Item) : Type 0 where
  pub number : length is < 2 ^ 32
  pub terms : All (λ i. i.term < 2 ^ 64) is
  pub entries : All (λ i. IsTrue (entry_allowed i.entry)) is

-- one list begins another
abbrev pub Begins : List ℕ → List ℕ → Type 0
Begins front whole = (more : List ℕ) × (whole ≡ front ++ more)
