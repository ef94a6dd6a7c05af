-- What bytes begin with where they begin with an item, and the first field that is wrong where they do not.
use Rattle.std.specs.Prelude.{◌≡◌, ℕ, ◌≤◌, ◌<◌, IsTrue, List, ◌++◌, length, take, drop, Result, Ok, Err}
use Rattle.std.specs.Int.{w32, w64, from_be_bytes}
use Rattle.ncc_tx.specs.declared.entry.Entry.{Entry}
use Rattle.ncc_tx.specs.declared.entry.Item.{Item}
use Rattle.ncc_tx.specs.declared.field.ItemError.{ItemError}
use Rattle.ncc_tx.specs.declared.field.ItemError.TheVariants.{Memory, Wrong}
use Rattle.ncc_tx.specs.declared.field.ItemField.{ItemField}
use Rattle.ncc_tx.specs.declared.field.ItemField.TheVariants.{Term, Size, Entry as EntryField}
use Rattle.ncc_tx.specs.Spelled.{spelled}
use Rattle.ncc_tx.specs.Items.{entry_allowed, item_bytes}

-- how many bytes of an item stand before a field
abbrev pub offset : ItemField → ℕ
offset Term = 0
offset Size = 8
offset EntryField = 12

-- the item at the front of these bytes: its term is within the limits, and its entry is allowed
pub record BeginsWith (least greatest : ℕ) (bytes : List ℕ) (item : Item) : Type 0 where
  pub rest : List ℕ
  pub same : bytes ≡ item_bytes item ++ rest
  pub above : least ≤ item.term
  pub below : item.term ≤ greatest
  pub allowed : IsTrue (entry_allowed item.entry)

abbrev pub term_at_front : List ℕ → ℕ
term_at_front bytes = from_be_bytes w64 (take 8 bytes)

abbrev pub size_at_front : List ℕ → ℕ
size_at_front bytes = from_be_bytes w32 (take 4 (drop 8 bytes))

-- the term is whole, and within the limits
pub record RightTerm (least greatest : ℕ) (bytes : List ℕ) : Type 0 where
  pub there : 8 ≤ length bytes
  pub above : least ≤ term_at_front bytes
  pub below : term_at_front bytes ≤ greatest

-- the entry stands behind the size, and has this size
pub record Behind (bytes : List ℕ) (entry : Entry) : Type 0 where
  pub size : length (spelled entry) ≡ size_at_front bytes
  pub rest : List ℕ
  pub same : drop 12 bytes ≡ spelled entry ++ rest

-- an allowed one does
abbrev pub RightEntry : List ℕ → Type 0
RightEntry bytes = (x : Entry) × IsTrue (entry_allowed x) × Behind bytes x

-- the field is wrong, and those before it are right
abbrev pub IsWrong : ℕ → ℕ → List ℕ → ItemField → Type 0
IsWrong least greatest bytes Term = RightTerm least greatest bytes → ⊥
IsWrong least greatest bytes Size = RightTerm least greatest bytes × (length bytes < 12)
IsWrong least greatest bytes EntryField = RightTerm least greatest bytes × (12 ≤ length bytes) × (RightEntry bytes → ⊥)

-- the answer is this one, unless memory runs out
abbrev pub ItemOrMemory : Result (Item × ℕ) ItemError → Result (Item × ℕ) ItemError → Type 0
ItemOrMemory (Err Memory) r = Unit {0}
ItemOrMemory (Err e) r = r ≡ Err e
ItemOrMemory (Ok x) r = r ≡ Ok x
