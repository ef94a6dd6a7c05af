-- What is read of a record's payload, item by item.
use Rattle.std.specs.Prelude.{◌≡◌, ℕ, List, length, take, drop}
use Rattle.ncc_tx.specs.declared.entry.Item.{Item}
use Rattle.ncc_tx.specs.Items.{items_bytes}
use Rattle.ncc_tx.specs.Kept.{AllAllowed, NeverFalls}

-- from a place on, these bytes are so many items and nothing more, and their terms don't fall from a least one on
pub record AreItemsFrom (bytes : List ℕ) (at count least greatest : ℕ) (items : List Item) : Type 0 where
  pub same : drop at bytes ≡ items_bytes items
  pub number : length items ≡ count
  pub terms : NeverFalls least greatest items
  pub allowed : AllAllowed items

-- a part of a file that is held in memory
pub record IsPart (file : List ℕ) (from : ℕ) (held : List ℕ) : Type 0 where
  pub count : ℕ
  pub same : held ≡ take count (drop from file)
