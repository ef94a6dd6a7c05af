-- What a shelf keeps, and the lists of items that it stands for.
use Rattle.std.specs.Prelude.{◌≡◌, List}
use Rattle.ncc_store.specs.Graph.{Graph}
use Rattle.ncc_tx.specs.declared.entry.Item.{Item}
use Rattle.ncc_tx.specs.declared.stamp.Stamp.{Stamp}
use Rattle.ncc_tx.specs.State.{stamps, state}

pub record Shown : Type 0 where
  pub graph : Graph
  pub stamps : List Stamp

-- the store is the one that the items leave, and the stamps are those of their places
pub record Stands (shelf : Shown) (h : List Item) : Type 0 where
  pub graph : shelf.graph ≡ state h
  pub stamps : shelf.stamps ≡ stamps h
