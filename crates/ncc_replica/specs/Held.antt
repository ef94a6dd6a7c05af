-- What a contract sees of a replica.
use Rattle.std.specs.Prelude.{ℕ, List}
use Rattle.ncc_tx.specs.declared.entry.Item.{Item}

pub record Held : Type 0 where
  pub id : ℕ
  pub log : List Item
