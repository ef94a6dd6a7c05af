-- Words for lists of items. Here an item has a place as many as there are items before it, so the first is at 0.
use Rattle.std.specs.Prelude.{◌≡◌, ℕ, ◌+◌, ◌<◌, ◌⊎◌, List, ◌++◌, slice_get, Some}
use Rattle.ncc_tx.specs.declared.entry.Item.{Item}

-- the first p places of two lists are the same
abbrev pub Agree : ℕ → List Item → List Item → Type 0
Agree p xs ys = (k : ℕ) → k < p → slice_get xs k ≡ slice_get ys k

-- one list begins another
abbrev pub Begins : List Item → List Item → Type 0
Begins xs ys = (rest : List Item) × (ys ≡ xs ++ rest)

-- one of two lists begins the other
abbrev pub OneLine : List Item → List Item → Type 0
OneLine xs ys = Begins xs ys ⊎ Begins ys xs

-- items that stand in a list from a place on
abbrev pub IsCut : List Item → ℕ → List Item → Type 0
IsCut whole p items = (k : ℕ) (x : Item) → slice_get items k ≡ Some x → slice_get whole (p + k) ≡ Some x
