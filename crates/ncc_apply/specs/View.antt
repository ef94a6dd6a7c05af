-- What is shown of a list of items: its length, the stamps of its places, and the store that it leaves.
use Rattle.std.specs.Prelude.{◌≡◌, ℕ, ◌-◌, nat_eq, if◌then◌else◌, List, length, Option, None, slice_get}
use Rattle.ncc_tx.specs.declared.entry.Item.{Item}
use Rattle.ncc_tx.specs.declared.stamp.Stamp.{Stamp}
use Rattle.ncc_tx.specs.State.{stamps, state}

-- the stamp of a place, from 1 on
abbrev pub stamp_of : ℕ → List Stamp → Option Stamp
stamp_of place all = if nat_eq place 0 then None else slice_get all (place - 1)

-- all that is shown of two lists is equal
pub record Alike (g h : List Item) : Type 0 where
  pub length : length g ≡ length h
  pub stamps : stamps g ≡ stamps h
  pub state : state g ≡ state h
