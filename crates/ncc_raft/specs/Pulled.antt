-- What becomes of the list of a replica when items come.
use Rattle.std.specs.Prelude.{ℕ, ◌+◌, ◌-◌, nat_lt, nat_le, if◌then◌else◌, List, ◌++◌, length, drop, Option, Some, None}
use Rattle.ncc_tx.specs.declared.entry.Item.{Item}
use Rattle.ncc_tx.specs.Kept.{terms}
use Rattle.ncc_raft.specs.Logs.{Conflict, first_conflict}

pub data Taken : Type 0 where
  -- the list is this one then
  Grown : (log : List Item) → Taken
  -- the items begin past the end
  Gap : (have first : ℕ) → Taken
  -- it has all these places
  Stale : (have last : ℕ) → Taken
  -- at a place that it has another term was told
  Contradicted : (conflict : Conflict) → Taken

abbrev pub grown : List Item → ℕ → List Item → Option Conflict → Taken
grown log first items (Some x) = Contradicted x
grown log first items None = Grown (log ++ drop (length log + 1 - first) items)

-- items from the place `first` on come to a replica with this list
unfoldable pub taken : List Item → ℕ → List Item → Taken
taken log first items =
    if nat_lt (length log + 1) first
    then Gap (length log) first
    else (
    if nat_le (first + length items) (length log + 1)
    then Stale (length log) (first + length items - 1)
    else grown log first items (first_conflict log (length log) first (terms items))
    )
