-- What a list of bytes stands for as a journal, and why it stands for nothing.
use Rattle.std.specs.Prelude.{◌≡◌, ◌⊎◌, ℕ, List, [], ◌++◌, drop, Some, None}
use Rattle.ncc_tx.specs.declared.entry.Saved.{Saved}
use Rattle.ncc_log.specs.declared.error.JournalError.{JournalError}
use Rattle.ncc_log.specs.declared.error.JournalError.TheVariants.{Damaged, DiskFault, Foreign, Full, Memory}
use Rattle.ncc_log.specs.Header.{header, header_fault}
use Rattle.ncc_log.specs.Records.{Breaks, Stands}

-- what a member keeps before anything was saved
abbrev pub nothing : Saved
nothing = record { term = 0; vote = 0; log = [] }

-- the header, and records that lead to this part from nothing
pub record Saves (cluster member : ℕ) (b : List ℕ) (s : Saved) : Type 0 where
  pub records : List ℕ
  pub whole : b ≡ header cluster member ++ records
  pub stands : Stands nothing records s

-- behind a right header the first gate is at 14
pub record BreaksAt (cluster member : ℕ) (b : List ℕ) (at : ℕ) : Type 0 where
  pub right : header_fault cluster member b ≡ None
  pub breaks : Breaks nothing 14 (drop 14 b) at

-- the first wrong thing, in the header or behind it
abbrev pub Refuses : ℕ → ℕ → List ℕ → JournalError → Type 0
Refuses cluster member b e =
    (header_fault cluster member b ≡ Some e) ⊎ ((at : ℕ) × (e ≡ Damaged at) × BreaksAt cluster member b at)

-- a part, or the part after a change
abbrev pub BeforeOrAfter : ℕ → ℕ → Saved → Saved → List ℕ → Type 0
BeforeOrAfter cluster member before after b = Saves cluster member b before ⊎ Saves cluster member b after

-- an answer for want of memory or for a fault of the disk may come at any bytes, and any other is theirs
abbrev pub IsRefusal : ℕ → ℕ → List ℕ → JournalError → Type 0
IsRefusal cluster member b DiskFault = Unit {0}
IsRefusal cluster member b Memory = Unit {0}
IsRefusal cluster member b Full = ⊥
IsRefusal cluster member b (Damaged at) = Refuses cluster member b (Damaged at)
IsRefusal cluster member b (Foreign c m) = Refuses cluster member b (Foreign c m)

-- a fault of the disk, or want of memory
abbrev pub IsFree : JournalError → Type 0
IsFree DiskFault = Unit {0}
IsFree Memory = Unit {0}
IsFree e = ⊥

abbrev pub IsOrFree : JournalError → JournalError → Type 0
IsOrFree wanted e = (e ≡ wanted) ⊎ IsFree e
