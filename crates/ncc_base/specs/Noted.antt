-- How a disk in memory keeps what it was asked: the bytes of all writes stand in one list.
use Rattle.std.specs.Prelude.{◌≡◌, ℕ, ◌+◌, List, [], ◌∷◌, length, take, drop}
use Rattle.ncc_base.specs.Disk.{Write, Sync}
use Rattle.ncc_base.specs.MemDisk.{Done, after, begun}
use Rattle.ncc_base.specs.declared.mem_disk.Range.{Range}
use Rattle.ncc_base.specs.declared.mem_disk.Noted.{Noted}
use Rattle.ncc_base.specs.declared.mem_disk.Noted.TheVariants as k

-- how many bytes a call has
abbrev pub count_of : Noted → ℕ
count_of (k.Write at n ok made) = n
count_of (k.Sync ok) = 0

abbrev pub done : Noted → List ℕ → Done
done (k.Write at n ok made) bytes = record { asked = Write at bytes ok; made = made }
done (k.Sync ok) bytes = record { asked = Sync ok; made = ok }

unfoldable pub unfolded : List Noted → List ℕ → List Done
unfolded [] bytes = []
unfolded (x ∷ xs) bytes = done x (take (count_of x) bytes) ∷ unfolded xs (drop (count_of x) bytes)

unfoldable pub total : List Noted → ℕ
total [] = 0
total (x ∷ xs) = count_of x + total xs

-- the lists that are kept agree with what was asked
pub record IsKept (base stable seen : List ℕ) (ranges : List Range) (past : List Noted) (bytes : List ℕ) : Type 0 where
  pub content : after (unfolded past bytes) (begun base) ≡ record { seen = seen; stable = stable; ranges = ranges }
  pub used : total past ≡ length bytes
