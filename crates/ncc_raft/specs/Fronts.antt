-- How many items the front of a message has, by the sizes of their entries alone; and what a majority has.
use Rattle.std.specs.Prelude.{◌≡◌, ℕ, zero, suc, ◌-◌, ◌<◌, Bool, true, false, nat_eq, nat_le, if◌then◌else◌, List, [], ◌∷◌, length}
use Rattle.std.specs.Prelude.{slice_index_or, slice_set}
use Rattle.ncc_raft.specs.Member.{majority}

-- of at most so many items with at most so many bytes
unfoldable pub front_number : ℕ → ℕ → List ℕ → ℕ
front_number number bytes [] = 0
front_number zero bytes (s ∷ ss) = 0
front_number (suc number) bytes (s ∷ ss) = if nat_le s bytes then suc (front_number number (bytes - s) ss) else 0

-- a majority voted for a core, where one core more does
unfoldable pub elects_of : List Bool → ℕ → Bool
elects_of votes from = majority (length votes) (λ core. slice_index_or (slice_set votes (from - 1) true) (core - 1) false)

-- a core has the leader's log up to here, as the leader knows: its own length, and of the others what is matched
abbrev pub known_up_to : List ℕ → ℕ → ℕ → ℕ → ℕ
known_up_to matches id own core = if nat_eq core id then own else slice_index_or matches (core - 1) 0

-- a majority has the log up to this place, where it is none, and up to no later one
pub record Middle (matches : List ℕ) (id own place : ℕ) : Type 0 where
  pub has : 0 < place → majority (length matches) (λ core. nat_le place (known_up_to matches id own core)) ≡ true
  pub most : (later : ℕ) → place < later → majority (length matches) (λ core. nat_le later (known_up_to matches id own core)) ≡ false
