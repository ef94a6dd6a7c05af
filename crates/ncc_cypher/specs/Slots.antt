-- Where a key of a list of pairs is found: by its place, or in a set beside.
use Rattle.std.specs.Prelude.{◌≡◌, ◌<◌, ℕ, ◌+◌, ◌*◌, ◌%◌, ◌^◌, nat_eq, Bool, true, false}
use Rattle.std.specs.Prelude.{cond, ◌||◌, Option, Some, None}
use Rattle.std.specs.Prelude.{List, [], ◌∷◌, length, slice_get}
use Rattle.std.specs.Str.{bytes_eq}
use Rattle.ncc_cypher.specs.declared.tree.Pair.{Pair}
use Rattle.ncc_cypher.specs.Grammar.{Name, has}

abbrev pub mix : ℕ → ℕ → ℕ
mix h b = ((h + b) % 2 ^ 64 * 11400714819323198485) % 2 ^ 64

abbrev pub hash_from : ℕ → Name → ℕ
hash_from h [] = h
hash_from h (b ∷ bs) = hash_from (mix h b) bs

abbrev pub hash : Name → ℕ
hash q = hash_from 0 q

-- the place of a key among so many
abbrev pub place : ℕ → Name → ℕ
place n q = cond (nat_eq n 0) 0 (hash q % n)

abbrev pub has_key : Option Pair → Name → Bool
has_key None q = false
has_key (Some p) q = bytes_eq p.key q

abbrev pub is_at : List Pair → ℕ → Name → Bool
is_at ps n q = has_key (slice_get ps n) q

-- what a place keeps, by whether a key has it, and by the number beside
abbrev pub kept_at : Option Bool → Option ℕ → Option (Option ℕ)
kept_at None n = None
kept_at (Some b) None = None
kept_at (Some false) (Some n) = Some None
kept_at (Some true) (Some n) = Some (Some n)

abbrev pub kept : List Bool → List ℕ → ℕ → Option (Option ℕ)
kept taken numbers i = kept_at (slice_get taken i) (slice_get numbers i)

-- a place that no key has
abbrev pub is_free : Option (Option ℕ) → Bool
is_free None = false
is_free (Some None) = true
is_free (Some (Some n)) = false

-- what a slot says of a key: whether it is one of the pairs', where the set has it or not
abbrev pub HoldsAt : Option (Option ℕ) → Bool → List Pair → Name → Type 0
HoldsAt None other ps q = other ≡ has q ps
HoldsAt (Some None) other ps q = (other ≡ false) × (has q ps ≡ false)
HoldsAt (Some (Some n)) other ps q = (n < length ps) × ((is_at ps n q || other) ≡ has q ps)

abbrev pub Holds : List Bool → List ℕ → Bool → List Pair → Name → Type 0
Holds taken numbers other ps q = HoldsAt (kept taken numbers (place (length taken) q)) other ps q
