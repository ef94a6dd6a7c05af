-- A log read place by place, by the terms of its items alone. Place 0 stands before all items and has term 0.
use Rattle.std.specs.Prelude.{ℕ, zero, suc, ◌-◌, Bool, ◌&&◌, ◌||◌, not, nat_eq, nat_lt, nat_le, if◌then◌else◌, List, [], ◌∷◌, ◌++◌, length, take, drop}
use Rattle.std.specs.Prelude.{Option, Some, None}
use Rattle.ncc_tx.specs.declared.entry.Item.{Item}
use Rattle.ncc_tx.specs.Kept.{term_at}
use Rattle.ncc_tx.specs.Spelled.{spelled}

-- the term of the last item, 0 where there is none
unfoldable pub last_term : List Item → ℕ
last_term log = term_at log (length log)

-- ---- two logs

-- a log of this length and last term is at least as up to date as the other (section 5.4.1)
unfoldable pub up_to_date : ℕ → ℕ → List Item → Bool
up_to_date place last log = nat_lt (last_term log) last || (nat_eq last (last_term log) && nat_le (length log) place)

-- the old items as far as the new ones have their terms, and then the new ones; where no new one has another term, all old ones
unfoldable pub merged : List Item → List Item → List Item
merged old [] = old
merged [] (x ∷ xs) = x ∷ xs
merged (o ∷ os) (x ∷ xs) = if nat_eq o.term x.term then o ∷ merged os xs else x ∷ xs

-- the log with these items behind the place prev
unfoldable pub accepted : List Item → ℕ → List Item → List Item
accepted log prev items = take prev log ++ merged (drop prev log) items

-- a place, the term of the own item there, and another that was told
pub record Conflict : Type 0 where
  pub place : ℕ
  pub kept : ℕ
  pub told : ℕ

-- the first place up to a last one at which the log has another term than was told, where terms are told from a place on
unfoldable pub first_conflict : List Item → ℕ → ℕ → List ℕ → Option Conflict
first_conflict log last place [] = None
first_conflict log last place (t ∷ ts) =
    if nat_le place last && not (nat_eq (term_at log place) t)
    then Some (record { place = place; kept = term_at log place; told = t })
    else first_conflict log last (suc place) ts

-- ---- what one message takes

-- at most so many items, and so many bytes of entries
abbrev pub max_sent : ℕ
max_sent = 64

abbrev pub max_sent_bytes : ℕ
max_sent_bytes = 1_048_576

abbrev pub entry_size : Item → ℕ
entry_size i = length (spelled i.entry)

-- the longest front of at most so many items with at most so many bytes of entries
unfoldable pub front_within : ℕ → ℕ → List Item → List Item
front_within number bytes [] = []
front_within zero bytes (i ∷ is) = []
front_within (suc number) bytes (i ∷ is) =
    if nat_le (entry_size i) bytes then i ∷ front_within number (bytes - entry_size i) is else []

-- the longest front that one message takes
unfoldable pub allowed_front : List Item → List Item
allowed_front items = front_within max_sent max_sent_bytes items
