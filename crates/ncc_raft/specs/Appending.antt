-- How a leader hands on its log, and what comes of it. Extended Raft paper, Figure 2, "AppendEntries RPC", "Rules for Servers".
use Rattle.std.specs.Prelude.{ℕ, zero, suc, ◌+◌, ◌-◌, min, max, Bool, true, false, ◌&&◌, not, nat_eq, nat_le, if◌then◌else◌, List, [], ◌∷◌, ◌++◌, length, take, drop, map}
use Rattle.std.specs.Prelude.{Option}
use Rattle.std.specs.List.{filter}
use Rattle.ncc_tx.specs.declared.entry.Entry.{Entry}
use Rattle.ncc_tx.specs.declared.entry.Item.{Item}
use Rattle.ncc_tx.specs.Kept.{term_at, terms}
use Rattle.ncc_raft.specs.declared.message.Envelope.{Envelope}
use Rattle.ncc_raft.specs.declared.message.Body.TheVariants.{Append, Batch}
use Rattle.ncc_raft.specs.declared.message.RaftRole.TheVariants.{Follower}
use Rattle.ncc_raft.specs.Member.{Seat, Member, letter, cores_of, majority, next_of, match_of, with_slot}
use Rattle.ncc_raft.specs.Logs.{Conflict, accepted, allowed_front, first_conflict}

-- ---- the leader

abbrev pub added : Member → Entry → Member
added m entry = record m { log = m.log ++ record { term = m.term; entry = entry } ∷ [] }

-- the part of its log behind a place, as much of it as one message takes
abbrev pub append_behind : Seat → Member → ℕ → ℕ → Envelope
append_behind seat m core prev =
    letter seat.id core (Append m.term prev (term_at m.log prev) m.commit (allowed_front (drop prev m.log)))

abbrev pub append_to : Seat → Member → ℕ → Envelope
append_to seat m core = append_behind seat m core (next_of m core - 1)

abbrev pub others : Seat → List ℕ
others seat = filter (λ core. not (nat_eq core seat.id)) (cores_of seat.cores)

-- to each other core
abbrev pub appends : Seat → Member → List Envelope
appends seat m = map (append_to seat m) (others seat)

-- the answer of a core: with a yes it has the log up to the place; with a no the leader goes back to the place at most, one at
-- least, but never behind what it knows the core to have
abbrev pub has_up_to : Member → ℕ → ℕ → ℕ
has_up_to m from place = max (match_of m from) (min place (length m.log))

abbrev pub back_to : Member → ℕ → ℕ → ℕ
back_to m from place = max (match_of m from) (min (next_of m from - 1) (min place (length m.log)))

abbrev pub noted : Member → ℕ → Bool → ℕ → Member
noted m from true place = record m { match = with_slot m.match from (has_up_to m from place); next = with_slot m.next from (has_up_to m from place + 1) }
noted m from false place = record m { next = with_slot m.next from (back_to m from place + 1) }

-- a core has the leader's log up to a place, as the leader knows
abbrev pub is_known_at : Seat → Member → ℕ → ℕ → Bool
is_known_at seat m place core = nat_le place (if nat_eq core seat.id then length m.log else match_of m core)

-- an item of the own term, which a majority has (section 5.4.2)
abbrev pub may_commit : Seat → Member → ℕ → Bool
may_commit seat m place = nat_eq (term_at m.log place) m.term && majority seat.cores (is_known_at seat m place)

-- the greatest number up to n that passes the test, 0 where none does
unfoldable pub greatest : (ℕ → Bool) → ℕ → ℕ
greatest test zero = 0
greatest test (suc n) = if test (suc n) then suc n else greatest test n

abbrev pub advanced : Seat → Member → Member
advanced seat m = record m { commit = max m.commit (greatest (may_commit seat m) (length m.log)) }

-- what it has applied
abbrev pub applied : Member → List Item
applied m = take m.commit m.log

-- to a member that has so many items, what it has applied behind them, as much of it as one message takes
abbrev pub batch : Seat → Member → ℕ → ℕ → Envelope
batch seat m to have = letter seat.id to (Batch (have + 1) (allowed_front (drop have (applied m))))

-- ---- the others

abbrev pub follows : Member → ℕ → Member
follows m from = record m { role = Follower; leader = from }

-- the first place at or below the commit, that before the items among them, at which another term was told
abbrev pub contradicted : Member → ℕ → ℕ → List Item → Option Conflict
contradicted m prev prev_term items = first_conflict m.log m.commit prev (prev_term ∷ terms items)

abbrev pub has_prev : Member → ℕ → ℕ → Bool
has_prev m prev prev_term = nat_le prev (length m.log) && nat_eq (term_at m.log prev) prev_term

abbrev pub took : Member → ℕ → ℕ → List Item → Member
took m prev commit items = record m { log = accepted m.log prev items; commit = max m.commit (min commit (prev + length items)) }
