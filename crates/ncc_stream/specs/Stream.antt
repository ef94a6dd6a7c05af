-- A machine over an input that comes in pieces, of bytes, messages or other items: it moves as long as it can, and goes on
-- when more has come. Beside items it may take facts, which it is told in their order. What it writes are outputs of any
-- type, in order.
use Rattle.std.specs.Prelude.{◌≡◌, ℕ, zero, suc, ◌+◌, ◌<◌, Option, Some, None, List, [], ◌++◌, length}

-- where a machine stands, what it has not yet taken, and what it wrote on the way
pub record Stand (C E F W : Type 0) : Type 0 where
  pub core : C
  pub items : List E
  pub facts : List F
  pub written : List W

-- a move from a core, the items and the facts that have come; none where the machine waits for more
abbrev pub Move : Type 0 → Type 0 → Type 0 → Type 0 → Type 0
Move C E F W = C → List E → List F → Option (Stand C E F W)

-- the same with more items and facts behind those that are left
abbrev pub further : {C E F W : Type 0} → List E → List F → Stand C E F W → Stand C E F W
further ys gs t = record { core = t.core; items = t.items ++ ys; facts = t.facts ++ gs; written = t.written }

-- Each move takes an item or a fact.
abbrev pub Shrinks : {C E F W : Type 0} → Move C E F W → Type 0
Shrinks {C} {E} {F} {W} move =
    (c : C) (xs : List E) (fs : List F) (t : Stand C E F W) → move c xs fs ≡ Some t
    → length t.items + length t.facts < length xs + length fs

-- More behind the items and facts that have come changes nothing of a move but what is left.
abbrev pub Extends : {C E F W : Type 0} → Move C E F W → Type 0
Extends {C} {E} {F} {W} move =
    (c : C) (xs : List E) (fs : List F) (t : Stand C E F W) (ys : List E) (gs : List F) → move c xs fs ≡ Some t
    → move c (xs ++ ys) (fs ++ gs) ≡ Some (further ys gs t)

-- what a machine owes
pub record IsLawful {C E F W : Type 0} (move : Move C E F W) : Type 0 where
  pub shrinks : Shrinks move
  pub extends : Extends move

-- the same with this written before
abbrev pub behind : {C E F W : Type 0} → List W → Stand C E F W → Stand C E F W
behind w r = record { core = r.core; items = r.items; facts = r.facts; written = w ++ r.written }

-- no move
abbrev pub still : {C E F W : Type 0} → C → List E → List F → Stand C E F W
still c xs fs = record { core = c; items = xs; facts = fs; written = [] }

-- at most so many moves
unfoldable pub run : {C E F W : Type 0} → Move C E F W → ℕ → C → List E → List F → Stand C E F W
run move zero c xs fs = still c xs fs
run move (suc n) c xs fs =
    elim (move c xs fs) [ None ↦ still c xs fs | Some t ↦ behind t.written (run move n t.core t.items t.facts) ]

-- moves until none is left; a lawful machine has no more of them than items and facts
unfoldable pub going : {C E F W : Type 0} → Move C E F W → C → List E → List F → Stand C E F W
going move c xs fs = run move (length xs + length fs) c xs fs

-- going on with more that came, from where the machine stands
abbrev pub going_on : {C E F W : Type 0} → Move C E F W → Stand C E F W → List E → List F → Stand C E F W
going_on move r ys gs = behind r.written (going move r.core (r.items ++ ys) (r.facts ++ gs))
