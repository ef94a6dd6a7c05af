-- What is so of a fleet over time: laws of every shape, of each moment that is reached from the start, and of each later one.
use Rattle.std.specs.Prelude.{◌≡◌, ◌≢◌, ℕ, ◌-◌, ◌≤◌, ◌<◌, ◌↔◌, true, false, List, length, slice_get, Some}
use Rattle.std.specs.List.{AllByRecursion}
use Rattle.ncc_tx.specs.declared.entry.Entry.{Entry}
use Rattle.ncc_tx.specs.declared.entry.Item.{Item}
use Rattle.ncc_tx.specs.Kept.{AllAllowed}
use Rattle.ncc_raft.specs.declared.message.Envelope.{Envelope}
use Rattle.ncc_raft.specs.declared.message.Body.TheVariants.{Batch}
use Rattle.ncc_raft.specs.Carried.{Carried}
use Rattle.ncc_raft.specs.Core.{IsCore}
use Rattle.ncc_raft.specs.Member.{Receive, letter, is_core}
use Rattle.ncc_raft.specs.Pulled.{taken}
use Rattle.ncc_safety.specs.Lists.{Begins}
use Rattle.ncc_safety.specs.Laws.{IsHarmless, IsContradicted}
use Rattle.ncc_safety.specs.Fleet.{Shape, Fleet, HasShape, IsSmall, seat_at, is_replica, core_at, list_at, applied_lists, applied_at}
use Rattle.ncc_safety.specs.Fleet.{WasSent, outcome_at, Moves, Restarts, leads, Elsewhere, Full, answer, Places}
use Rattle.ncc_safety.specs.Fleet.{Seen, seen_next, Path, Reached}

-- of each moment that is reached
abbrev pub Ever : (Shape → Seen → Type 0) → Type 0
Ever P = (shape : Shape) (x : Seen) → Reached shape x → P shape x

-- of each moment that is reached, and each that is no earlier
abbrev pub FromThenOn : (Shape → Seen → Seen → Type 0) → Type 0
FromThenOn P = (shape : Shape) (x y : Seen) → Reached shape x → Path shape x y → P shape x y

-- ---- one history

-- Every applied list begins the history, then and later.
abbrev pub ListsBegin : Type 0
ListsBegin = FromThenOn (λ shape x y. AllByRecursion (λ list. Begins list y.history) (applied_lists x.fleet))

-- The history only grows.
abbrev pub HistoryGoesOn : Type 0
HistoryGoesOn = FromThenOn (λ shape x y. Begins x.history y.history)

-- ---- a member's list

abbrev pub ListsGoOn : Fleet → Fleet → Type 0
ListsGoOn f g = (member : ℕ) → Begins (applied_at f member) (applied_at g member)

-- By a move each member's list only grows,
abbrev pub MovesKeep : Type 0
MovesKeep = Ever (λ shape x. (g : Fleet) → Moves shape x.fleet g → ListsGoOn x.fleet g)

-- so it does by a proposal,
abbrev pub ProposalsKeep : Type 0
ProposalsKeep = Ever (λ shape x. (i : ℕ) (entry : Entry) (place term : ℕ) (g : Fleet) → Places shape x.fleet i entry place term g →
    ListsGoOn x.fleet g)

-- and where a member starts again each other stays as it is.
abbrev pub RestartsKeep : Type 0
RestartsKeep = Ever (λ shape x. (i : ℕ) (g : Fleet) → Restarts shape i x.fleet g →
    (member : ℕ) → 1 ≤ member → member ≢ i → applied_at g member ≡ applied_at x.fleet member)

-- ---- proposals

-- Where an applied list has at the place of a proposal an item of its term, then or later, that item has its entry.
abbrev pub PlacedStays : Type 0
PlacedStays = Ever (λ shape x. (i : ℕ) (entry : Entry) (place term : ℕ) (g : Fleet) (y : Seen) (member : ℕ) (item : Item) →
    Places shape x.fleet i entry place term g → Path shape (seen_next x g) y →
    slice_get (applied_at y.fleet member) (place - 1) ≡ Some item → item.term ≡ term → item.entry ≡ entry)

-- A proposal stands behind all that its member has applied before.
abbrev pub PlacedBehind : Type 0
PlacedBehind = Ever (λ shape x. (i : ℕ) (entry : Entry) (place term : ℕ) (g : Fleet) → Places shape x.fleet i entry place term g →
    length (applied_at x.fleet i) < place)

-- Its place is one that a log has.
abbrev pub PlacedWithin : Type 0
PlacedWithin = (shape : Shape) (f : Fleet) (i : ℕ) (entry : Entry) (place term : ℕ) (g : Fleet) → Places shape f i entry place term g →
    (1 ≤ place) × (place ≤ shape.limit)

-- No two proposals, of whatever members and entries, have one place and one term.
abbrev pub PlacedApart : Type 0
PlacedApart = Ever (λ shape x. (i j : ℕ) (entry other : Entry) (place term : ℕ) (g h : Fleet) (y : Seen) →
    Places shape x.fleet i entry place term g → Path shape (seen_next x g) y → Places shape y.fleet j other place term h → ⊥)

-- Who does not lead refuses, and no other says so.
abbrev pub RefusesElsewhere : Type 0
RefusesElsewhere = (shape : Shape) (f : Fleet) (i : ℕ) (entry : Entry) → (answer shape f i entry ≡ Elsewhere) ↔ (leads shape f i ≡ false)

-- Who says that its log is full leads, and has as many items as it may have.
abbrev pub FullAtLimit : Type 0
FullAtLimit = Ever (λ shape x. (i : ℕ) (entry : Entry) (items : ℕ) → answer shape x.fleet i entry ≡ Full items →
    (leads shape x.fleet i ≡ true) × (items ≡ shape.limit))

-- ---- messages

-- Whatever was sent, no core that hears it notes Contradicted or Beyond,
abbrev pub NeverNotes : Type 0
NeverNotes = Ever (λ shape x. (e : Envelope) (i : ℕ) → WasSent x.fleet e → is_core shape.cores i ≡ true →
    IsHarmless (outcome_at shape x.fleet i (Receive e)).note)

-- and no replica finds a Batch contradicted.
abbrev pub NeverContradicts : Type 0
NeverContradicts = Ever (λ shape x. (from to first : ℕ) (items : List Item) (j : ℕ) → WasSent x.fleet (letter from to (Batch first items)) →
    is_replica shape j ≡ true → IsContradicted (taken (list_at shape x.fleet j) first items) → ⊥)

-- ---- sizes

abbrev pub KeepsShape : Type 0
KeepsShape = Ever (λ shape x. HasShape shape x.fleet)

-- Neither the history nor any log or applied list is longer than the limit.
pub record IsWithin (shape : Shape) (x : Seen) : Type 0 where
  pub history : length x.history ≤ shape.limit
  pub logs : (i : ℕ) → is_core shape.cores i ≡ true → length (core_at shape x.fleet i).log ≤ shape.limit
  pub lists : (member : ℕ) → length (applied_at x.fleet member) ≤ shape.limit

abbrev pub StaysWithin : Type 0
StaysWithin = Ever IsWithin

-- History, logs and lists have entries that a log may have.
pub record HasAllowed (shape : Shape) (x : Seen) : Type 0 where
  pub history : AllAllowed x.history
  pub logs : (i : ℕ) → is_core shape.cores i ≡ true → AllAllowed (core_at shape x.fleet i).log
  pub lists : (member : ℕ) → AllAllowed (applied_at x.fleet member)

abbrev pub OnlyAllowed : Type 0
OnlyAllowed = Ever HasAllowed

-- In a small fleet each message that was sent can be carried by a frame,
abbrev pub CanBeCarried : Type 0
CanBeCarried = Ever (λ shape x. IsSmall shape → (e : Envelope) → WasSent x.fleet e → Carried e)

-- and each core is one.
abbrev pub CoresAreSound : Type 0
CoresAreSound = Ever (λ shape x. IsSmall shape → (i : ℕ) → is_core shape.cores i ≡ true →
    IsCore (record { seat = seat_at shape i; member = core_at shape x.fleet i }))
