-- What is so of every lawful machine.
use Rattle.std.specs.Prelude.{◌≡◌, ℕ, ◌≤◌, List, ◌++◌, Some, None}
use Rattle.ncc_stream.specs.Stream.{Move, IsLawful, Stand, going, going_on, behind, still}

-- However the input is cut: what a machine makes of it is what it makes of the front, and then of what it left of the front
-- with the rest behind.
abbrev pub CutsDontMatter : Type 0 → Type 0 → Type 0 → Type 0 → Type 0
CutsDontMatter C E F W =
    (move : Move C E F W) → IsLawful move → (c : C) (xs ys : List E) (fs gs : List F)
    → going move c (xs ++ ys) (fs ++ gs) ≡ going_on move (going move c xs fs) ys gs

-- A machine that has no move stays where it is.
abbrev pub WaitsWithoutMove : Type 0 → Type 0 → Type 0 → Type 0 → Type 0
WaitsWithoutMove C E F W =
    (move : Move C E F W) → IsLawful move → (c : C) (xs : List E) (fs : List F) → move c xs fs ≡ None
    → going move c xs fs ≡ still c xs fs

-- A machine that has a move makes it, and goes on from there.
abbrev pub GoesByMoves : Type 0 → Type 0 → Type 0 → Type 0 → Type 0
GoesByMoves C E F W =
    (move : Move C E F W) → IsLawful move → (c : C) (xs : List E) (fs : List F) (t : Stand C E F W) → move c xs fs ≡ Some t
    → going move c xs fs ≡ behind t.written (going move t.core t.items t.facts)

-- In the end no move is left.
abbrev pub ComesToRest : Type 0 → Type 0 → Type 0 → Type 0 → Type 0
ComesToRest C E F W =
    (move : Move C E F W) → IsLawful move → (c : C) (xs : List E) (fs : List F)
    → let r = going move c xs fs in move r.core r.items r.facts ≡ None

-- What falls with each move is no more in the end.
abbrev pub NeverRises : Type 0 → Type 0 → Type 0 → Type 0 → Type 0
NeverRises C E F W =
    (move : Move C E F W) → IsLawful move → (weight : C → List E → ℕ)
    → ((c : C) (xs : List E) (fs : List F) (t : Stand C E F W) → move c xs fs ≡ Some t → weight t.core t.items ≤ weight c xs)
    → (c : C) (xs : List E) (fs : List F) → let r = going move c xs fs in weight r.core r.items ≤ weight c xs
