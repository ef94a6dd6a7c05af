-- A body behind a gate.
use Rattle.std.specs.Prelude.{◌≡◌, ◌⊎◌, ℕ, List, ◌∷◌, ◌++◌}

-- behind this front a closed gate, with anything behind it, or some gate with this body behind it
abbrev pub IsGated : List ℕ → List ℕ → List ℕ → Type 0
IsGated front body c =
    ((rest : List ℕ) × (c ≡ front ++ (0 ∷ rest))) ⊎ ((gate : ℕ) × (rest : List ℕ) × (c ≡ front ++ (gate ∷ (body ++ rest))))

-- behind this front an open gate with this body
abbrev pub IsOpen : List ℕ → List ℕ → List ℕ → Type 0
IsOpen front body c = (rest : List ℕ) × (c ≡ front ++ (1 ∷ (body ++ rest)))
