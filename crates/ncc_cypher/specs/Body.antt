-- A text up to its quote, and what follows it.
use Rattle.std.specs.Prelude.{◌≡◌, ℕ, Bool, true, false, not, List, [], ◌∷◌, ◌++◌, Option, Some, None, ◌==◌, ◌||◌, if◌then◌else◌}
use Rattle.ncc_cypher.specs.Class.{escape, is_escape}

abbrev pub add : ℕ → Option (List ℕ × List ℕ) → Option (List ℕ × List ℕ)
add b None = None
add b (Some r) = Some (b ∷ r.0, r.1)

-- a text's value and what follows it, with whether a backslash stands before
unfoldable pub body_at : ℕ → Bool → List ℕ → Option (List ℕ × List ℕ)
body_at q escaping [] = None
body_at q true (e ∷ bs) = if is_escape e then add (escape e) (body_at q false bs) else None
body_at q false (b ∷ bs) = if b == q then Some ([], bs) else (if b == 92 then body_at q true bs else add b (body_at q false bs))

abbrev pub is_plain : ℕ → ℕ → Bool
is_plain q b = not (b == q || b == 92)

abbrev pub with_front : List ℕ → Option (List ℕ × List ℕ) → Option (List ℕ × List ℕ)
with_front front None = None
with_front front (Some r) = Some (front ++ r.0, r.1)

-- the second ends the first
abbrev pub Ends : List ℕ → List ℕ → Type 0
Ends text end = (front : List ℕ) × (text ≡ front ++ end)
