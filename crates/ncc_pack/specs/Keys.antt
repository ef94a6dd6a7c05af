-- The keys of the pairs of a dictionary (PackStream version 1, "Data types", Dictionary): no key comes twice.
use Rattle.std.specs.Prelude.{Bool, true, not, ◌&&◌, ℕ, List, [], ◌∷◌, ◌++◌, map}
use Rattle.std.specs.List.{list_any}
use Rattle.std.specs.Str.{bytes_eq}

-- no key equals one before it, or one of the earlier
abbrev pub distinct : {A : Type 0} → List (List ℕ) → List (List ℕ × A) → Bool
distinct earlier [] = true
distinct earlier (p ∷ ps) = not (list_any (bytes_eq p.0) earlier) && distinct (earlier ++ p.0 ∷ []) ps

-- the keys of pairs
abbrev pub keys : {A : Type 0} → List (List ℕ × A) → List (List ℕ)
keys ps = map (λ p. p.0) ps
