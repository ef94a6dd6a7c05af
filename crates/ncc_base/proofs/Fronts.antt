-- The front of a list.
use Rattle.std.proofs.Common.{◌≡◌, ℕ, List, ◌++◌, take, drop, sym, take-append-drop}

-- a list is any front of it and more
pub front_of : (n : ℕ) (xs : List ℕ) → (more : List ℕ) × (xs ≡ take n xs ++ more)
front_of n xs = (drop n xs, sym (take-append-drop n xs))
