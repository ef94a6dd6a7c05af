-- What clocks tell.
use Rattle.std.specs.Prelude.{◌≡◌, ℕ, ◌<◌, ◌^◌, List, [], ◌∷◌, ◌++◌, length, Option, Some, None}
use Rattle.std.specs.List.{All}
use Rattle.std.specs.List.Sorted.{IsNonDecreasing}

-- the last of some moments, or this one where there is none
abbrev pub last_of : ℕ → List ℕ → ℕ
last_of from [] = from
last_of from (m ∷ ms) = last_of m ms

-- Where all moments are told now, all were told before, and these have come behind them.
abbrev pub Tells : Option (List ℕ) → Option (List ℕ) → List ℕ → Type 0
Tells old None ms = Unit {0}
Tells None (Some new) ms = ⊥
Tells (Some old) (Some new) ms = new ≡ old ++ ms

-- moments that a clock may tell: there is one, they do not fall, and they are below 2^63
pub record MayTell (moments : List ℕ) : Type 0 where
  pub some : 0 < length moments
  pub rising : IsNonDecreasing moments
  pub below : All (λ m. m < 2 ^ 63) moments
