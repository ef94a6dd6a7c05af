-- A list with room for more. It is no part of PackStream: lists of all crates are made of it.
use Rattle.std.specs.Prelude.{ℕ, List, refl}
use Rattle.std.specs.Coded.{Coded, code_by, coded×, coded_ℕ, coded_list}

-- the items, and for how many more there is room
pub record Stock (A : Type 0) : Type 0 where
  pub items : List A
  pub room : ℕ

-- it is stored as the pair of both
abbrev pub stock_code : {A : Type 0} → Coded A → Coded (Stock A)
stock_code {A} code = code_by (List A × ℕ) (coded× (coded_list code) coded_ℕ) (λ s. (s.items, s.room))
    (λ p. record { items = p.0; room = p.1 }) (λ _. refl)
