-- What each move of a machine keeps, all of them keep.
use Rattle.std.proofs.Common.{◌≡◌, ℕ, zero, suc, ◌+◌, Option, Some, None, List, length, refl}
use Rattle.ncc_stream.specs.Stream.{Stand, Move, run, going}
use Rattle.ncc_stream.proofs.Going.{at_none, at_some}

module _ {C E F W : Type 0} (move : Move C E F W) (P : C → Type 0)
    (each : (c : C) (xs : List E) (fs : List F) (t : Stand C E F W) → move c xs fs ≡ Some t → P c → P t.core) where
  keeps_at : (n : ℕ) (c : C) (xs : List E) (fs : List F) (o : Option (Stand C E F W)) → move c xs fs ≡ o
      → ((d : C) (ys : List E) (gs : List F) → P d → P (run move n d ys gs).core) → P c → P (run move (suc n) c xs fs).core
  keeps_at n c xs fs None e ih h = rw (at_none move (suc n) c xs fs e) h
  keeps_at n c xs fs (Some t) e ih h = rw (at_some move n c xs fs t e) (ih t.core t.items t.facts (each c xs fs t e h))

  keeps_by : (n : ℕ) (c : C) (xs : List E) (fs : List F) → P c → P (run move n c xs fs).core
  unfolding run
  keeps_by zero c xs fs h = h
  keeps_by (suc n) c xs fs h = keeps_at n c xs fs (move c xs fs) refl (λ d ys gs. keeps_by n d ys gs) h

  pub keeps : (c : C) (xs : List E) (fs : List F) → P c → P (going move c xs fs).core
  unfolding going
  keeps c xs fs h = keeps_by (length xs + length fs) c xs fs h
