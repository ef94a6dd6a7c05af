-- What the calls of a disk do to what it holds, and what a crash may leave. A content is the list of a file's bytes.
use Rattle.std.specs.Prelude.{◌≡◌, ◌⊎◌, ℕ, ◌+◌, ◌≤◌, max, Bool, List, ◌∷◌, [], ◌++◌, length, take, drop}

-- ---- what the device was asked

-- a write at a place, of these bytes, or a sync; each with whether it succeeded
pub data Asked : Type 0 where
  Write : ℕ → List ℕ → Bool → Asked
  Sync : Bool → Asked

-- with one call more: what was asked since an earlier moment has it behind
abbrev pub AsksOneMore : ℕ → Asked → (ℕ → List Asked → Type 0) → (ℕ → List Asked → Type 0) → Type 0
AsksOneMore now call old new = (t : ℕ) (calls : List Asked) → t ≤ now → old t calls → new t (calls ++ call ∷ [])

-- no write and no sync was asked
abbrev pub AsksNothing : ℕ → (ℕ → List Asked → Type 0) → (ℕ → List Asked → Type 0) → Type 0
AsksNothing now old new = (t : ℕ) (calls : List Asked) → t ≤ now → old t calls → new t calls

-- ---- what is held, and what a crash may leave

-- new is old with these bytes at this place
abbrev pub Holds : List ℕ → ℕ → List ℕ → List ℕ → Type 0
Holds old at bytes new = new ≡ take at old ++ bytes ++ drop (at + length bytes) old

-- any bytes in the range and past the old end, any length between, and the same elsewhere
pub record Torn (at n : ℕ) (old new : List ℕ) : Type 0 where
  pub before : take at new ≡ take at old
  pub after : drop (at + n) new ≡ drop (at + n) old
  pub no_shorter : length old ≤ length new
  pub no_longer : length new ≤ max (length old) (at + n)

-- each content that a crash may leave now is one that it might have left before, after a step
abbrev pub Follows : (List ℕ → List ℕ → Type 0) → (List ℕ → Type 0) → (List ℕ → Type 0) → Type 0
Follows step old new = (c : List ℕ) → new c → (d : List ℕ) × old d × step d c

-- a crash leaves this content and no other
abbrev pub Only : List ℕ → (List ℕ → Type 0) → Type 0
Only content images = (c : List ℕ) → images c → c ≡ content

-- what a read gives, and what a crash may leave, are as they were
pub record Stays (seen_old seen_new : List ℕ) (old new : List ℕ → Type 0) : Type 0 where
  pub seen : seen_new ≡ seen_old
  pub no_more : (c : List ℕ) → new c → old c
  pub no_less : (c : List ℕ) → old c → new c

-- Time goes on: a crash since t might have left what it might have left before, or what it may leave now.
pub record Elapses (before now : ℕ) (past since : ℕ → List ℕ → Type 0) (images : List ℕ → Type 0) : Type 0 where
  pub later : before ≤ now
  pub nothing_else : (t : ℕ) (c : List ℕ) → t ≤ before → since t c → past t c ⊎ images c
  pub keeps : (t : ℕ) (c : List ℕ) → t ≤ before → past t c → since t c

-- A crash at any moment from the old one to the new one leaves a content that has P; `before` says it of a longer run.
pub record LeavesOnly {D : Type 0} (moment : D → ℕ) (left_since : D → ℕ → List ℕ → Type 0) (old new : D) (P : List ℕ →
    Type 0) : Type 0 where
  pub later : moment old ≤ moment new
  pub each : (c : List ℕ) → left_since new (moment old) c → P c
  pub before : (t : ℕ) (c : List ℕ) → t ≤ moment old → left_since new t c → left_since old t c ⊎ P c
