-- Where the reading of a journal has come.
use Rattle.std.specs.Prelude.{◌≡◌, ℕ, ◌^◌, ◌<◌, ◌≤◌, List, ◌∷◌, ◌++◌, length, take, drop, Option, Some, None}
use Rattle.std.specs.Int.{w32, to_be_bytes}
use Rattle.std.proofs.Common.{get_or}
use Rattle.ncc_tx.specs.declared.entry.ChangeSet.{ChangeSet}
use Rattle.ncc_tx.specs.declared.entry.Saved.{Saved}
use Rattle.ncc_tx.specs.Kept.{payload}
use Rattle.ncc_log.specs.declared.open.Gate.{Gate}
use Rattle.ncc_log.specs.declared.open.Gate.TheVariants.{Broken, Closed, Open}
use Rattle.ncc_log.specs.Records.{Breaks, MayStandBehind, Stands, recorded}
use Rattle.ncc_log.specs.Saves.{nothing}

-- what stands at a gate, by the bytes from it on
abbrev pub IsGate : List ℕ → Gate → Type 0
IsGate bytes Closed = (1 ≤ length bytes) × (get_or bytes 0 0 ≡ 0)
IsGate bytes (Open size) =
    (gate : ℕ) × (rest : List ℕ) × (gate ≡ 0 → ⊥) × (size < 2 ^ 32) × (bytes ≡ gate ∷ (to_be_bytes w32 size ++ rest))
IsGate bytes Broken = (length bytes < 5) × (1 ≤ length bytes → get_or bytes 0 0 ≡ 0 → ⊥)

-- behind an open gate stands the record of this change with a gate behind it, or the gate is closed
abbrev pub StandsAt : Saved → List ℕ → Option (ChangeSet × ℕ) → Type 0
StandsAt s b None = (rest : List ℕ) × (b ≡ 0 ∷ rest)
StandsAt s b (Some p) =
    (gate : ℕ) × (rest : List ℕ) × (gate ≡ 0 → ⊥) × (b ≡ gate ∷ (recorded p.0 ++ rest)) × (1 ≤ length rest)
    × MayStandBehind s p.0 × (p.1 ≡ length (payload p.0))

-- the records up to a gate lead to this part: whatever stands there goes on from it
pub record Reached (file : List ℕ) (gate : ℕ) (s : Saved) : Type 0 where
  pub inside : gate < length file
  pub front : 14 ≤ gate
  pub on : (tail : List ℕ) (t : Saved) → Stands s tail t → Stands nothing (drop 14 (take gate file) ++ tail) t
  pub breaks : (at : ℕ) → Breaks s gate (drop gate file) at → Breaks nothing 14 (drop 14 file) at
