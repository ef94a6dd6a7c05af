-- Why a journal's part makes no node.
use Rattle.std.specs.Prelude.{◌≡◌, ◌⊎◌, ℕ, ◌<◌, List, length}
use Rattle.ncc_tx.specs.declared.entry.Saved.{Saved}
use Rattle.ncc_tx.specs.Kept.{MayKeep}
use Rattle.ncc_log.specs.declared.error.JournalError.{JournalError}
use Rattle.ncc_log.specs.declared.error.JournalError.TheVariants.{Damaged, Full, Memory}
use Rattle.ncc_log.specs.Saves.{Saves}

-- the log is too long, or there is no memory; a part that may not be kept is none of a journal
abbrev pub NoStart : ℕ → Saved → JournalError → Type 0
NoStart limit s e = (e ≡ Memory) ⊎ (((e ≡ Full) × (limit < length s.log)) ⊎ ((e ≡ Damaged 14) × (MayKeep s → ⊥)))

-- bytes that stand for a part with a longer log
pub record StandsTooLong (cluster member : ℕ) (b : List ℕ) (limit : ℕ) : Type 0 where
  pub part : Saved
  pub saves : Saves cluster member b part
  pub longer : limit < length part.log
