-- What a journal that was opened says of a node that was not.
use Rattle.std.proofs.Common.{◌≡◌, inl, inr, ℕ, ◌^◌, ◌≤◌, ◌<◌, List, length, sym, ap, subst, arith}
use Rattle.std.specs.Prelude.{◌≢◌}
use Rattle.ncc_tx.specs.declared.entry.Saved.{Saved}
use Rattle.ncc_log.specs.declared.error.JournalError.{JournalError}
use Rattle.ncc_log.specs.declared.error.JournalError.TheVariants as e
use Rattle.ncc_log.specs.Saves.{IsFree, IsOrFree, IsRefusal, Refuses, Saves}
use Rattle.ncc_log.proofs.Refusals.{apart}
use Rattle.ncc_log.proofs.Rows.{saves_kept}
use Rattle.ncc_log.proofs.Save.{one_saves}
use Rattle.ncc_member.specs.Opening.{NoStart, StandsTooLong}

module _ (cluster member limit : ℕ) (b : List ℕ) (saved : Saved) (saves : Saves cluster member b saved) where
  same_long : (s : Saved) → Saves cluster member b s → length s.log ≡ length saved.log
  same_long s h = ap (λ (x : Saved). length x.log) (one_saves cluster member b s saved h saves)

  -- where the log is not too long only memory is wanting
  pub free_start : (s : Saved) (error : JournalError) → Saves cluster member b s → length s.log ≤ limit → NoStart limit saved error →
      IsFree error
  free_start s error h short (inl is) = subst (λ (x : JournalError). IsFree x) (sym is) tt
  free_start s error h short (inr (inl (is, longer))) = absurd (omega (arith, longer, same_long s h, short))
  free_start s error h short (inr (inr (is, bad))) = absurd (bad (saves_kept cluster member b saved saves))

  -- where it is, that is said
  pub long_start : (error : JournalError) → NoStart limit saved error → IsOrFree e.Full error
  long_start error (inl is) = inr (subst (λ (x : JournalError). IsFree x) (sym is) tt)
  long_start error (inr (inl (is, longer))) = inl is
  long_start error (inr (inr (is, bad))) = absurd (bad (saves_kept cluster member b saved saves))

  -- and it is no refusal of the bytes
  pub other_start : (error : JournalError) → NoStart limit saved error → error ≢ e.Full → IsRefusal cluster member b error
  other_start error (inl is) other = subst (λ (x : JournalError). IsRefusal cluster member b x) (sym is) tt
  other_start error (inr (inl (is, longer))) other = absurd (other is)
  other_start error (inr (inr (is, bad))) other = absurd (bad (saves_kept cluster member b saved saves))

  pub never_refused : (error : JournalError) → cluster < 2 ^ 64 → Refuses cluster member b error → ⊥
  never_refused error few r = apart cluster member b saved error few saves r

  pub never_long : length saved.log ≤ limit → StandsTooLong cluster member b limit → ⊥
  never_long short t = omega (arith, t.longer, same_long t.part t.saves, short)
