-- Bytes stand for one part, or call for one refusal, and not both.
use Rattle.std.proofs.Common.{◌≡◌, inl, inr, ℕ, ◌^◌, ◌<◌, ◌≤◌, List, length, drop, Some}
use Rattle.std.proofs.Common.{None, sym, ap, ◌∙◌}
use Rattle.std.proofs.Common.{subst, arith}
use Rattle.std.proofs.lemmas.List.{drop_at}
use Rattle.ncc_tx.specs.declared.entry.Saved.{Saved}
use Rattle.ncc_log.specs.declared.error.JournalError.{JournalError}
use Rattle.ncc_log.specs.declared.error.JournalError.TheVariants.{Damaged, DiskFault, Foreign, Full, Memory}
use Rattle.ncc_log.specs.Header.{header, header_fault}
use Rattle.ncc_log.specs.Records.{Breaks, Stands, closed, opened}
use Rattle.ncc_log.specs.Saves.{IsFree, IsOrFree, IsRefusal, Refuses, Saves, nothing}
use Rattle.ncc_log.proofs.HeaderRead.{header_long, none_of_header}
use Rattle.ncc_log.proofs.Stand.{one_place, stands_or_breaks}

some_left : (s t : Saved) (b : List ℕ) → Stands s b t → 1 ≤ length b
some_left s t b (closed _ _ rest e) = omega (arith, ap length e)
some_left s t b (opened _ _ _ gate c rest is_open m e on) = omega (arith, ap length e)

none_wrong : (cluster member : ℕ) (b : List ℕ) (s : Saved) → cluster < 2 ^ 64 → Saves cluster member b s →
    header_fault cluster member b ≡ None
none_wrong cluster member b s few a =
    ap (header_fault cluster member) a.whole
    ∙ none_of_header cluster member a.records few (some_left nothing s a.records a.stands)

pub apart : (cluster member : ℕ) (b : List ℕ) (s : Saved) (e : JournalError) → cluster < 2 ^ 64 → Saves cluster member b s →
    Refuses cluster member b e → ⊥
apart cluster member b s e few a (inl wrong) =
    let bad : None ≡ Some e = sym (none_wrong cluster member b s few a) ∙ wrong in cc
apart cluster member b s e few a (inr (at, is, r)) =
    let behind : drop 14 b ≡ a.records = ap (drop 14) a.whole ∙ drop_at (header cluster member) a.records 14 (header_long cluster member) in
    stands_or_breaks nothing s a.records 14 at a.stands (subst (λ (l : List ℕ). Breaks nothing 14 l at) behind r.breaks)

pub one_refusal : (cluster member : ℕ) (b : List ℕ) (d e : JournalError) → Refuses cluster member b d → Refuses cluster member b e → d ≡ e
one_refusal cluster member b d e (inl x) (inl y) = let both : Some d ≡ Some e = sym x ∙ y in cc
one_refusal cluster member b d e (inl x) (inr (at, is, r)) = let bad : Some d ≡ None = sym x ∙ r.right in absurd (cc)
one_refusal cluster member b d e (inr (at, is, r)) (inl y) = let bad : Some e ≡ None = sym y ∙ r.right in absurd (cc)
one_refusal cluster member b d e (inr (at, is, r)) (inr (p, same, q)) =
    is ∙ ap Damaged (one_place nothing (drop 14 b) 14 at p r.breaks q.breaks) ∙ sym same

-- an error that came is the one that is called for, or a free one
pub is_or_free : (cluster member : ℕ) (b : List ℕ) (wanted e : JournalError) → Refuses cluster member b wanted →
    IsRefusal cluster member b e → IsOrFree wanted e
is_or_free cluster member b wanted DiskFault r h = inr tt
is_or_free cluster member b wanted Memory r h = inr tt
is_or_free cluster member b wanted Full r h = absurd h
is_or_free cluster member b wanted (Damaged at) r h = inl (one_refusal cluster member b (Damaged at) wanted h r)
is_or_free cluster member b wanted (Foreign c m) r h = inl (one_refusal cluster member b (Foreign c m) wanted h r)

-- where the bytes stand for a part, only a free error comes
pub free_only : (cluster member : ℕ) (b : List ℕ) (s : Saved) (e : JournalError) → cluster < 2 ^ 64 → Saves cluster member b s →
    IsRefusal cluster member b e → IsFree e
free_only cluster member b s DiskFault few a h = tt
free_only cluster member b s Memory few a h = tt
free_only cluster member b s Full few a h = h
free_only cluster member b s (Damaged at) few a h = apart cluster member b s (Damaged at) few a h
free_only cluster member b s (Foreign c m) few a h = apart cluster member b s (Foreign c m) few a h
