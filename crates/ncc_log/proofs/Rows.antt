-- Laws of what stands behind a closed gate, and the worked journal.
use Rattle.std.proofs.Common.{◌≡◌, inl, inr, ℕ, List, [], ◌∷◌, ◌++◌, length, drop, refl, sym, ◌∙◌, ap}
use Rattle.std.proofs.Common.{append_assoc, arith, None}
use Rattle.std.specs.Prelude.{IsTrue}
use Rattle.std.proofs.lemmas.List.Elements.{All-nil}
use Rattle.ncc_tx.specs.declared.entry.ChangeSet.{ChangeSet}
use Rattle.ncc_tx.specs.declared.entry.Item.{Item}
use Rattle.ncc_tx.specs.declared.entry.Saved.{Saved}
use Rattle.ncc_tx.specs.Items.{counted, entry_allowed}
use Rattle.ncc_tx.specs.Kept.{MayKeep, part_after, payload}
use Rattle.ncc_log.specs.declared.error.JournalError.TheVariants.{Damaged, Foreign}
use Rattle.ncc_log.specs.Header.{header, header_fault}
use Rattle.ncc_log.specs.Records.{MayStandBehind, Stands, closed, opened, recorded}
use Rattle.ncc_log.specs.Row.{change, new_file, part, saved_file, saved_front}
use Rattle.ncc_log.specs.Saves.{Refuses, Saves, nothing}
use Rattle.ncc_log.proofs.GateRead.{too_long}
use Rattle.ncc_log.proofs.Stand.{kept_by}

pub saves_kept : (cluster member : ℕ) (b : List ℕ) (s : Saved) → Saves cluster member b s → MayKeep s
saves_kept cluster member b s a = kept_by nothing s a.records first a.stands
  where
    first : MayKeep nothing
    first = record {
      term = omega arith;
      vote = omega arith;
      terms = tt;
      entries = All-nil (λ (i : Item). IsTrue (entry_allowed i.entry));
      few = omega arith;
    }

pub stands_on : (s t : Saved) (b : List ℕ) (c : ChangeSet) → Stands s b t → MayStandBehind t c →
    (front rest : List ℕ) × (b ≡ front ++ (0 ∷ rest))
    × ((gate : ℕ) (tail : List ℕ) (u : Saved) → (gate ≡ 0 → ⊥) → Stands (part_after t c) tail u →
    Stands s (front ++ (gate ∷ (recorded c ++ tail))) u)
stands_on s t b c (closed _ _ rest e) m =
    ([], rest, e, λ gate tail u is_open on. opened s u (gate ∷ (recorded c ++ tail)) gate c tail is_open m refl on)
stands_on s t b c (opened _ _ _ gate d rest is_open n e on) m =
    let r = stands_on (part_after s d) t rest c on m in
    let front : List ℕ = gate ∷ (recorded d ++ r.0) in (
      front,
      r.1,
      e ∙ ap (λ (l : List ℕ). gate ∷ (recorded d ++ l)) r.2 ∙ ap (λ (l : List ℕ). gate ∷ l) (sym (append_assoc (recorded d) r.0 (0 ∷ r.1))),
      λ g tail u o more.
          let inner : List ℕ = r.0 ++ (g ∷ (recorded c ++ tail)) in
          opened s u (front ++ (g ∷ (recorded c ++ tail))) gate d inner is_open n
          (ap (λ (l : List ℕ). gate ∷ l) (append_assoc (recorded d) r.0 (g ∷ (recorded c ++ tail)))) (r.3 g tail u o more),
    )

-- ---- the worked journal

pub new_row : header 1 2 ++ 0 ∷ [] ≡ new_file
unfolding header
new_row = refl

payload_21 : length (payload change) ≡ 21
unfolding payload counted
payload_21 = refl

may_row : MayStandBehind nothing change
may_row = record {
  follows = record {
    stands = record {
      term = omega arith;
      vote = omega arith;
      terms = tt;
      entries = All-nil (λ (i : Item). IsTrue (entry_allowed i.entry));
      short = omega (arith, payload_21);
    };
    term = omega arith;
    keep = omega arith;
    terms = tt;
  };
  few = omega arith;
}

record_row : drop 14 saved_file ≡ 1 ∷ (recorded change ++ (0 ∷ []))
unfolding recorded payload counted
record_row = refl

header_row : saved_file ≡ header 1 2 ++ drop 14 saved_file
unfolding header
header_row = refl

pub saved_row : Saves 1 2 saved_file part
saved_row = record {
  records = drop 14 saved_file;
  whole = header_row;
  stands = opened nothing part (drop 14 saved_file) 1 change (0 ∷ []) (λ h. cc) may_row record_row
      (closed part (0 ∷ []) [] refl);
}

right_row : header_fault 1 2 saved_front ≡ None
unfolding header_fault
right_row = refl

pub cut_row : Refuses 1 2 saved_front (Damaged 14)
cut_row = inr (
  14,
  refl,
  record {
    right = right_row;
    breaks = too_long nothing 14 (drop 14 saved_front) 1 21 [] (λ h. cc) (omega arith) refl (omega arith);
  },
)

pub changed_row : (rest : List ℕ) → Refuses 1 2 (0x4F ∷ rest) (Damaged 0)
unfolding header_fault
changed_row rest = inl refl

pub foreign_row : Refuses 1 3 saved_file (Foreign 1 2)
unfolding header_fault
foreign_row = inl refl
