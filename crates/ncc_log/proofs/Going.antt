-- How far the records of a disk were read.
use Rattle.std.proofs.Common.{◌≡◌, ℕ, ◌+◌, ◌<◌, List, drop, Some, sym, ap, ◌∙◌, subst}
use Rattle.ncc_base.specs.declared.disk.Disk.{Ghosts}
use Rattle.ncc_tx.specs.declared.entry.ChangeSet.{ChangeSet}
use Rattle.ncc_tx.specs.declared.entry.Saved.{Saved}
use Rattle.ncc_tx.specs.Kept.{part_after}
use Rattle.ncc_log.specs.Calls.{Looks}
use Rattle.ncc_log.specs.Opening.{Reached, StandsAt}
use Rattle.ncc_log.specs.Reading.{IsPart}
use Rattle.ncc_log.proofs.Moments.{WentOn, looks_on}
use Rattle.ncc_log.proofs.Reach.{reached_next}

-- from the first state of the disk to this one, its records up to a gate were read, and a part of it is held
pub record Going {D : Type 0} (g : Ghosts D) (first now : D) (file from : ℕ) (held : List ℕ) (gate : ℕ) (s : Saved) : Type 0 where
  pub inside : gate < file
  pub looks : Looks g first now
  pub part : g.told → IsPart (g.seen now) from held
  pub reached : g.told → Reached (g.seen first) gate s

module _ {D : Type 0} (g : Ghosts D) (law : WentOn g) (first now new : D) (file from behind : ℕ) (held more : List ℕ) (gate : ℕ)
    (s : Saved) (so_far : Going g first now file from held gate s) (looks : Looks g now new) where
  pub looks_here : Looks g first new
  looks_here = looks_on g law first now new so_far.looks looks

  pub going_next : (size : ℕ) (c : ChangeSet) (t : Saved) → (g.told → IsPart (g.seen now) behind more) →
      (g.told → StandsAt s (drop gate (g.seen now)) (Some (c, size))) → gate + (5 + size) < file → t ≡ part_after s c
      → Going g first new file behind more (gate + (5 + size)) t
  going_next size c t part stands inside is = record {
    inside = inside;
    looks = looks_here;
    part = λ told. subst (λ (l : List ℕ). IsPart l behind more) (sym (looks.stays told).seen) (part told);
    reached = λ told.
        let h = stands told in
        subst (Reached (g.seen first) (gate + (5 + size))) (sym is)
        (reached_next (g.seen first) gate size h.0 s c h.1 (so_far.reached told) h.2
        (ap (drop gate) (sym (so_far.looks.stays told).seen) ∙ h.3) h.4 h.5 h.6);
  }
