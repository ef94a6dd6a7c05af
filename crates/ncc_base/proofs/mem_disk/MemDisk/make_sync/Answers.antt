use Rattle.std.proofs.Common.{rules, ◌≡◌, ℕ, List, [], ◌∷◌, ◌++◌, length, Bool, true, false, refl, sym, ◌∙◌, ap}
use Rattle.std.proofs.Common.{arith}
use Rattle.std.proofs.lemmas.List.{append-nil}
use Rattle.std.specs.Prelude.{if◌then◌else◌}
use Rattle.ncc_base.specs.Faults.{one_more}
use Rattle.ncc_base.specs.Disk.{Sync}
use Rattle.ncc_base.specs.MemDisk.{Device, Done, MemState, byte_at, course, did_sync, goes, is_written, next, one}
use Rattle.ncc_base.specs.Noted.{unfolded}
use Rattle.ncc_base.specs.declared.mem_disk.Range.{Range}
use Rattle.ncc_base.specs.declared.mem_disk.Setting.{Setting}
use Rattle.ncc_base.specs.declared.mem_disk.Noted.TheVariants as k
use Rattle.ncc_base.proofs.Kept.{device_noted, kept_after, kept_same, kept_shorter, saturated, unfolds}
use Rattle.ncc_base.proofs.mem_disk.MemDisk.make_sync.Goals as goal

abbrev call : Bool → Done
call ok = record { asked = Sync ok; made = ok }

pub settle-requires-clause-shorter : goal.settle-requires-clause-shorter
settle-requires-clause-shorter c =
    omega (
      arith,
      kept_shorter _ _ _ _ _ _ c.self.invariant.0,
      c.self.inside.stable.ok,
      ap (λ (l : List ℕ). length l) c.as_slice.ensures.value,
    )

pub settle-requires-clause-same : goal.settle-requires-clause-same
settle-requires-clause-same c p le out =
    kept_same _ _ _ _ _ _ c.self.invariant.0 p (ap (λ (l : List Range). is_written p l) (sym c.as_slice-then-ok.ensures.value)
    ∙ out) (omega (arith, le, c.self.inside.stable.ok))
    ∙ ap (λ (l : List ℕ). byte_at l p) (sym c.as_slice.ensures.value)

-- a sync that succeeds, and one that does not
synced : (seen stable stable' : List ℕ) (ranges ranges' : List Range) (ok : Bool) → ok ≡ true → stable' ≡ seen → ranges' ≡ []
    → one (call ok) (record { seen = seen; stable = stable; ranges = ranges }) ≡ record { seen = seen; stable = stable'; ranges = ranges' }
synced seen stable stable' ranges ranges' ok e s r =
    ap (λ (b : Bool). one (record { asked = Sync ok; made = b }) (record { seen = seen; stable = stable; ranges = ranges })) e
    ∙ sym (ap (λ (l : List ℕ). record { seen = seen; stable = l; ranges = ranges' }) s
    ∙ ap (λ (l : List Range). record { seen = seen; stable = seen; ranges = l }) r)

not_synced : (seen stable : List ℕ) (ranges : List Range) (ok : Bool) → ok ≡ false →
    one (call ok) (record { seen = seen; stable = stable; ranges = ranges }) ≡ record { seen = seen; stable = stable; ranges = ranges }
not_synced seen stable ranges ok e = ap (λ (b : Bool). one (record { asked = Sync ok; made = b }) (record {
  seen = seen;
  stable = stable;
  ranges = ranges;
})) e

pub invariant_of-self : goal.invariant_of-self
invariant_of-self c = (
  kept_after _ _ _ _ _ _ c.self.invariant.0 (k.Sync c.goes-ok.result) _ _ [] c.note.ensures.items
      (sym (append-nil c.self.inside.bytes.items)) refl _ _ _
      (synced c.self.inside.seen.items c.self.inside.stable.items _ c.self.inside.ranges.items _ c.goes-ok.result c.if-ok.true
      (c.settle.ensures.items ∙ c.as_slice.ensures.value) c.clear.ensures.items),
  omega (arith, c.settle.ensures.capacity, c.self.invariant.1),
)

pub invariant_of-self-2 : goal.invariant_of-self-2
invariant_of-self-2 c = (
  kept_after _ _ _ _ _ _ c.self.invariant.0 (k.Sync c.goes-ok.result) _ _ [] c.note.ensures.items
      (sym (append-nil c.self.inside.bytes.items)) refl _ _ _
      (not_synced c.self.inside.seen.items c.self.inside.stable.items c.self.inside.ranges.items c.goes-ok.result c.if-ok.false),
  c.self.invariant.1,
)

module _ (before : Device) (state : MemState) (view : before ≡ state.device) (ok : Bool) (past' : List Done) (setting' : Setting)
    (faults' : ℕ)
    (e : ok ≡ goes (course before.setting)) (p : past' ≡ before.past ++ call ok ∷ []) (s : setting' ≡ next before.setting)
    (f : faults' ≡ (if ok then before.faults else one_more before.faults)) where
  device : record { base = before.base; past = past'; setting = setting'; faults = faults' } ≡ did_sync state.device
  device = device_noted before (call (goes (course before.setting))) past' setting' faults'
      (p ∙ ap (λ (b : Bool). before.past ++ call b ∷ []) e) s
      (f ∙ ap (λ (b : Bool). if b then before.faults else one_more before.faults) e)
      ∙ ap did_sync view

pub returns-then-ok-clause-device : goal.returns-then-ok-clause-device
returns-then-ok-clause-device c =
    device (record {
      base = c.self.inside.base.items;
      past = unfolded c.self.inside.past.items c.self.inside.bytes.items;
      setting = c.self.inside.setting;
      faults = c.self.inside.faults;
    })
    c.args.self.now (ap (λ (m : MemState). m.device) c.self.view_is) c.goes-ok.result _ _ _
    (c.goes-ok.ensures ∙ ap goes c.advance.ensures.course)
    (unfolds _ _ _ _ _ _ c.self.invariant.0 (k.Sync c.goes-ok.result) _ _ [] c.note.ensures.items
    (sym (append-nil c.self.inside.bytes.items)) refl)
    c.advance.ensures.next
    (sym (ap (λ (b : Bool). if b then c.self.inside.faults else one_more c.self.inside.faults) c.if-ok.true))

pub returns-clause-device : goal.returns-clause-device
returns-clause-device c =
    device (record {
      base = c.self.inside.base.items;
      past = unfolded c.self.inside.past.items c.self.inside.bytes.items;
      setting = c.self.inside.setting;
      faults = c.self.inside.faults;
    })
    c.args.self.now (ap (λ (m : MemState). m.device) c.self.view_is) c.goes-ok.result _ _ _
    (c.goes-ok.ensures ∙ ap goes c.advance.ensures.course)
    (unfolds _ _ _ _ _ _ c.self.invariant.0 (k.Sync c.goes-ok.result) _ _ [] c.note.ensures.items
    (sym (append-nil c.self.inside.bytes.items)) refl)
    c.advance.ensures.next
    (saturated c.self.inside.faults c.saturating_add-self-inside.result c.saturating_add-self-inside.ensures (search rules)
    ∙ sym (ap (λ (b : Bool). if b then c.self.inside.faults else one_more c.self.inside.faults) c.if-ok.false))
