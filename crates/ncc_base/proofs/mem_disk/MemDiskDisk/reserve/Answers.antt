use Rattle.std.proofs.Common.{◌≡◌, ◌∙◌, ℕ, List, [], ap, arith, refl}
use Rattle.ncc_base.specs.MemDisk.{Device, MemState, Went}
use Rattle.ncc_base.specs.Noted.{unfolded}
use Rattle.ncc_base.specs.declared.mem_disk.Noted.{Noted}
use Rattle.ncc_base.specs.declared.mem_disk.Setting.{Setting}
use Rattle.ncc_base.proofs.Calls.{went_same}
use Rattle.ncc_base.proofs.Kept.{kept_shorter}
use Rattle.ncc_base.proofs.mem_disk.MemDiskDisk.reserve.Goals as goal

-- nothing was asked
went_kept : (base : List ℕ) (past past' : List Noted) (flat flat' : List ℕ) (setting : Setting) (faults : ℕ) (old : Device) →
    record { base = base; past = unfolded past flat; setting = setting; faults = faults } ≡ old → past' ≡ past → flat' ≡ flat →
    Went old [] (record { base = base; past = unfolded past' flat'; setting = setting; faults = faults })
went_kept base past past' flat flat' setting faults old is p f =
    let D : List Noted → List ℕ → Device = λ xs l. record { base = base; past = unfolded xs l; setting = setting; faults = faults } in
    went_same old (D past' flat') (ap (λ (xs : List Noted). D xs flat') p ∙ ap (λ (l : List ℕ). D past l) f ∙ is)

pub returns-in_err-reserve-clause-went : goal.returns-in_err-reserve-clause-went
returns-in_err-reserve-clause-went c =
    went_kept c.self.inside.base.items c.self.inside.past.items _ c.self.inside.bytes.items _ c.self.inside.setting
    c.self.inside.faults c.args.self.now.device (ap (λ (m : MemState). m.device) c.self.view_is) c.reserve.ensures.items refl

pub returns-in_err-reserve-2-clause-went : goal.returns-in_err-reserve-2-clause-went
returns-in_err-reserve-2-clause-went c =
    went_kept c.self.inside.base.items c.self.inside.past.items _ c.self.inside.bytes.items _ c.self.inside.setting
    c.self.inside.faults c.args.self.now.device (ap (λ (m : MemState). m.device) c.self.view_is) c.reserve.ensures.items refl

pub returns-in_err-reserve-3-clause-went : goal.returns-in_err-reserve-3-clause-went
returns-in_err-reserve-3-clause-went c =
    went_kept c.self.inside.base.items c.self.inside.past.items _ c.self.inside.bytes.items _ c.self.inside.setting
    c.self.inside.faults c.args.self.now.device (ap (λ (m : MemState). m.device) c.self.view_is) c.reserve.ensures.items
    c.reserve-3.ensures.items

pub returns-in_err-reserve-4-clause-went : goal.returns-in_err-reserve-4-clause-went
returns-in_err-reserve-4-clause-went c =
    went_kept c.self.inside.base.items c.self.inside.past.items _ c.self.inside.bytes.items _ c.self.inside.setting
    c.self.inside.faults c.args.self.now.device (ap (λ (m : MemState). m.device) c.self.view_is) c.reserve.ensures.items
    c.reserve-3.ensures.items

pub returns-clause-went : goal.returns-clause-went
returns-clause-went c =
    went_kept c.self.inside.base.items c.self.inside.past.items _ c.self.inside.bytes.items _ c.self.inside.setting
    c.self.inside.faults c.args.self.now.device (ap (λ (m : MemState). m.device) c.self.view_is) c.reserve.ensures.items
    c.reserve-3.ensures.items

pub returns-in_err-reserve-4-clause-enough : goal.returns-in_err-reserve-4-clause-enough
returns-in_err-reserve-4-clause-enough c calls bytes = absurd (omega (
  arith,
  kept_shorter _ _ _ _ _ _ c.self.invariant.0,
  bytes,
  ap (λ (m : MemState). m.room_bytes) c.self.view_is,
  c.in_err-reserve-4.ensures.full,
  c.saturating_add.ensures,
  c.saturating_sub-behind.ensures,
  c.len.ensures,
  c.len-2.ensures,
  c.self.invariant.1,
  c.self.inside.stable.ok,
  c.self.inside.seen.ok,
))
