use Rattle.std.proofs.Common.{rules, ◌≡◌, ℕ, List, [], ◌∷◌, ◌++◌, length, Bool, true, false, refl, sym, ◌∙◌, ap, arith}
use Rattle.std.specs.Prelude.{if◌then◌else◌}
use Rattle.ncc_base.specs.Faults.{one_more}
use Rattle.ncc_base.specs.Disk.{Write}
use Rattle.ncc_base.specs.MemDisk.{Device, Done, course, goes, next, one, with_bytes, writes, wrote, MemState}
use Rattle.ncc_base.specs.Noted.{unfolded}
use Rattle.ncc_base.specs.declared.mem_disk.Course.{Course}
use Rattle.ncc_base.specs.declared.mem_disk.Setting.{Setting}
use Rattle.ncc_base.specs.declared.mem_disk.Noted.TheVariants as k
use Rattle.ncc_base.specs.declared.mem_disk.Range.{Range}
use Rattle.ncc_base.proofs.Kept.{device_noted, kept_after, saturated, unfolds}
use Rattle.ncc_base.proofs.mem_disk.MemDisk.make_write.Goals as goal

-- the call, by how it goes
abbrev call : ℕ → List ℕ → Course → Done
call at bytes how = record { asked = Write at bytes (goes how); made = writes how }

same_call : (at : ℕ) (bytes : List ℕ) (h : Course) (s : Setting) (g w : Bool) → h ≡ course s → g ≡ goes h → w ≡ writes h →
    record { asked = Write at bytes g; made = w } ≡ call at bytes (course s)
same_call at bytes h s g w e eg ew =
    ap (λ (b : Bool). record { asked = Write at bytes b; made = w }) eg
    ∙ ap (λ (b : Bool). record { asked = Write at bytes (goes h); made = b }) ew ∙ ap (λ (c : Course). call at bytes c) e

-- a write that is made, and one that is not
made : (at : ℕ) (bytes seen stable seen' : List ℕ) (ranges ranges' : List Range) (g w : Bool) → w ≡ true →
    seen' ≡ with_bytes at bytes seen → ranges' ≡ ranges ++ record { at = at; count = length bytes } ∷ []
    → one (record { asked = Write at bytes g; made = w }) (record { seen = seen; stable = stable; ranges = ranges }) ≡
    record { seen = seen'; stable = stable; ranges = ranges' }
made at bytes seen stable seen' ranges ranges' g w yes_made s r =
    ap (λ (b : Bool). one (record { asked = Write at bytes g; made = b }) (record {
      seen = seen;
      stable = stable;
      ranges = ranges;
    })) yes_made
    ∙ sym (ap (λ (l : List ℕ). record { seen = l; stable = stable; ranges = ranges' }) s
    ∙ ap (λ (l : List Range). record { seen = with_bytes at bytes seen; stable = stable; ranges = l }) r)

not_made : (at : ℕ) (bytes seen stable : List ℕ) (ranges : List Range) (g w : Bool) → w ≡ false
    → one (record { asked = Write at bytes g; made = w }) (record { seen = seen; stable = stable; ranges = ranges }) ≡
    record { seen = seen; stable = stable; ranges = ranges }
not_made at bytes seen stable ranges g w no_made =
    ap (λ (b : Bool). one (record { asked = Write at bytes g; made = b }) (record {
      seen = seen;
      stable = stable;
      ranges = ranges;
    })) no_made

pub invariant_of-self : goal.invariant_of-self
invariant_of-self c = (
  kept_after _ _ _ _ _ _ c.self.invariant.0 (k.Write c.args.at
      (length c.args.bytes.now) c.goes.result c.writes.result) _ _ c.args.bytes.now c.note.ensures.items c.append.ensures.items refl _ _ _
      (made c.args.at c.args.bytes.now c.self.inside.seen.items c.self.inside.stable.items _ c.self.inside.ranges.items _ c.goes.result
      c.writes.result (c.writes.ensures ∙ ap writes c.in-Goes.is) c.put.ensures.holds c.note_range.ensures.items),
  omega (arith, c.put.ensures.len, c.requires.room, ap (λ (m : MemState). m.room_bytes) c.self.view_is, c.self.invariant.1),
)

pub invariant_of-self-in-Begins : goal.invariant_of-self-in-Begins
invariant_of-self-in-Begins c = (
  kept_after _ _ _ _ _ _ c.self.invariant.0 (k.Write c.args.at
      (length c.args.bytes.now) c.goes.result c.writes.result) _ _ c.args.bytes.now c.note.ensures.items c.append.ensures.items refl _ _ _
      (made c.args.at c.args.bytes.now c.self.inside.seen.items c.self.inside.stable.items _ c.self.inside.ranges.items _ c.goes.result
      c.writes.result (c.writes.ensures ∙ ap writes c.in-Begins.is) c.put-in-Begins.ensures.holds c.note_range-in-Begins.ensures.items),
  omega (arith, c.put-in-Begins.ensures.len, c.requires.room, ap (λ (m : MemState). m.room_bytes) c.self.view_is, c.self.invariant.1),
)

pub invariant_of-self-in-Fails : goal.invariant_of-self-in-Fails
invariant_of-self-in-Fails c = (
  kept_after _ _ _ _ _ _ c.self.invariant.0 (k.Write c.args.at
      (length c.args.bytes.now) c.goes.result c.writes.result) _ _ c.args.bytes.now c.note.ensures.items c.append.ensures.items refl _ _ _
      (not_made c.args.at c.args.bytes.now c.self.inside.seen.items c.self.inside.stable.items c.self.inside.ranges.items c.goes.result
      c.writes.result (c.writes.ensures ∙ ap writes c.in-Fails.is)),
  c.self.invariant.1,
)

module _ (before : Device) (state : MemState) (view : before ≡ state.device) (at : ℕ) (bytes : List ℕ) (h : Course) (g w : Bool)
    (past' : _) (setting' : Setting) (faults' : ℕ)
    (e : h ≡ course before.setting) (eg : g ≡ goes h) (ew : w ≡ writes h)
    (p : past' ≡ before.past ++ record { asked = Write at bytes g; made = w } ∷ []) (s : setting' ≡ next before.setting)
    (f : faults' ≡ (if goes h then before.faults else one_more before.faults)) where
  device : record { base = before.base; past = past'; setting = setting'; faults = faults' } ≡ wrote at bytes state.device
  device = device_noted before (call at bytes (course before.setting)) past' setting' faults'
      (p ∙ ap (λ (d : Done). before.past ++ d ∷ []) (same_call at bytes h before.setting g w e eg ew)) s
      (f ∙ ap (λ (c : Course). if goes c then before.faults else one_more before.faults) e)
      ∙ ap (λ (d : Device). wrote at bytes d) view

pub returns-in-Goes-clause-device : goal.returns-in-Goes-clause-device
returns-in-Goes-clause-device c =
    device (record {
      base = c.self.inside.base.items;
      past = unfolded c.self.inside.past.items c.self.inside.bytes.items;
      setting = c.self.inside.setting;
      faults = c.self.inside.faults;
    })
    c.args.self.now (ap (λ (m : MemState).
    m.device) c.self.view_is) c.args.at c.args.bytes.now c.advance-course.result c.goes.result c.writes.result _ _ _
    c.advance-course.ensures.course c.goes.ensures c.writes.ensures
    (unfolds _ _ _ _ _ _ c.self.invariant.0 (k.Write c.args.at
    (length c.args.bytes.now) c.goes.result c.writes.result) _ _ c.args.bytes.now c.note.ensures.items c.append.ensures.items refl)
    c.advance-course.ensures.next
    (sym (ap (λ (h : Course). if goes h then c.self.inside.faults else one_more c.self.inside.faults) c.in-Goes.is))

pub returns-in-Begins-clause-device : goal.returns-in-Begins-clause-device
returns-in-Begins-clause-device c =
    device (record {
      base = c.self.inside.base.items;
      past = unfolded c.self.inside.past.items c.self.inside.bytes.items;
      setting = c.self.inside.setting;
      faults = c.self.inside.faults;
    })
    c.args.self.now (ap (λ (m : MemState).
    m.device) c.self.view_is) c.args.at c.args.bytes.now c.advance-course.result c.goes.result c.writes.result _ _ _
    c.advance-course.ensures.course c.goes.ensures c.writes.ensures
    (unfolds _ _ _ _ _ _ c.self.invariant.0 (k.Write c.args.at
    (length c.args.bytes.now) c.goes.result c.writes.result) _ _ c.args.bytes.now c.note.ensures.items c.append.ensures.items refl)
    c.advance-course.ensures.next
    (saturated c.self.inside.faults c.saturating_add-self-inside.result c.saturating_add-self-inside.ensures (search rules)
    ∙ sym (ap (λ (h : Course). if goes h then c.self.inside.faults else one_more c.self.inside.faults) c.in-Begins.is))

pub returns-in-Fails-clause-device : goal.returns-in-Fails-clause-device
returns-in-Fails-clause-device c =
    device (record {
      base = c.self.inside.base.items;
      past = unfolded c.self.inside.past.items c.self.inside.bytes.items;
      setting = c.self.inside.setting;
      faults = c.self.inside.faults;
    })
    c.args.self.now (ap (λ (m : MemState).
    m.device) c.self.view_is) c.args.at c.args.bytes.now c.advance-course.result c.goes.result c.writes.result _ _ _
    c.advance-course.ensures.course c.goes.ensures c.writes.ensures
    (unfolds _ _ _ _ _ _ c.self.invariant.0 (k.Write c.args.at
    (length c.args.bytes.now) c.goes.result c.writes.result) _ _ c.args.bytes.now c.note.ensures.items c.append.ensures.items refl)
    c.advance-course.ensures.next
    (saturated c.self.inside.faults c.saturating_add-self-inside-in-Fails.result c.saturating_add-self-inside-in-Fails.ensures
    (search rules) ∙ sym (ap (λ (h : Course). if goes h then c.self.inside.faults else one_more c.self.inside.faults) c.in-Fails.is))
