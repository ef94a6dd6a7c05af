use Rattle.std.proofs.Common.{◌≡◌, ◌∙◌, ℕ, List, ap, sym, arith}
use Rattle.ncc_base.specs.MemDisk.{Content, Device, MemState, content, crashed, left_by}
use Rattle.ncc_base.specs.Noted.{unfolded}
use Rattle.ncc_base.specs.declared.mem_disk.Range.{Range}
use Rattle.ncc_base.specs.declared.mem_disk.Setting.TheVariants.{Sound}
use Rattle.ncc_base.proofs.Drawn.{crash_image}
use Rattle.ncc_base.proofs.Kept.{device_from, kept_from}
use Rattle.ncc_base.proofs.mem_disk.MemDisk.crash.Goals as goal

pub invariant_of-self : goal.invariant_of-self
invariant_of-self c = (
  kept_from _ _ _ _ _ _ (c.in_ok-stable.ensures.items ∙ c.as_slice-4.ensures.value) (c.in_ok-seen.ensures.items
      ∙ c.as_slice-5.ensures.value) c.clear.ensures.items c.clear-2.ensures.items c.clear-3.ensures.items,
  omega (arith, c.in_ok-seen.ensures.len, c.in_ok-stable.ensures.len, c.in_ok-stable.stable.small),
)

pub returns-clause-exact : goal.returns-clause-exact
returns-clause-exact c =
    let inside : Device = record {
      base = c.self.inside.base.items;
      past = unfolded c.self.inside.past.items c.self.inside.bytes.items;
      setting = c.self.inside.setting;
      faults = c.self.inside.faults;
    } in
    let view : inside ≡ c.args.self.now.device = ap (λ (m : MemState). m.device) c.self.view_is in
    let L : List ℕ → List ℕ → List Range → List ℕ = λ se st rs. left_by c.args.word (record { seen = se; stable = st; ranges = rs }) in
    let base : c.in_ok-base.base.items ≡ left_by c.args.word (content inside) =
    c.in_ok-base.ensures
    ∙ ap (λ (l : List ℕ). L l c.as_slice.result.now c.as_slice-3.result.now) c.as_slice-2.ensures.value
    ∙ ap (λ (l : List ℕ). L c.self.inside.seen.items l c.as_slice-3.result.now) c.as_slice.ensures.value
    ∙ ap (λ (l : List Range). L c.self.inside.seen.items c.self.inside.stable.items l) c.as_slice-3.ensures.value
    ∙ ap (λ (k : Content). left_by c.args.word k) (sym c.self.invariant.0.content) in
    device_from _ _ _ Sound c.self.inside.faults _ base c.clear-2.ensures.items ∙ ap (λ (d : Device). crashed c.args.word d) view

pub returns-clause-image : goal.returns-clause-image
returns-clause-image c = crash_image c.args.word c.args.self.now.device _ (returns-clause-exact c)
