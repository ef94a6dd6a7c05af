-- The lists that a disk in memory keeps, after one call more.
use Rattle.std.proofs.Common.{◌≡◌, ℕ, ◌+◌, ◌≤◌, List, [], ◌∷◌, ◌++◌, length, refl, sym, ◌∙◌, ap, subst, arith}
use Rattle.std.proofs.Common.{length-append, false}
use Rattle.std.specs.Prelude.{if◌then◌else◌, min, ◌^◌, ◌<◌}
use Rattle.std.proofs.lemmas.Bool.Decides.{nat_tests}
use Rattle.ncc_base.specs.Faults.{one_more}
use Rattle.ncc_base.specs.declared.mem_disk.Setting.{Setting}
use Rattle.ncc_base.specs.MemDisk.{Content, Device, Done, after, begun, byte_at, course, goes, is_written, next, noted, one}
use Rattle.ncc_base.specs.MemLaws.{sane_content}
use Rattle.ncc_base.specs.Noted.{IsKept, done, count_of, total, unfolded}
use Rattle.ncc_base.specs.declared.mem_disk.Range.{Range}
use Rattle.ncc_base.specs.declared.mem_disk.Noted.{Noted}
use Rattle.ncc_base.proofs.Past.{after_more, total_more, unfolded_more}

module _ (base stable seen : List ℕ) (ranges : List Range) (past : List Noted) (flat : List ℕ)
    (kept : IsKept base stable seen ranges past flat) where
  abbrev now : Content
  now = record { seen = seen; stable = stable; ranges = ranges }

  pub kept_shorter : length stable ≤ length seen
  kept_shorter = (subst (λ (c : Content). length c.stable ≤ length c.seen) kept.content
      ((sane_content (unfolded past flat) base).no_shorter))

  pub kept_same : (p : ℕ) → is_written p ranges ≡ false → ((p + 1) ≤ length stable) → byte_at stable p ≡ byte_at seen p
  kept_same p out le =
      let P : Content → Type 0 = λ c. (p : ℕ) → is_written p c.ranges ≡ false → (p + 1) ≤ length c.stable →
      byte_at c.stable p ≡ byte_at c.seen p in
      subst P kept.content (λ q o l. sym ((sane_content (unfolded past flat) base).same q (omega (arith, l)) o)) p out le

  module _ (x : Noted) (past' : List Noted) (flat' bytes : List ℕ) (noted : past' ≡ past ++ x ∷ []) (more : flat' ≡
      flat ++ bytes) (all : count_of x ≡ length bytes) where
    pub unfolds : unfolded past' flat' ≡ unfolded past flat ++ done x bytes ∷ []
    unfolds = ap (λ (l : List Noted). unfolded l flat') noted ∙ ap (λ (l : List ℕ). unfolded (past ++ x ∷ []) l) more
        ∙ unfolded_more past x flat bytes kept.used all

    pub kept_after : (stable' seen' : List ℕ) (ranges' : List Range) →
        one (done x bytes) now ≡ record { seen = seen'; stable = stable'; ranges = ranges' } → IsKept base stable' seen' ranges' past' flat'
    kept_after stable' seen' ranges' becomes = record {
      content =
          ap (λ (l : List Done). after l (begun base)) unfolds
          ∙ after_more (unfolded past flat) (done x bytes) (begun base)
          ∙ ap (λ (c : Content). one (done x bytes) c) kept.content
          ∙ becomes;
      used =
          ap (λ (l : List Noted). total l) noted ∙ total_more past x
          ∙ omega (arith, kept.used, all, ap (λ (l : List ℕ). length l) more, length-append flat bytes);
    }

-- the device after one call more
pub device_noted : (d : Device) (x : Done) (past' : List Done) (setting' : Setting) (faults' : ℕ) → past' ≡ d.past ++ x ∷ [] →
    setting' ≡ next d.setting
    → faults' ≡ (if goes (course d.setting) then d.faults else one_more d.faults)
    → record { base = d.base; past = past'; setting = setting'; faults = faults' } ≡ noted x d
device_noted d x past' setting' faults' p s f =
    ap (λ (l : List Done). record { base = d.base; past = l; setting = setting'; faults = faults' }) p
    ∙ ap (λ (v : Setting). record { base = d.base; past = d.past ++ x ∷ []; setting = v; faults = faults' }) s
    ∙ ap (λ (n : ℕ). record { base = d.base; past = d.past ++ x ∷ []; setting = next d.setting; faults = n }) f

pub saturated : (f r : ℕ) → r ≡ min (f + 1) 18446744073709551615 → f < 2 ^ 64 → r ≡ one_more f
saturated f r e le = grind (arith, nat_tests)

-- nothing was asked yet
unfolds_nothing : (flat : List ℕ) → unfolded [] flat ≡ []
unfolding unfolded
unfolds_nothing flat = refl

after_nothing : (c : Content) → after [] c ≡ c
unfolding after
after_nothing c = refl

total_nothing : total [] ≡ 0
unfolding total
total_nothing = refl

pub unfolds_none : (past : List Noted) (flat : List ℕ) → past ≡ [] → unfolded past flat ≡ []
unfolds_none past flat e = ap (λ (l : List Noted). unfolded l flat) e ∙ unfolds_nothing flat

pub kept_from : (base stable seen : List ℕ) (ranges : List Range) (past : List Noted) (flat : List ℕ)
    → stable ≡ base → seen ≡ base → ranges ≡ [] → past ≡ [] → flat ≡ [] → IsKept base stable seen ranges past flat
kept_from base stable seen ranges past flat st se r p f = record {
  content =
      ap (λ (l : List Done). after l (begun base)) (unfolds_none past flat p)
      ∙ after_nothing (begun base)
      ∙ sym (ap (λ (l : List ℕ). record { seen = l; stable = stable; ranges = ranges }) se
      ∙ ap (λ (l : List ℕ). record { seen = base; stable = l; ranges = ranges }) st
      ∙ ap (λ (l : List Range). record { seen = base; stable = base; ranges = l }) r);
  used = ap (λ (l : List Noted). total l) p ∙ total_nothing ∙ sym (ap (λ (l : List ℕ). length l) f);
}

pub device_from : (base : List ℕ) (past : List Noted) (flat : List ℕ) (setting : Setting) (faults : ℕ) (want : List ℕ) →
    base ≡ want → past ≡ []
    → ◌≡◌ {A = Device} (record { base = base; past = unfolded past flat; setting = setting; faults = faults }) (record {
      base = want;
      past = [];
      setting = setting;
      faults = faults;
    })
device_from base past flat setting faults want b p =
    let D : List ℕ → List Done → Device = λ l ds. record { base = l; past = ds; setting = setting; faults = faults } in
    ap (λ (l : List ℕ). D l (unfolded past flat)) b ∙ ap (λ (ds : List Done). D want ds) (unfolds_none past flat p)
