-- What becomes of a device in memory, call by call.
use Rattle.std.proofs.Common.{◌≡◌, ℕ, ◌-◌, ◌<◌, ◌≤◌, List, [], ◌∷◌, refl, sym, ◌∙◌, ap, arith, Bool, true, false}
use Rattle.std.specs.Prelude.{if◌then◌else◌, nat_lt}
use Rattle.std.proofs.lemmas.Bool.Decides.{nat_tests}
use Rattle.ncc_base.specs.Disk.{Asked, Sync, Write}
use Rattle.ncc_base.specs.MemDisk.{Device, GoesAsSaid, Went, after, begun, called, content, course, crashed, did_sync}
use Rattle.ncc_base.specs.MemDisk.{effect, first_drawn, goes, is_said_ok, left_by, next, run, seeded, writes, wrote}
use Rattle.rand_core.specs.Pcg32Seed.{pcg32_seed}
use Rattle.rand_core.specs.Steps.{u32_at, word_bytes}
use Rattle.rand_pcg.specs.Pcg.{pcg32}
use Rattle.std.specs.Prelude.{◌%◌}
use Rattle.ncc_base.specs.declared.mem_disk.Course.{Course}
use Rattle.ncc_base.specs.declared.mem_disk.Course.TheVariants.{Goes, Begins, Fails}
use Rattle.ncc_base.specs.declared.mem_disk.Setting.{Setting}
use Rattle.ncc_base.specs.declared.mem_disk.Setting.TheVariants.{StopAt, Stopped}
use Rattle.ncc_base.proofs.Past.{after_more}

-- ---- runs

pub went_first : (old new : Device) (c : Asked) (cs : List Asked) → Went old (c ∷ cs) new → goes (course old.setting) ≡ is_said_ok c
unfolding GoesAsSaid
went_first old new c cs w = w.said.0

pub went_rest : (old new : Device) (c : Asked) (cs : List Asked) → Went old (c ∷ cs) new → Went (called c old) cs new
unfolding run GoesAsSaid
went_rest old new c cs w = record { device = w.device; said = w.said.1 }

pub went_end : (old new : Device) → Went old [] new → new ≡ old
unfolding run
went_end old new w = w.device

-- ---- contents

pub content_of_write : (at : ℕ) (bytes : List ℕ) (d : Device) → writes (course d.setting) ≡ true →
    content (wrote at bytes d) ≡ effect (Write at bytes true) (content d)
content_of_write at bytes d e =
    after_more d.past (record { asked = Write at bytes (goes (course d.setting)); made = writes (course d.setting) }) (begun d.base)
    ∙ ap (λ (b : Bool). if b then effect (Write at bytes true) (content d) else content d) e

pub content_of_sync : (d : Device) → goes (course d.setting) ≡ true → content (did_sync d) ≡ effect (Sync true) (content d)
content_of_sync d e =
    after_more d.past (record { asked = Sync (goes (course d.setting)); made = goes (course d.setting) }) (begun d.base)
    ∙ ap (λ (b : Bool). if b then effect (Sync true) (content d) else content d) e

pub content_of_no_sync : (d : Device) → goes (course d.setting) ≡ false → content (did_sync d) ≡ content d
content_of_no_sync d e =
    after_more d.past (record { asked = Sync (goes (course d.setting)); made = goes (course d.setting) }) (begun d.base)
    ∙ ap (λ (b : Bool). if b then effect (Sync true) (content d) else content d) e

pub crashed_seen : (word : ℕ) (d : Device) → (content (crashed word d)).seen ≡ left_by word (content d)
unfolding after
crashed_seen word d = refl

pub first_drawn_is : (word : ℕ) → (pcg32 (seeded word)).0 % 256 ≡ first_drawn word
unfolding first_drawn
first_drawn_is word = refl

-- worked: by `Pcg32::seed_from_u64` of rand_pcg, computed by another program
pub draws_A8 : first_drawn 2 ≡ 0xA8
unfolding first_drawn pcg32_seed word_bytes u32_at
draws_A8 = refl

pub draws_00 : first_drawn 140 ≡ 0
unfolding first_drawn pcg32_seed word_bytes u32_at
draws_00 = refl

-- ---- a setting to stop

pub goes_writes : (k : Course) → goes k ≡ true → writes k ≡ true
goes_writes Goes e = refl
goes_writes Begins e = absurd (cc)
goes_writes Fails e = absurd (cc)

-- a call that succeeds brings the stop nearer
pub stop_nears : (s : Setting) (call : ℕ) → s ≡ StopAt call → goes (course s) ≡ true → (1 < call) × (next s ≡ StopAt (call - 1))
stop_nears s call is e = go (nat_lt 1 call) refl where
  told : goes (course (StopAt call)) ≡ true
  told = sym (ap (λ (x : Setting). goes (course x)) is) ∙ e

  go : (b : Bool) → nat_lt 1 call ≡ b → (1 < call) × (next s ≡ StopAt (call - 1))
  go true h = (grind (arith, nat_tests), ap next is ∙ ap (λ (b : Bool). if b then StopAt (call - 1) else Stopped) h)
  go false h =
      let no : goes (course (StopAt call)) ≡ false = ap (λ (b : Bool). goes (if b then Goes else Begins)) h in
      absurd (cc)

-- one that fails is the one to stop at, and begins
pub stop_comes : (s : Setting) (call : ℕ) → s ≡ StopAt call → goes (course s) ≡ false → (call ≤ 1) × (writes (course s) ≡ true)
stop_comes s call is e = go (nat_lt 1 call) refl where
  told : goes (course (StopAt call)) ≡ false
  told = sym (ap (λ (x : Setting). goes (course x)) is) ∙ e

  go : (b : Bool) → nat_lt 1 call ≡ b → (call ≤ 1) × (writes (course s) ≡ true)
  go false h = (grind (arith, nat_tests), ap (λ (x : Setting). writes (course x)) is ∙ ap (λ (b : Bool). writes (if b then Goes else Begins)) h)
  go true h =
      let yes : goes (course (StopAt call)) ≡ true = ap (λ (b : Bool). goes (if b then Goes else Begins)) h in
      absurd (cc)
