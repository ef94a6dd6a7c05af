-- What a disk in memory tells after a write and after a sync.
use Rattle.std.proofs.Common.{◌≡◌, ℕ, ◌≤◌, List, [], ◌∷◌, length, refl, sym, ◌∙◌, ap}
use Rattle.std.proofs.Common.{subst, Bool, true, false, if◌then◌else◌}
use Rattle.std.specs.Prelude.{Result, Ok, Err, OnOk, OnErr, is_ok}
use Rattle.ncc_base.specs.Disk.{Write, Sync, AsksOneMore, Elapses, Follows, Holds, Only, Stays, Torn}
use Rattle.ncc_base.specs.MemDisk.{AskedSince, Content, Device, Done, IsImage, LeftSince, begun, content, course, did_sync, effect}
use Rattle.ncc_base.specs.MemDisk.{GoesAsSaid, Went, goes, one, run, with_bytes, writes, wrote}
use Rattle.ncc_base.specs.MemLaws.{sane}
use Rattle.ncc_base.specs.declared.mem_disk.Course.{Course}
use Rattle.ncc_base.specs.declared.mem_disk.Course.TheVariants.{Goes, Begins, Fails}
use Rattle.ncc_base.proofs.Contents.{follows, follows_same, holds_torn, only_seen, torn_same}
use Rattle.ncc_base.proofs.Past.{after_more, asks, elapses}

abbrev Images : Content → List ℕ → Type 0
Images c = IsImage c

-- ---- a write

module _ (at : ℕ) (bytes : List ℕ) (old new : Device) (is : new ≡ wrote at bytes old) where
  abbrev call : Done
  call = record { asked = Write at bytes (goes (course old.setting)); made = writes (course old.setting) }

  holds_now : content new ≡ one call (content old)
  holds_now = ap content is ∙ after_more old.past call (begun old.base)

  pub time_of_write : Elapses (length old.past) (length new.past) (LeftSince old) (LeftSince new) (IsImage (content new))
  time_of_write = elapses old new call (ap (λ (d : Device). d.base) is) (ap (λ (d : Device). d.past) is)

  pub asks_write : (ok : Bool) → goes (course old.setting) ≡ ok →
      AsksOneMore (length old.past) (Write at bytes ok) (AskedSince old) (AskedSince new)
  asks_write ok e = subst (λ (b : Bool). AsksOneMore (length old.past) (Write at bytes b) (AskedSince old) (AskedSince new)) e
      (asks old new call (ap (λ (d : Device). d.base) is) (ap (λ (d : Device). d.past) is))

  pub written : goes (course old.setting) ≡ true → Holds (content old).seen at bytes (content new).seen
  written e = ap (λ (c : Content). c.seen) holds_now ∙ go (course old.setting) e where
    go : (k : Course) → goes k ≡ true →
        (if writes k then effect (Write at bytes (goes (course old.setting))) (content old) else content old).seen ≡
        with_bytes at bytes (content old).seen
    go Goes e = refl
    go Begins e = absurd (cc)
    go Fails e = absurd (cc)

  pub torn_by : at ≤ length (content old).seen → Torn at (length bytes) (content old).seen (content new).seen
  torn_by start = subst (λ (c : Content). Torn at (length bytes) (content old).seen c.seen) (sym holds_now)
      (go (writes (course old.setting))) where
        go : (b : Bool) → Torn at (length bytes) (content old).seen
            (if b then effect (Write at bytes (goes (course old.setting))) (content old) else content old).seen
        go true = holds_torn at bytes (content old).seen start
        go false = torn_same at (length bytes) (content old).seen

  pub crash_of_write : at ≤ length (content old).seen → Follows (Torn at (length bytes)) (IsImage (content old)) (IsImage (content new))
  crash_of_write start = subst (λ (c : Content). Follows (Torn at (length bytes)) (IsImage (content old)) (IsImage c))
      (sym holds_now) (go (writes (course old.setting))) where
        go : (b : Bool) → Follows (Torn at (length bytes)) (IsImage (content old))
            (IsImage (if b then effect (Write at bytes (goes (course old.setting))) (content old) else content old))
        go true = follows at bytes (goes (course old.setting)) (content old) start (sane old)
        go false = follows_same at (length bytes) (IsImage (content old))

-- ---- a sync

module _ (old new : Device) (is : new ≡ did_sync old) where
  abbrev sync : Done
  sync = record { asked = Sync (goes (course old.setting)); made = goes (course old.setting) }

  synced_now : content new ≡ one sync (content old)
  synced_now = ap content is ∙ after_more old.past sync (begun old.base)

  pub time_of_sync : Elapses (length old.past) (length new.past) (LeftSince old) (LeftSince new) (IsImage (content new))
  time_of_sync = elapses old new sync (ap (λ (d : Device). d.base) is) (ap (λ (d : Device). d.past) is)

  pub asks_sync : (ok : Bool) → goes (course old.setting) ≡ ok → AsksOneMore (length old.past) (Sync ok) (AskedSince old) (AskedSince new)
  asks_sync ok e = subst (λ (b : Bool). AsksOneMore (length old.past) (Sync b) (AskedSince old) (AskedSince new)) e
      (asks old new sync (ap (λ (d : Device). d.base) is) (ap (λ (d : Device). d.past) is))

  pub seen_by_sync : (content new).seen ≡ (content old).seen
  seen_by_sync = ap (λ (c : Content). c.seen) synced_now ∙ go (goes (course old.setting)) where
    go : (b : Bool) → (if b then effect (Sync (goes (course old.setting))) (content old) else content old).seen ≡ (content old).seen
    go true = refl
    go false = refl

  when_ok : goes (course old.setting) ≡ true → content new ≡ effect (Sync (goes (course old.setting))) (content old)
  when_ok e = synced_now ∙ ap (λ (b : Bool). if b then effect (Sync (goes (course old.setting))) (content old) else content old) e

  when_not : goes (course old.setting) ≡ false → content new ≡ content old
  when_not e = synced_now ∙ ap (λ (b : Bool). if b then effect (Sync (goes (course old.setting))) (content old) else content old) e

  pub durable_by : goes (course old.setting) ≡ true → Only (content old).seen (IsImage (content new))
  durable_by e c image = only_seen (content old) (goes (course old.setting)) c (subst (λ (k : Content). IsImage k c) (when_ok e) image)

  pub stays_by : goes (course old.setting) ≡ false →
      Stays (content old).seen (content new).seen (IsImage (content old)) (IsImage (content new))
  stays_by e = record {
    seen = ap (λ (c : Content). c.seen) (when_not e);
    no_more = λ c image. subst (λ (k : Content). IsImage k c) (when_not e) image;
    no_less = λ c image. subst (λ (k : Content). IsImage k c) (sym (when_not e)) image;
  }

  pub no_more_by : (c : List ℕ) → IsImage (content new) c → IsImage (content old) c
  no_more_by c image = go (goes (course old.setting)) refl where
    go : (b : Bool) → goes (course old.setting) ≡ b → IsImage (content old) c
    go true e = subst (λ (l : List ℕ). IsImage (content old) l) (sym (durable_by e c image)) (sane old)
    go false e = subst (λ (k : Content). IsImage k c) (when_not e) image

-- ---- what led from one device to the next

pub went_same : (old new : Device) → new ≡ old → Went old [] new
unfolding run GoesAsSaid
went_same old new e = record { device = e; said = tt }

pub went_write : (at : ℕ) (bytes : List ℕ) (old new : Device) (ok : Bool) → new ≡ wrote at bytes old → goes (course old.setting) ≡ ok →
    Went old (Write at bytes ok ∷ []) new
unfolding run GoesAsSaid
went_write at bytes old new ok is e = record { device = is; said = (e, tt) }

pub went_sync : (old new : Device) (ok : Bool) → new ≡ did_sync old → goes (course old.setting) ≡ ok → Went old (Sync ok ∷ []) new
unfolding run GoesAsSaid
went_sync old new ok is e = record { device = is; said = (e, tt) }

-- ---- answers

pub on_ok : {A B : Type 0} {P : Type 0} (r : Result A B) (b : Bool) → is_ok r ≡ b → (b ≡ true → P) → OnOk r P
on_ok (Ok x) b e p = p (sym e)
on_ok (Err x) b e p = tt

pub on_err : {A B : Type 0} {P : Type 0} (r : Result A B) (b : Bool) → is_ok r ≡ b → (b ≡ false → P) → OnErr r P
on_err (Ok x) b e p = tt
on_err (Err x) b e p = p (sym e)
