-- A save as a whole: room is made, and then a body is put behind the gate.
use Rattle.std.proofs.Common.{◌≡◌, inl, inr, ⊎_elim, ℕ, ◌+◌, ◌-◌, ◌^◌, ◌<◌, ◌≤◌, false, List, [], ◌∷◌, ◌++◌, length, take, sym, ◌∙◌}
use Rattle.std.proofs.Common.{ap, subst}
use Rattle.std.proofs.Common.{arith, length-append}
use Rattle.std.specs.Prelude.{min}
use Rattle.ncc_base.specs.declared.disk.Disk.{Ghosts}
use Rattle.ncc_base.specs.Disk.{Asked, LeavesOnly, Only}
use Rattle.ncc_tx.specs.declared.entry.ChangeSet.{ChangeSet}
use Rattle.ncc_tx.specs.declared.entry.Saved.{Saved}
use Rattle.ncc_tx.specs.Kept.{MayFollow, max_items, part_after, payload}
use Rattle.ncc_tx.proofs.ItemBytes.{length_payload}
use Rattle.ncc_log.specs.Calls.{Asks, AsksUntilFailed, Looks, MakesRoom, gated, stopped}
use Rattle.ncc_log.specs.Gated.{IsGated, IsOpen}
use Rattle.ncc_log.specs.Records.{recorded}
use Rattle.ncc_log.specs.Saves.{BeforeOrAfter, Saves}
use Rattle.ncc_log.specs.Shown.{HasRoom, IsSame, IsUsable, Ready, Shown}
use Rattle.ncc_log.proofs.Moments.{WentOn, asks_on, joins}
use Rattle.ncc_log.proofs.One.{recorded_long}
use Rattle.ncc_log.proofs.Save.{after_now, before_or_after, one_saves, ready_after}

-- ---- room

-- where room was made for a payload as long as that of the change, there is room for its record
pub room_for : {D : Type 0} (g : Ghosts D) (mid real : Shown D) (capacity size : ℕ) (c : ChangeSet) → mid ≡ real →
    IsUsable g mid capacity → size ≡ min (length (payload c)) (2 ^ 64 - 1) → length (payload c) < 2 ^ 32 → size ≤ real.room →
    HasRoom (g.room_calls mid.disk) (g.room_bytes mid.disk) capacity mid.gate (length (payload c))
room_for {D} g mid real capacity size c same usable is short le =
    let room : mid.room ≡ real.room = ap (λ (s : Shown D). s.room) same in
    let some : 0 < mid.room = omega (arith, room, le, is, short, length_payload c) in
    let r = usable.room some in
    record {
      calls_left = r.calls_left;
      bytes_left = omega (arith, r.bytes_left, room, le, is, short);
      body = omega (arith, r.body, room, le, is, short);
      file = omega (arith, r.file, room, le, is, short);
    }

pub body_long : (c : ChangeSet) (body : List ℕ) → body ≡ recorded c ++ 0 ∷ [] → length body ≡ length (payload c) + 5
body_long c body is = omega (arith, ap (λ (l : List ℕ). length l) is, length-append (recorded c) (0 ∷ []), recorded_long c)

-- ---- the disk before and after room was made

-- a journal before room was made for a change that may follow, and after it
pub record Readied {D : Type 0} (g : Ghosts D) (old mid : Shown D) (c : ChangeSet) : Type 0 where
  pub same : IsSame old mid
  pub looks : Looks g old.disk mid.disk
  pub ready : g.told → Ready mid.cluster mid.member mid.gate (g.seen mid.disk) (g.may_leave mid.disk)
  pub follows : g.told → (s : Saved) × Saves old.cluster old.member (g.seen old.disk) s × MayFollow s c
  pub few : c.keep + length c.items ≤ max_items

pub readied : {D : Type 0} (g : Ghosts D) (old mid real : Shown D) (capacity : ℕ) (c : ChangeSet) → mid ≡ real → IsSame old real →
    MakesRoom g old.disk real.disk → IsUsable g mid capacity → old.failed ≡ false
    → (old.failed ≡ false → g.told → (s : Saved) × Saves old.cluster old.member (g.seen old.disk) s × MayFollow s c)
    → c.keep + length c.items ≤ max_items → Readied g old mid c
readied {D} g old mid real capacity c is same makes usable sound follows few =
    let here : IsSame old mid = subst (IsSame old) (sym is) same in
    record {
      same = here;
      looks = subst (λ (s : Shown D). Looks g old.disk s.disk) (sym is) makes.looks;
      ready = λ told. usable.ready (here.failed ∙ sound) told;
      follows = follows sound;
      few = few;
    }

-- what was asked behind calls that neither write nor sync
asks_behind : {D : Type 0} (g : Ghosts D) → WentOn g → (old mid new : D) (calls : List Asked) → Looks g old mid → g.told →
    Asks g mid new calls → Asks g old new calls
asks_behind g law old mid new calls looks told asks =
    asks_on g law old mid new [] calls (looks.time told).later (looks.asked told) asks

-- a read is one of the images of a crash now
pub read_is : {D : Type 0} (g : Ghosts D) (old new : D) (P : List ℕ → Type 0) → g.told →
    ((disk : D) (t : ℕ) (c : List ℕ) → g.told → t ≤ g.moment disk → g.may_leave disk c → g.left_since disk t c)
    → ((disk : D) → g.told → g.may_leave disk (g.seen disk)) → LeavesOnly g.moment g.left_since old new P → P (g.seen new)
read_is g old new P told counts seen run =
    run.each (g.seen new) (counts new (g.moment old) (g.seen new) told run.later (seen new told))

-- ---- the body behind the gate

module _ {D : Type 0} (g : Ghosts D) (old mid : Shown D) (c : ChangeSet) (r : Readied g old mid c) (body : List ℕ) (new : D)
    (is : body ≡ recorded c ++ 0 ∷ []) where
  abbrev front : List ℕ
  front = take mid.gate (g.seen mid.disk)

  follows_any : g.told → (s : Saved) → Saves old.cluster old.member (g.seen old.disk) s → MayFollow s c
  follows_any told s saves =
      let f = r.follows told in
      subst (λ (t : Saved). MayFollow t c) (one_saves old.cluster old.member (g.seen old.disk) f.0 s f.1 saves) f.2

  saves_mid : g.told → (s : Saved) → Saves old.cluster old.member (g.seen old.disk) s → Saves mid.cluster mid.member (g.seen mid.disk) s
  saves_mid told s saves =
      subst (λ (k : ℕ). Saves k mid.member (g.seen mid.disk) s) (sym r.same.cluster)
      (subst (λ (k : ℕ). Saves old.cluster k (g.seen mid.disk) s) (sym r.same.member)
      (subst (λ (l : List ℕ). Saves old.cluster old.member l s) (sym (r.looks.stays told).seen) saves))

  back : (b : List ℕ) (t : Saved) → Saves mid.cluster mid.member b t → Saves old.cluster old.member b t
  back b t h =
      subst (λ (k : ℕ). Saves k old.member b t) r.same.cluster (subst (λ (k : ℕ). Saves mid.cluster k b t) r.same.member h)

  whole : (P : List ℕ → Type 0) → P body → P (recorded c ++ 0 ∷ [])
  whole P h = subst P is h

  -- a crash at any moment leaves the part before or the part after
  pub run_is : (told : g.told) → LeavesOnly g.moment g.left_since mid.disk new (IsGated front body) → (s : Saved) →
      Saves old.cluster old.member (g.seen old.disk) s
      → LeavesOnly g.moment g.left_since old.disk new (BeforeOrAfter old.cluster old.member s (part_after s c))
  run_is told run s saves =
      let ready = r.ready told in
      joins g.moment g.left_since old.disk mid.disk new (g.may_leave old.disk) (IsGated front body)
      (BeforeOrAfter old.cluster old.member s (part_after s c)) (r.looks.time told) run
      (λ b h. inl (subst (λ (l : List ℕ). Saves old.cluster old.member l s)
      (sym (ready.only b ((r.looks.stays told).no_less b h) ∙ (r.looks.stays told).seen)) saves))
      (λ b h. ⊎_elim (λ x. inl (back b s x)) (λ x. inr (back b (part_after s c) x))
      (before_or_after mid.cluster mid.member mid.gate (g.seen mid.disk) (g.may_leave mid.disk) ready s (saves_mid told s saves) c
      (follows_any told s saves) r.few b (whole (λ (l : List ℕ). IsGated front l b) h)))

  -- and after Ok the part after
  pub done_is : (told : g.told) → IsOpen front body (g.seen new) → (s : Saved) → Saves old.cluster old.member (g.seen old.disk) s →
      Saves old.cluster old.member (g.seen new) (part_after s c)
  done_is told done s saves = back (g.seen new) (part_after s c)
      (after_now mid.cluster mid.member mid.gate (g.seen mid.disk) (g.may_leave mid.disk) (r.ready told) s (saves_mid told s saves) c
      (follows_any told s saves) r.few (g.seen new) (whole (λ (l : List ℕ). IsOpen front l (g.seen new)) done))

  -- and the journal is ready for the next save
  pub usable_is : (size capacity : ℕ) → size ≡ length (payload c) → (g.told → IsOpen front body (g.seen new)) →
      (g.told → Only (g.seen new) (g.may_leave new))
      → IsUsable g (record {
        disk = new;
        cluster = mid.cluster;
        member = mid.member;
        gate = mid.gate + (size + 5);
        room = 0;
        failed = false;
      }) capacity
  usable_is size capacity long done only = record {
    ready = λ sound told.
        let f = r.follows told in
        subst (λ (n : ℕ). Ready mid.cluster mid.member (mid.gate + (n + 5)) (g.seen new) (g.may_leave new)) (sym long)
        (ready_after mid.cluster mid.member mid.gate (g.seen mid.disk) (g.may_leave mid.disk) (r.ready told) f.0
        (saves_mid told f.0 f.1) c f.2 r.few (g.seen new) (g.may_leave new)
        (whole (λ (l : List ℕ). IsOpen front l (g.seen new)) (done told)) (only told));
    room = λ none. absurd (omega arith);
  }

  -- what was asked
  pub asked_is : WentOn g → g.told → Asks g mid.disk new (gated mid.gate body) → Asks g old.disk new (gated old.gate (recorded c ++ 0 ∷ []))
  asked_is law told asks =
      subst (λ (n : ℕ). Asks g old.disk new (gated n (recorded c ++ 0 ∷ []))) r.same.gate
      (whole (λ (l : List ℕ). Asks g old.disk new (gated mid.gate l))
      (asks_behind g law old.disk mid.disk new (gated mid.gate body) r.looks told asks))

  pub stopped_is : WentOn g → g.told → AsksUntilFailed g mid.disk new (gated mid.gate body) →
      AsksUntilFailed g old.disk new (gated old.gate (recorded c ++ 0 ∷ []))
  stopped_is law told (n, lt, asks) = (
    n,
    omega (arith, lt),
    subst
        (λ (k : ℕ). Asks g old.disk new (stopped n (gated k (recorded c ++ 0 ∷ [])))) r.same.gate
        (whole (λ (l : List ℕ). Asks g old.disk new (stopped n (gated mid.gate l)))
        (asks_behind g law old.disk mid.disk new (stopped n (gated mid.gate body)) r.looks told asks)),
  )
