-- A turn, part by part: room was made, the core stepped, its change was saved.
use Rattle.std.proofs.Common.{◌≡◌, ◌⊎◌, inl, inr, ⊎_elim, ℕ, ◌+◌, ◌≤◌, ◌<◌, Bool, false, true, List, [], ◌∷◌, ◌++◌, length, take, drop, Result, Err, Option, Some, refl, sym}
use Rattle.std.proofs.Common.{ap, ◌∙◌, subst, arith}
use Rattle.std.proofs.lemmas.List.{length-drop, take-append-drop, take-take}
use Rattle.ncc_base.specs.declared.disk.Disk.{Ghosts}
use Rattle.ncc_base.specs.Disk.{Asked, LeavesOnly, Only}
use Rattle.ncc_base.specs.Faults.{Rose}
use Rattle.ncc_tx.specs.declared.entry.ChangeSet.{ChangeSet}
use Rattle.ncc_tx.specs.declared.entry.Item.{Item}
use Rattle.ncc_tx.specs.declared.entry.Saved.{Saved}
use Rattle.ncc_tx.specs.Kept.{IsChange, Leads, MayFollow, max_items, part_after, payload}
use Rattle.ncc_tx.proofs.Changes.{leads, one}
use Rattle.ncc_log.specs.declared.error.JournalError.{JournalError}
use Rattle.ncc_log.specs.declared.error.JournalError.TheVariants as refused
use Rattle.ncc_log.specs.Calls.{Asks, AsksUntilFailed, MakesRoom, gated, stopped}
use Rattle.ncc_log.specs.Records.{recorded}
use Rattle.ncc_log.specs.Saves.{BeforeOrAfter, Saves}
use Rattle.ncc_log.specs.Shown.{IsSame, Shown}
use Rattle.ncc_log.proofs.Moments.{WentOn, asks_on, joins}
use Rattle.ncc_raft.specs.Appending.{applied}
use Rattle.ncc_raft.specs.Core.{IsCore, IsSeat, IsSound, Seated}
use Rattle.ncc_raft.specs.Laws.{MayCome}
use Rattle.ncc_raft.specs.Member.{Event, Seat, Member, kept}
use Rattle.ncc_raft.specs.Step.{step}
use Rattle.ncc_raft.proofs.Never.{never}
use Rattle.ncc_raft.proofs.Savings as savings
use Rattle.ncc_raft.proofs.Stays.{stays}
use Rattle.ncc_member.specs.Answers.{GoesOn, calls_of}
use Rattle.ncc_member.specs.Journaled.{Agrees}
use Rattle.ncc_member.specs.Room.{Suffices}

-- ---- the core

pub core_on : (old new : Seated) (event : Event) → IsCore old → MayCome event → new.seat ≡ old.seat →
    new.member ≡ (step old.seat old.member event).member → IsCore new
core_on old new event a come seat member =
    let sound : IsSound old.seat (step old.seat old.member event).member = stays old.seat old.member event a.seat a.sound come in
    record {
      seat = subst (λ (s : Seat). IsSeat s) (sym seat) a.seat;
      sound = subst (λ (s : Seat). IsSound s new.member) (sym seat)
          (subst (λ (m : Member). IsSound old.seat m) (sym member) sound);
    }

-- a step that changed the saved part, by a change that so much room takes
pub record Changed (old new : Seated) (c : ChangeSet) (room : ℕ) : Type 0 where
  pub core : IsCore new
  pub is : IsChange (kept old.member) (kept new.member) c
  pub follows : MayFollow (kept old.member) c
  pub after : part_after (kept old.member) c ≡ kept new.member
  pub few : c.keep + length c.items ≤ max_items
  pub fits : length (payload c) ≤ room

pub changed : (old new : Seated) (event : Event) (room : ℕ) (told : Option ChangeSet) (c : ChangeSet) → IsCore old → MayCome event →
    Suffices event room → new.seat ≡ old.seat → new.member ≡ (step old.seat old.member event).member
    → Leads (kept old.member) (kept new.member) told → told ≡ Some c → Changed old new c room
changed old new event room told c a come enough seat member leads_on some =
    let core : IsCore new = core_on old new event a come seat member in
    let is : IsChange (kept old.member) (kept new.member) c =
    subst (λ (o : Option ChangeSet). Leads (kept old.member) (kept new.member) o) some leads_on in
    let same : IsChange (kept old.member) (kept (step old.seat old.member event).member) c =
    subst (λ (m : Member). IsChange (kept old.member) (kept m) c) member is in
    record {
      core = core;
      is = is;
      follows = (savings.saved old.seat old.member event a.seat a.sound come c same).0;
      after = leads (kept old.member) (kept new.member) c is;
      few = omega (
        arith,
        is.keep.in_new,
        ap (λ (l : List Item). length l) is.items,
        length-drop c.keep new.member.log,
        core.sound.few,
        core.seat.limit,
      );
      fits = enough old.seat old.member c a.seat a.sound same;
    }

-- ---- what was committed stays

goes_by : (old new : Member) → old.commit ≤ new.commit → take old.commit new.log ≡ take old.commit old.log → GoesOn old new
goes_by old new le same = (
  drop old.commit (applied new),
  sym (take-append-drop old.commit (applied new))
      ∙ ap (λ (l : List Item). l ++ drop old.commit (applied new)) (take-take old.commit new.commit new.log le ∙ same),
)

pub goes_on : (core : Seated) (event : Event) (new : Member) → IsCore core → MayCome event →
    new ≡ (step core.seat core.member event).member → GoesOn core.member new
goes_on core event new a come is =
    let back = never core.seat core.member event a.seat a.sound come in
    subst (λ (m : Member). GoesOn core.member m) (sym is)
    (goes_by core.member (step core.seat core.member event).member back.commit back.applied)

-- ---- a save that is refused is the disk's fault

-- there is room, and the log is not too long
pub by_fault : {T : Type 0} (r : Result T JournalError) (error : JournalError) (old new : Seated) (c : ChangeSet) (most room : ℕ) →
    Changed old new c most → r ≡ Err error
    → (error ≡ refused.DiskFault) ⊎ ((error ≡ refused.Full) ⊎ (error ≡ refused.Memory))
    → (r ≡ Err refused.Full → max_items < c.keep + length c.items) → (r ≡ Err refused.Memory → room < length (payload c)) → most ≤ room
    → r ≡ Err refused.DiskFault
by_fault r error old new c most room ch is (inl fault) full memory le = is ∙ ap Err fault
by_fault r error old new c most room ch is (inr (inl here)) full memory le = absurd (omega (arith, full (is ∙ ap Err here), ch.few))
by_fault r error old new c most room ch is (inr (inr here)) full memory le =
    absurd (omega (arith, memory (is ∙ ap Err here), ch.fits, le))

pub rose_by : (old mid new : ℕ) (failed : Bool) → mid ≡ old → failed ≡ false → (failed ≡ true) ⊎ Rose mid new → Rose old new
rose_by old mid new failed same sound (inl h) = let bad : false ≡ true = sym sound ∙ h in absurd (cc)
rose_by old mid new failed same sound (inr r) = subst (λ (k : ℕ). Rose k new) same r

-- ---- the journal

saves_as : (k l i j : ℕ) (s t : Saved) (c : List ℕ) → k ≡ l → i ≡ j → s ≡ t → Saves k i c s → Saves l j c t
saves_as k l i j s t c p q r h =
    subst (λ (x : ℕ). Saves x j c t) p (subst (λ (x : ℕ). Saves k x c t) q (subst (λ (x : Saved). Saves k i c x) r h))

module _ {D : Type 0} (g : Ghosts D) where
  pub roomed : (old mid : Shown D) (core : Seated) → Agrees g old core → IsSame old mid → MakesRoom g old.disk mid.disk →
      Agrees g mid core
  roomed old mid core a same makes = record {
    sound = same.failed ∙ a.sound;
    member = same.member ∙ a.member;
    core = a.core;
    rests = λ told c left. saves_as old.cluster mid.cluster old.member mid.member (kept core.member) (kept core.member) c
        (sym same.cluster) (sym same.member) refl (a.rests told c ((makes.looks.stays told).no_more c left));
  }

  pub unchanged : (j : Shown D) (old new : Seated) → Agrees g j old → IsCore new → new.seat ≡ old.seat →
      kept old.member ≡ kept new.member → Agrees g j new
  unchanged j old new a core seat same = record {
    sound = a.sound;
    member = a.member ∙ ap (λ (s : Seat). s.id) (sym seat);
    core = core;
    rests = λ told c left. subst (λ (s : Saved). Saves j.cluster j.member c s) same (a.rests told c left);
  }

  abbrev pub SeenMayBeLeft : Type 0
  SeenMayBeLeft = (disk : D) → g.told → g.may_leave disk (g.seen disk)

  pub reads : SeenMayBeLeft → (j : Shown D) (core : Seated) → Agrees g j core → g.told →
      Saves j.cluster j.member (g.seen j.disk) (kept core.member)
  reads law j core a told = a.rests told (g.seen j.disk) (law j.disk told)

  pub saved : SeenMayBeLeft → (mid new : Shown D) (was now : Seated) (c : ChangeSet) (room : ℕ) → Agrees g mid was → Changed was now c room →
      now.seat ≡ was.seat
      → (g.told → (s : Saved) → Saves mid.cluster mid.member (g.seen mid.disk) s →
      Saves mid.cluster mid.member (g.seen new.disk) (part_after s c))
      → (g.told → Only (g.seen new.disk) (g.may_leave new.disk)) → new.failed ≡ false → new.cluster ≡ mid.cluster
      → new.member ≡ mid.member → Agrees g new now
  saved law mid new was now c room a ch seat done only sound cluster member = record {
    sound = sound;
    member = member ∙ a.member ∙ ap (λ (s : Seat). s.id) (sym seat);
    core = ch.core;
    rests = λ told b left.
        let here : Saves mid.cluster mid.member (g.seen new.disk) (part_after (kept was.member) c) =
        done told (kept was.member) (reads law mid was a told) in
        subst (λ (l : List ℕ). Saves new.cluster new.member l (kept now.member)) (sym (only told b left))
        (saves_as mid.cluster new.cluster mid.member new.member (part_after (kept was.member) c) (kept now.member) (g.seen new.disk)
        (sym cluster) (sym member) ch.after here);
  }

  -- at any moment of a turn that saves a crash leaves the part before or behind it
  pub run : SeenMayBeLeft → (old mid new : Shown D) (core : Seated) (c : ChangeSet) (after : Saved) → Agrees g old core → IsSame old mid →
      MakesRoom g old.disk mid.disk → part_after (kept core.member) c ≡ after → g.told
      → ((s : Saved) → Saves mid.cluster mid.member (g.seen mid.disk) s → LeavesOnly g.moment g.left_since mid.disk new.disk
      (BeforeOrAfter mid.cluster mid.member s (part_after s c)))
      → LeavesOnly g.moment g.left_since old.disk new.disk (BeforeOrAfter old.cluster old.member (kept core.member) after)
  run law old mid new core c after a same makes is told saving =
      joins g.moment g.left_since old.disk mid.disk new.disk (g.may_leave old.disk)
      (BeforeOrAfter mid.cluster mid.member (kept core.member) (part_after (kept core.member) c))
      (BeforeOrAfter old.cluster old.member (kept core.member) after) (makes.looks.time told)
      (saving (kept core.member) (reads law mid core (roomed old mid core a same makes) told)) (λ b left. inl (a.rests told b left))
      (λ b either. ⊎_elim
      (λ h. inl (saves_as mid.cluster old.cluster mid.member old.member (kept core.member) (kept core.member) b same.cluster
      same.member refl h))
      (λ h. inr (saves_as mid.cluster old.cluster mid.member old.member (part_after (kept core.member) c) after b same.cluster
      same.member is h)) either)

  -- what the disk was asked behind the room
  behind : WentOn g → (old mid new : D) (calls : List Asked) → MakesRoom g old mid → g.told → Asks g mid new calls → Asks g old new calls
  behind law old mid new calls makes told asks =
      asks_on g law old mid new [] calls (makes.looks.time told).later (makes.looks.asked told) asks

  -- a save, where it changed
  pub save_asked : WentOn g → (old mid new : D) (gate at : ℕ) (was now : Saved) (change : ChangeSet) (c : Option ChangeSet) →
      MakesRoom g old mid → g.told → at ≡ gate → Leads was now (Some change) → Leads was now c
      → Asks g mid new (gated at (recorded change ++ 0 ∷ [])) → Asks g old new (calls_of gate c)
  save_asked law old mid new gate at was now change c makes told same is other asks =
      subst (λ (x : Option ChangeSet). Asks g old new (calls_of gate x)) (one was now (Some change) c is other)
      (behind law old mid new (gated gate (recorded change ++ 0 ∷ [])) makes told
      (subst (λ (k : ℕ). Asks g mid new (gated k (recorded change ++ 0 ∷ []))) same asks))

  -- or the front of one, up to the call that failed
  pub save_stopped : WentOn g → (old mid new : D) (gate at : ℕ) (was now : Saved) (change c : ChangeSet) →
      MakesRoom g old mid → g.told → at ≡ gate → IsChange was now change → IsChange was now c
      → AsksUntilFailed g mid new (gated at (recorded change ++ 0 ∷ []))
      → AsksUntilFailed g old new (calls_of gate (Some c))
  save_stopped law old mid new gate at was now change c makes told same is other (n, lt, asks) =
      let whole : gated at (recorded change ++ 0 ∷ []) ≡ calls_of gate (Some c) =
      ap (λ (k : ℕ). gated k (recorded change ++ 0 ∷ [])) same
      ∙ ap (λ (x : Option ChangeSet). calls_of gate x) (one was now (Some change) (Some c) is other) in (
        n,
        lt,
        subst (λ (l : List Asked). Asks g old new (stopped n l)) whole
            (behind law old mid new (stopped n (gated at (recorded change ++ 0 ∷ []))) makes told asks),
      )
