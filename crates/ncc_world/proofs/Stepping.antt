-- What stands for a run with its sessions, behind the own steps of events.
use Rattle.std.proofs.Common.{◌≡◌, ℕ, ◌-◌, ◌≤◌, ◌<◌, inl, inr, Bool, true, false, List, [], length, Option, Some, None, refl, ap, sym, ◌∙◌, subst, arith}
use Rattle.std.specs.Prelude.{take, nat_le, not, ◌&&◌, ◌==◌, if◌then◌else◌}
use Rattle.std.proofs.lemmas.Bool.Decides.{leb_tells}
use Rattle.std.proofs.lemmas.Option.{slice_get_cases}
use Rattle.ncc_tx.specs.declared.entry.Item.{Item}
use Rattle.ncc_driver.specs.declared.action.Action.{Action}
use Rattle.ncc_driver.specs.LawsFits.{AreBytes}
use Rattle.ncc_clients.specs.Course.{ComeAsBytes}
use Rattle.ncc_clients.specs.Drives.{down_at, driver_at, is_busy, waits_above}
use Rattle.ncc_clients.specs.Links.{Driver, Driving, Link}
use Rattle.ncc_clients.specs.Run.{ticked}
use Rattle.ncc_world.specs.declared.setup.Setup.{Setup}
use Rattle.ncc_world.specs.declared.error.WorldError.{WorldError}
use Rattle.ncc_world.specs.declared.error.WorldError.TheVariants.{BackInTime, Busy, NoMember, NoSession, WrongRole, WrongWorld}
use Rattle.ncc_world.specs.declared.event.Event.TheVariants.{Apply}
use Rattle.ncc_world.specs.declared.running.Running.{Running}
use Rattle.ncc_world.specs.Setting.{Seats, over_list, over_raft, cluster_of}
use Rattle.ncc_world.specs.Happening.{WorldRun, is_member, is_session, is_busy_at, refuses_apply, refusal}
use Rattle.ncc_world.specs.Rafts.{unless, refuses_core, refuses_message, refuses_pull, refuses_crash}
use Rattle.ncc_world.specs.Drivers.{AreAtWork, IsOne, KeptDrivers, has_session, is_busy_in, left_of, refuses_work}
use Rattle.ncc_world.specs.declared.world.World.TheInside.{Inside}
use Rattle.ncc_world.specs.Inner.{kept_of}
use Rattle.ncc_world.specs.World.{KeptMembers, KeptRun, AreMembers, RunsAs, Stands}
use Rattle.ncc_world.specs.Parts.{HasDone, RunsAll, RunsMid, drivers_in, run_in}
use Rattle.ncc_world.proofs.Opened.{allowed_by}

-- ---- sessions that have all done

both_none : (b : Bool) (none : List Action) → (if b then none else none) ≡ none
both_none true none = refl
both_none false none = refl

-- Whose turn it was says nothing, where nothing is left to do.
pub work_at : (s : Setup) (from at : ℕ) (pending : List ℕ) (k : KeptDrivers) (now : ℕ) (driving : Driving)
    → AreAtWork s from [] pending k now driving → AreAtWork s at [] pending k now driving
work_at s from at pending k now driving w = record {
  each = record {
    count = w.each.count;
    each = λ index held d e f.
        subst (λ (left : List Action). IsOne now held d left) (both_none (index == from) [] ∙ sym (both_none (index == at) []))
        (w.each.each index held d e f);
  };
  names = w.names;
  sleepers = w.sleepers;
  linked = w.linked;
  works = w.works;
}

pub mid_at : (s : Setup) (from at : ℕ) (w : Running) (r : WorldRun) → RunsMid s from [] [] w r → RunsMid s at [] [] w r
mid_at s from at w r k = record {
  runs_as = k.runs_as;
  drives = work_at s from at [] (drivers_in w.drivers) r.now r.driving k.drives;
  members = k.members;
  awake = refl;
}

-- a world that goes on
pub all_stands : (w : Inside) (r : WorldRun) → Stands (kept_of w) r → RunsAll w.setup w.run r
all_stands w r k = record { runs_as = k.runs_as; drives = k.drives; members = k.members; awake = refl }

-- ---- the clock shows a later moment

runs_ticked : (s : Setup) (w : KeptRun) (r : WorldRun) (to : ℕ) → RunsAs s w r → RunsAs s (record w { now = to }) (ticked r to)
runs_ticked s w r to k = record {
  now = refl;
  members = k.members;
  clients = k.clients;
  told = k.told;
  earlier = record { count = k.earlier.count; each = k.earlier.each };
}

-- Nothing of the sessions rests on it but that their works began by then.
pub work_later : (s : Setup) (at : ℕ) (left : List Action) (pending : List ℕ) (k : KeptDrivers) (now to : ℕ) (driving : Driving) → now ≤ to
    → AreAtWork s at left pending k now driving → AreAtWork s at left pending k to driving
work_later s at left pending k now to driving h w = record {
  each = record {
    count = w.each.count;
    each = λ index held d e f.
        let one : IsOne now held d (left_of at left index) = w.each.each index held d e f in
        record { stands = one.stands; began = omega (arith, one.began, h) };
  };
  names = w.names;
  sleepers = w.sleepers;
  linked = w.linked;
  works = w.works;
}

le_from : (a b : ℕ) → nat_le a b ≡ true → a ≤ b
le_from a b e = elim (leb_tells a b) [ inl h ↦ h.1 | inr h ↦ absurd (let z = h.0 in cc) ]

pub ticked_all : (s : Setup) (w : Running) (r : WorldRun) (to : ℕ) → RunsAll s w r → unless (nat_le r.now to) BackInTime ≡ None
    → RunsAll s (record w { clock = to }) (ticked r to)
ticked_all s w r to k e = record {
  runs_as = runs_ticked s (run_in w) r to k.runs_as;
  drives = work_later s 0 [] [] (drivers_in w.drivers) r.now to r.driving
      (le_from r.now to (allowed_by (nat_le r.now to) BackInTime e)) k.drives;
  members = k.members;
  awake = k.awake;
}

-- ---- the sessions are others

pub driven : (s : Setup) (w : KeptRun) (r : WorldRun) (driving : Driving) → RunsAs s w r → RunsAs s w (record r { driving = driving })
driven s w r driving k = record {
  now = k.now;
  members = k.members;
  clients = k.clients;
  told = k.told;
  earlier = record { count = k.earlier.count; each = k.earlier.each };
}

-- ---- a session that an event names

both : (a b : Bool) → (a && b) ≡ true → (a ≡ true) × (b ≡ true)
both true b e = (refl, e)
both false b e = absurd (cc)

-- there is one of this number
pub record Named (r : WorldRun) (session : ℕ) : Type 0 where
  pub some : 0 < session
  pub driver : Driver
  pub there : driver_at r (session - 1) ≡ Some driver

pub named : (r : WorldRun) (session : ℕ) → unless (is_session r session) NoSession ≡ None → Named r session
named r session e =
    let h = both (nat_le 1 session) (nat_le session (length r.driving.drivers)) (allowed_by (is_session r session) NoSession e) in
    let low : 1 ≤ session = le_from 1 session h.0 in
    let high : session ≤ length r.driving.drivers = le_from session (length r.driving.drivers) h.1 in
    elim (slice_get_cases r.driving.drivers (session - 1)).1 [
      | inl g ↦ record { some = low; driver = g.0; there = g.2 }
      | inr g ↦ absurd (omega (arith, g.0, low, high))
    ]

pub done_at : (s : Setup) (w : Running) (r : WorldRun) (session : ℕ) → RunsAll s w r → Named r session → HasDone s (session - 1) w
done_at s w r session k n = record {
  run = r;
  pending = [];
  runs_mid = mid_at s 0 (session - 1) w r k;
  driver = n.driver;
  there = n.there;
}

-- ---- a work is begun

pub record MayWork (r : WorldRun) (session : ℕ) : Type 0 where
  pub named : unless (is_session r session) NoSession ≡ None
  pub rests : is_busy_at r session ≡ false

pub may_work : (r : WorldRun) (session : ℕ)
    → (if is_session r session then unless (not (is_busy_at r session)) Busy else Some NoSession) ≡ None → MayWork r session
may_work r session e = go (is_session r session) (is_busy_at r session) refl refl e where
  go : (b busy : Bool) → is_session r session ≡ b → is_busy_at r session ≡ busy
      → (if b then unless (not busy) Busy else Some NoSession) ≡ None → MayWork r session
  go true true f g h = absurd (cc)
  go true false f g h = record { named = ap (λ (b : Bool). unless b NoSession) f; rests = g }
  go false busy f g h = absurd (cc)

pub refusing : (r : WorldRun) (session : ℕ)
    → refuses_work r.driving session ≡ (if is_session r session then unless (not (is_busy_at r session)) Busy else Some NoSession)
refusing r session =
    ap (λ (o : Option WorldError). if is_session r session then o else Some NoSession) (by_driver (driver_at r (session - 1))) where
      by_busy : (b : Bool) → (if b then Some Busy else None) ≡ unless (not b) Busy
      by_busy true = refl
      by_busy false = refl

      by_driver : (o : Option Driver)
          → (if is_busy_in o then Some Busy else None) ≡ unless (not (elim o [ Some d ↦ is_busy d | None ↦ false ])) Busy
      by_driver None = refl
      by_driver (Some d) = by_busy (is_busy d)

-- over one list, as these members are
applies_as : (s : Setup) (m : KeptMembers) (seats : Seats) (history : List Item) (member : ℕ) (there first : Bool)
    → AreMembers s m seats history → first ≡ (member == 1)
    → (if there then (if first then Some WrongRole else None) else Some NoMember) ≡ refuses_apply seats there member
applies_as s m (over_list lists) history member there first k f =
    ap (λ (b : Bool). if there then (if b then Some WrongRole else None) else Some NoMember) f
applies_as s m (over_raft fleet) history member there first k f = absurd k

pub refused_apply : (s : Setup) (w : KeptRun) (r : WorldRun) (member count : ℕ) (there first : Bool) → RunsAs s w r
    → there ≡ is_member r member → first ≡ (member == 1)
    → (if there then (if first then Some WrongRole else None) else Some NoMember) ≡ refusal s r (Apply member count)
refused_apply s w r member count there first k e f =
    applies_as s w.members r.members r.history member there first k.members f
    ∙ ap (λ (b : Bool). refuses_apply r.members b member) e

-- Over one list nothing happens that is of Raft alone.
pub core_refused : (s : Setup) (m : KeptMembers) (seats : Seats) (history : List Item) (member : ℕ) → AreMembers s m seats history
    → Some WrongWorld ≡ refuses_core s seats member
core_refused s m (over_list lists) history member k = refl
core_refused s m (over_raft fleet) history member k = absurd k

pub message_refused : (s : Setup) (m : KeptMembers) (seats : Seats) (history : List Item) (message : ℕ) → AreMembers s m seats history
    → Some WrongWorld ≡ refuses_message seats message
message_refused s m (over_list lists) history message k = refl
message_refused s m (over_raft fleet) history message k = absurd k

pub pull_refused : (s : Setup) (m : KeptMembers) (seats : Seats) (history : List Item) (replica core : ℕ) → AreMembers s m seats history
    → Some WrongWorld ≡ refuses_pull s seats replica core
pull_refused s m (over_list lists) history replica core k = refl
pull_refused s m (over_raft fleet) history replica core k = absurd k

pub crash_refused : (s : Setup) (m : KeptMembers) (seats : Seats) (history : List Item) (member : ℕ) → AreMembers s m seats history
    → Some WrongWorld ≡ refuses_crash s seats member
crash_refused s m (over_list lists) history member k = refl
crash_refused s m (over_raft fleet) history member k = absurd k

pub wrong_world : (o : Option WorldError) → Some WrongWorld ≡ o → o ≡ None → ⊥
wrong_world o e f = let z : Some WrongWorld ≡ None = e ∙ f in absurd (cc)

-- The list of sessions has as many as the run.
pub has_counted : (s : Setup) (at : ℕ) (left : List Action) (pending : List ℕ) (k : KeptDrivers) (r : WorldRun) (session : ℕ)
    → AreAtWork s at left pending k r.now r.driving → has_session (length k.list) session ≡ is_session r session
has_counted s at left pending k r session w = ap (λ (n : ℕ). nat_le 1 session && nat_le session n) w.each.count

-- ---- bytes come down

pub come_as_bytes : (s : Setup) (r : WorldRun) (o : Option Driver) (count : ℕ) → AreBytes (take count (down_at (cluster_of s) r o))
    → ComeAsBytes (cluster_of s) r o (take count)
come_as_bytes s r None count h = tt
come_as_bytes s r (Some d) count h = λ link e.
    subst (λ (l : Option Link). AreBytes (take count (elim l [ Some x ↦ waits_above (cluster_of s) r x | None ↦ [] ]))) e h
