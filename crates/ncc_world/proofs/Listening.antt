-- A session of a world hears something, begins a work, is woken or loses its link: which runs the world stands for then.
use Rattle.std.proofs.Common.{◌≡◌, ℕ, ◌+◌, ◌-◌, ◌<◌, Bool, true, false, List, [], ◌∷◌, ◌++◌, length, Option, Some, None}
use Rattle.std.proofs.Common.{refl, sym, ap, ◌∙◌, subst, arith}
use Rattle.std.specs.Prelude.{slice_get, if◌then◌else◌}
use Rattle.ncc_driver.specs.declared.action.Action.{Action}
use Rattle.ncc_driver.specs.declared.action.Input.{Input}
use Rattle.ncc_driver.specs.declared.action.Input.TheVariants as i
use Rattle.ncc_driver.specs.Session.{Begun}
use Rattle.ncc_driver.specs.Talk.{begun}
use Rattle.ncc_driver.specs.Work.{Job}
use Rattle.ncc_clients.specs.Links.{Link, Driver, Driving}
use Rattle.ncc_clients.specs.Run.{Client, closed_at}
use Rattle.ncc_clients.specs.Drives.{begins, begins_by, closes, closes_one, cuts, cuts_by, does_more, driver_at, follows_on, is_busy, joined}
use Rattle.ncc_clients.specs.Drives.{knows, last_of, more, told_input, turns_to, with_driver, with_input}
use Rattle.ncc_clients.proofs.Lists.{set_same}
use Rattle.ncc_clients.specs.Held.{conn_in}
use Rattle.ncc_world.specs.declared.setup.Setup.{Setup}
use Rattle.ncc_world.specs.declared.running.Running.{Running}
use Rattle.ncc_world.specs.declared.drivers.Drivers.{Drivers}
use Rattle.ncc_world.specs.Setting.{cluster_of}
use Rattle.ncc_world.specs.Happening.{WorldRun, is_busy_at}
use Rattle.ncc_world.specs.Drivers.{AreAtWork, Becomes, IsAwake, with_one}
use Rattle.ncc_world.specs.Parts.{HasDone, RunsDue, RunsMid, drivers_in, run_in}
use Rattle.ncc_world.proofs.Doing.{at_any, closes_with, driven, mid_with, there_in, within_list}

-- ---- one session is another

pub mid_becomes : (s : Setup) (index : ℕ) (left more : List Action) (pending : List ℕ) (w : Running) (r : WorldRun) (ds : Drivers) (d e : Driver)
    → driver_at r index ≡ Some d → Becomes s index (drivers_in w.drivers) (drivers_in ds) d left e more → RunsMid s index left pending w r
    → RunsMid s index more pending (record w { drivers = ds }) (with_driver r index e)
mid_becomes s index left more pending w r ds d e there b h =
    mid_with s index left more pending w r ds (with_one index e r.driving) h (b r.now r.driving pending there h.drives)

-- it now is what it was made
pub there_now : (r : WorldRun) (k : ℕ) (d e : Driver) → driver_at r k ≡ Some d → driver_at (with_driver r k e) k ≡ Some e
there_now r k d e there = set_same r.driving.drivers k d e there

-- ---- it is told something

-- All that it knows now, and what it wants done beyond what it wanted.
abbrev pub told_works : WorldRun → Driver → Input → List Begun
told_works r d input = with_input d.works (input, r.now)

pub mid_hears : (s : Setup) (index : ℕ) (pending : List ℕ) (w : Running) (r : WorldRun) (ds : Drivers) (d : Driver) (input : Input)
    → driver_at r index ≡ Some d
    → Becomes s index (drivers_in w.drivers) (drivers_in ds) d [] (knows d (with_input d.works (input, w.clock)))
    (more d (with_input d.works (input, w.clock)))
    → RunsMid s index [] pending w r
    → RunsMid s index (more d (told_works r d input)) pending (record w { drivers = ds }) (with_driver r index (knows d (told_works r d input)))
mid_hears s index pending w r ds d input there b h =
    let now : w.clock ≡ r.now = h.runs_as.now in
    subst (λ (n : ℕ). RunsMid s index (more d (with_input d.works (input, n))) pending (record w { drivers = ds })
    (with_driver r index (knows d (with_input d.works (input, n))))) now
    (mid_becomes s index [] (more d (with_input d.works (input, w.clock))) pending w r ds d (knows d (with_input d.works (input, w.clock))) there b h)

-- Nothing is told of the last that it did.
pub told_once : (s : Setup) (line k : ℕ) (r : WorldRun) (d e : Driver) (works : List Begun)
    → driver_at (does_more (cluster_of s) line k r d works) k ≡ Some e → None ≡ joined (cluster_of s) (last_of (more d works))
    → does_more (cluster_of s) line k r d works ≡ turns_to (cluster_of s) line k r d works
told_once s line k r d e works there none =
    let t = does_more (cluster_of s) line k r d works in
    ap (λ (o : Option Driver). follows_on (cluster_of s) line k t o None) (sym there)
    ∙ ap (λ (o : Option Input). follows_on (cluster_of s) line k t (driver_at t k) o) none

-- This is told of it.
pub told_twice : (s : Setup) (line k : ℕ) (r : WorldRun) (d e : Driver) (works : List Begun) (input : Input)
    → driver_at (does_more (cluster_of s) line k r d works) k ≡ Some e → Some input ≡ joined (cluster_of s) (last_of (more d works))
    → does_more (cluster_of s) line k (does_more (cluster_of s) line k r d works) e
    (with_input e.works (input, (does_more (cluster_of s) line k r d works).now))
    ≡ turns_to (cluster_of s) line k r d works
told_twice s line k r d e works input there some =
    let t = does_more (cluster_of s) line k r d works in
    ap (λ (o : Option Driver). follows_on (cluster_of s) line k t o (Some input)) (sym there)
    ∙ ap (λ (o : Option Input). follows_on (cluster_of s) line k t (driver_at t k) o) some

-- ---- it begins a work

pub mid_begins : (s : Setup) (index : ℕ) (w : Running) (r : WorldRun) (ds : Drivers) (d : Driver) (told meant : Job) → driver_at r index ≡ Some d
    → told ≡ meant
    → (AreAtWork s index [] [] (drivers_in w.drivers) w.clock r.driving
    → AreAtWork s index [] [] (drivers_in ds) w.clock (with_one index (knows d (d.works ++ begun told w.clock ∷ [])) r.driving))
    → RunsMid s index [] [] w r
    → RunsMid s index [] [] (record w { drivers = ds }) (with_driver r index (knows d (d.works ++ begun meant r.now ∷ [])))
mid_begins s index w r ds d told meant there same f h =
    let now : w.clock ≡ r.now = h.runs_as.now in
    let old : AreAtWork s index [] [] (drivers_in w.drivers) w.clock r.driving =
    subst (λ (n : ℕ). AreAtWork s index [] [] (drivers_in w.drivers) n r.driving) (sym now) h.drives in
    let new : AreAtWork s index [] [] (drivers_in ds) r.now (with_one index (knows d (d.works ++ begun told w.clock ∷ [])) r.driving) =
    subst (λ (n : ℕ). AreAtWork s index [] [] (drivers_in ds) n (with_one index (knows d (d.works ++ begun told w.clock ∷ [])) r.driving)) now
    (f old) in
    let here : RunsMid s index [] [] (record w { drivers = ds }) (with_driver r index (knows d (d.works ++ begun told w.clock ∷ []))) =
    mid_with s index [] [] [] w r ds (with_one index (knows d (d.works ++ begun told w.clock ∷ [])) r.driving) h new in
    subst (λ (n : ℕ). RunsMid s index [] [] (record w { drivers = ds }) (with_driver r index (knows d (d.works ++ begun meant n ∷ [])))) now
    (subst (λ (j : Job). RunsMid s index [] [] (record w { drivers = ds }) (with_driver r index (knows d (d.works ++ begun j w.clock ∷ []))))
    same here)

pub begins_so : (s : Setup) (line k : ℕ) (r : WorldRun) (d : Driver) (job : Job) → driver_at r k ≡ Some d
    → told_input (cluster_of s) line k (with_driver r k (knows d (d.works ++ begun job r.now ∷ [])))
    (knows d (d.works ++ begun job r.now ∷ [])) i.Start
    ≡ begins (cluster_of s) line k r job
begins_so s line k r d job there = ap (λ (o : Option Driver). begins_by (cluster_of s) line k r o job) (sym there)

pub not_busy : (r : WorldRun) (index : ℕ) (d : Driver) → driver_at r index ≡ Some d → is_busy_at r (index + 1) ≡ false → is_busy d ≡ false
not_busy r index d there free =
    let at : (index + 1) - 1 ≡ index = omega arith in
    let there_too : driver_at r ((index + 1) - 1) ≡ Some d = ap (driver_at r) at ∙ there in
    ap busy (sym there_too) ∙ free where
      busy : Option Driver → Bool
      busy o = elim o [ Some x ↦ is_busy x | None ↦ false ]

-- ---- it loses its link

closes_driving : (r : WorldRun) (at : ℕ) → (closes r at).driving ≡ r.driving
closes_driving r at = go (slice_get r.clients at) where
  one : (b : Bool) (c : Client) → (if b then r else closed_at r at c).driving ≡ r.driving
  one true c = refl
  one false c = refl

  go : (o : Option Client) → (closes_one r at o).driving ≡ r.driving
  go None = refl
  go (Some c) = one c.closed c

pub cut_there : (r : WorldRun) (k : ℕ) (d e : Driver) (at : ℕ) → driver_at r k ≡ Some d
    → driver_at (closes (with_driver r k e) at) k ≡ Some e
cut_there r k d e at there =
    ap (λ (x : Driving). slice_get x.drivers k) (closes_driving (with_driver r k e) at) ∙ there_now r k d e there

pub linked_at : (o : Option Link) (conn : ℕ) → Some conn ≡ conn_in o → (link : Link) × (o ≡ Some link) × (conn ≡ link.conn)
linked_at None conn e = absurd (cc)
linked_at (Some link) conn e = (link, refl, cc)

pub unlinked_at : (o : Option Link) → None ≡ conn_in o → o ≡ None
unlinked_at None e = refl
unlinked_at (Some link) e = absurd (cc)

pub cuts_so : (s : Setup) (line k : ℕ) (r : WorldRun) (d : Driver) (conn : ℕ) → driver_at r k ≡ Some d → Some conn ≡ conn_in d.link
    → told_input (cluster_of s) line k (closes (with_driver r k (record d { link = None })) (conn - 1)) (record d { link = None }) i.Lost
    ≡ cuts (cluster_of s) line k r (driver_at r k)
cuts_so s line k r d conn there e =
    let l = linked_at d.link conn e in
    let gone : Driver = record d { link = None } in
    ap (λ (n : ℕ). told_input (cluster_of s) line k (closes (with_driver r k gone) (n - 1)) gone i.Lost) l.2
    ∙ ap (λ (x : WorldRun). told_input (cluster_of s) line k x gone i.Lost) (closes_with r k gone (l.0.conn - 1))
    ∙ ap (λ (o : Option Link). cuts_by (cluster_of s) line k r d o) (sym l.1)
    ∙ ap (λ (o : Option Driver). cuts (cluster_of s) line k r o) (sym there)

pub cuts_nothing : (s : Setup) (line k : ℕ) (r : WorldRun) (d : Driver) → driver_at r k ≡ Some d → d.link ≡ None
    → r ≡ cuts (cluster_of s) line k r (driver_at r k)
cuts_nothing s line k r d there e =
    ap (λ (o : Option Link). cuts_by (cluster_of s) line k r d o) (sym e)
    ∙ ap (λ (o : Option Driver). cuts (cluster_of s) line k r o) (sym there)

-- ---- it is woken

pub due_mid : (s : Setup) (at : ℕ) (pending : List ℕ) (w : Running) (r : WorldRun) → IsAwake (at + 1) pending → RunsDue s pending w r
    → RunsMid s at [] pending w r
due_mid s at pending w r awake h = record {
  runs_as = h.0;
  drives = at_any s 0 at pending (drivers_in w.drivers) r.now r.driving h.1;
  members = h.2;
  awake = awake;
}

pub mid_due : (s : Setup) (at : ℕ) (pending : List ℕ) (w : Running) (r : WorldRun) → RunsMid s at [] pending w r → RunsDue s pending w r
mid_due s at pending w r h =
    (h.runs_as, at_any s at 0 pending (drivers_in w.drivers) r.now r.driving h.drives, h.members)

-- It is not among those still to be woken, and does not sleep any more.
pub mid_wakes : (s : Setup) (number : ℕ) (pending : List ℕ) (w : Running) (r : WorldRun) (ds : Drivers) (d : Driver) → 0 < number
    → IsAwake number pending
    → (AreAtWork s (number - 1) [] (number ∷ pending) (drivers_in w.drivers) r.now r.driving
    → AreAtWork s (number - 1) [] pending (drivers_in ds) r.now (with_one (number - 1) (record d { wakes = None }) r.driving))
    → RunsDue s (number ∷ pending) w r
    → RunsMid s (number - 1) [] pending (record w { drivers = ds }) (with_driver r (number - 1) (record d { wakes = None }))
mid_wakes s number pending w r ds d some awake f h = record {
  runs_as = driven s (run_in w) r (with_one (number - 1) (record d { wakes = None }) r.driving) h.0;
  drives = f (at_any s 0 (number - 1) (number ∷ pending) (drivers_in w.drivers) r.now r.driving h.1);
  members = h.2;
  awake = let e : number ≡ number - 1 + 1 = omega (arith, some) in subst (λ (n : ℕ). IsAwake n pending) e awake;
}

-- ---- what stands for some run does so behind a call, too

-- There are as many sessions as before.
pub done_by : (s : Setup) (at index : ℕ) (left : List Action) (pending : List ℕ) (old new : Running) (r t : WorldRun) (d : Driver)
    → RunsMid s at left pending old r → driver_at r index ≡ Some d
    → length new.drivers.list.items ≡ length old.drivers.list.items → RunsMid s index [] pending new t → HasDone s index new
done_by s at index left pending old new r t d h there count k =
    let x = there_in s index [] pending new t index k (omega (arith, count, within_list s at left pending old r index d h there)) in
    record { run = t; pending = pending; runs_mid = k; driver = x.0; there = x.1 }
