-- Loops over what sessions do: all that one wants done is done, all who are due are woken, and all that may move on a link moves.
use Rattle.std.proofs.Common.{◌≡◌, ℕ, suc, ◌+◌, ◌-◌, ◌<◌, ◌≤◌, List, [], ◌∷◌, length, Option, Some, None}
use Rattle.std.proofs.Common.{refl, sym, ap, ◌∙◌, subst, arith, drop, get_or, drop-cons}
use Rattle.std.specs.Prelude.{slice_get}
use Rattle.ncc_driver.specs.declared.action.Action.{Action}
use Rattle.ncc_driver.specs.declared.action.Input.{Input}
use Rattle.ncc_clients.proofs.Lists.{get_there}
use Rattle.ncc_clients.specs.Links.{Driver, Driving}
use Rattle.ncc_clients.specs.Drives.{does_all, does_by, driver_at, joined, last_of, wakes_all, woken}
use Rattle.ncc_clients.specs.declared.driver.Effect.{Effect}
use Rattle.ncc_clients.specs.Held.{effect_of, own}
use Rattle.ncc_clients.specs.Measure.{number}
use Rattle.ncc_world.specs.declared.setup.Setup.{Setup}
use Rattle.ncc_world.specs.declared.running.Running.{Running}
use Rattle.ncc_world.specs.declared.drivers.Drivers.{Drivers}
use Rattle.ncc_world.specs.Setting.{cluster_of}
use Rattle.ncc_world.specs.Happening.{WorldRun}
use Rattle.ncc_world.specs.Drivers.{AreAtWork, DoesFirst, IsAwake, due_from, with_one}
use Rattle.ncc_world.specs.Parts.{HasDone, HasDue, HasMid, MovesOnce, PumpsOn, RunsAll, RunsDue, RunsMid, drivers_in, with_own}
use Rattle.ncc_world.proofs.Doing.{all_at, all_done, all_first, mid_with, queued_in, queued_is, there_in, told_behind, told_first, told_next, within_list}
use Rattle.ncc_world.proofs.Listening.{there_now}
use Rattle.ncc_world.proofs.Lessening.{number_most}
use Rattle.ncc_world.proofs.Waking.{AreNext, are_next, next_first, wakes_are, wakes_each, wakes_next, wakes_none}

-- ---- all that a session wants done

-- Of these actions in that run, so many are left in this one, and this was told of the last that was done.
pub record DoesOn (s : Setup) (line index : ℕ) (all : List Action) (pending : List ℕ) (from : WorldRun) (w : Running) (told : Option Input) : Type 0
  where
    pub run : WorldRun
    pub driver : Driver
    pub left : List Action
    pub there : driver_at run index ≡ Some driver
    pub runs_mid : RunsMid s index left pending w run
    pub same : does_all (cluster_of s) line index left run ≡ does_all (cluster_of s) line index all from
    pub tells : told_behind s told left ≡ joined (cluster_of s) (last_of all)

pub does_start : (s : Setup) (line index : ℕ) (all : List Action) (pending : List ℕ) (r : WorldRun) (d : Driver) (w : Running)
    → driver_at r index ≡ Some d → RunsMid s index all pending w r → DoesOn s line index all pending r w None
does_start s line index all pending r d w there h = record {
  run = r;
  driver = d;
  left = all;
  there = there;
  runs_mid = h;
  same = refl;
  tells = told_first s all;
}

-- what is done at its own link, and what is left to do of the action
pub record Begins (s : Setup) (index : ℕ) (pending : List ℕ) (r : WorldRun) (d : Driver) (left : List Action) (effect : Effect) (w : Running) : Type 0
  where
    pub action : Action
    pub behind : List Action
    pub left_is : left ≡ action ∷ behind
    pub effect_is : effect ≡ effect_of d action
    pub runs_mid : RunsMid s index behind pending w (with_own r index d action)

pub does_first : (s : Setup) (index : ℕ) (left : List Action) (pending : List ℕ) (w : Running) (r : WorldRun) (d : Driver) (ds : Drivers)
    (effect : Effect) → driver_at r index ≡ Some d → RunsMid s index left pending w r
    → DoesFirst s index (drivers_in w.drivers) (drivers_in ds) d left effect
    → Begins s index pending r d left effect (record w { drivers = ds })
does_first s index left pending w r d ds effect there h f =
    let x = f r.now r.driving pending there h.drives in
    record {
      action = x.0;
      behind = x.1;
      left_is = x.2;
      effect_is = x.3;
      runs_mid = mid_with s index left x.1 pending w r ds (with_one index (own d x.0) r.driving) h x.4;
    }

pub has_begun : (s : Setup) (index : ℕ) (left : List Action) (pending : List ℕ) (w : Running) (r : WorldRun) (d : Driver) (effect : Effect)
    → driver_at r index ≡ Some d → Begins s index pending r d left effect w → HasMid s index w
has_begun s index left pending w r d effect there b = record {
  run = with_own r index d b.action;
  left = b.behind;
  pending = pending;
  runs_mid = b.runs_mid;
  driver = own d b.action;
  there = there_now r index d (own d b.action) there;
}

-- An action is done.
abbrev pub ActsOn : Setup → ℕ → ℕ → Effect → Running → Running → Option Input → Type 0
ActsOn s line index effect w new told =
    (r : WorldRun) (d : Driver) (action : Action) (behind : List Action) (pending : List ℕ) → driver_at r index ≡ Some d
    → RunsMid s index behind pending w (with_own r index d action) → effect ≡ effect_of d action
    → (told ≡ joined (cluster_of s) (Some action)) × RunsMid s index behind pending new (does_by (cluster_of s) line index r d action)

-- The first of what is left is done, and there is less to do.
pub record Steps (s : Setup) (line index : ℕ) (all : List Action) (pending : List ℕ) (from : WorldRun) (old new : Running) (told : Option Input)
    : Type 0 where
  pub on : DoesOn s line index all pending from new told
  pub less : queued_in (slice_get new.drivers.list.items index) < queued_in (slice_get old.drivers.list.items index)

pub does_step : (s : Setup) (line index : ℕ) (all : List Action) (pending : List ℕ) (from : WorldRun) (w new : Running) (was told : Option Input)
    (ds : Drivers) (effect : Effect) → DoesOn s line index all pending from w was
    → ((d : Driver) (left : List Action) → DoesFirst s index (drivers_in w.drivers) (drivers_in ds) d left effect)
    → ActsOn s line index effect (record w { drivers = ds }) new told
    → length new.drivers.list.items ≡ length w.drivers.list.items
    → Steps s line index all pending from w new told
does_step s line index all pending from w new was told ds effect x f a count =
    let b = does_first s index x.left pending w x.run x.driver ds effect x.there x.runs_mid (f x.driver x.left) in
    let y = a x.run x.driver b.action b.behind pending x.there b.runs_mid b.effect_is in
    let t = does_by (cluster_of s) line index x.run x.driver b.action in
    let there = there_in s index b.behind pending new t index y.1
    (omega (arith, count, within_list s index x.left pending w x.run index x.driver x.runs_mid x.there)) in
    let less : length b.behind < length x.left = omega (arith, ap (λ (l : List Action). length l) b.left_is) in
    record {
      on = record {
        run = t;
        driver = there.0;
        left = b.behind;
        there = there.1;
        runs_mid = y.1;
        same = all_first s line index b.action b.behind x.run x.driver x.there
            ∙ ap (λ (l : List Action). does_all (cluster_of s) line index l x.run) (sym b.left_is) ∙ x.same;
        tells = told_next s told was b.action b.behind y.0
            ∙ ap (λ (l : List Action). told_behind s was l) (sym b.left_is) ∙ x.tells;
      };
      less = omega (
        arith,
        less,
        queued_is s index b.behind pending new t there.0 y.1 there.1,
        queued_is s index x.left pending w x.run x.driver x.runs_mid x.there,
      );
    }

pub does_end : (s : Setup) (line index : ℕ) (all : List Action) (pending : List ℕ) (from : WorldRun) (w : Running) (told : Option Input)
    → (x : DoesOn s line index all pending from w told) → x.left ≡ []
    → (told ≡ joined (cluster_of s) (last_of all)) × RunsMid s index [] pending w (does_all (cluster_of s) line index all from)
does_end s line index all pending from w told x none = (
  ap (λ (l : List Action). told_behind s told l) (sym none) ∙ x.tells,
  subst (λ (t : WorldRun). RunsMid s index [] pending w t) (sym (all_done s line index x.run)
      ∙ ap (λ (l : List Action). does_all (cluster_of s) line index l x.run) (sym none) ∙ x.same)
      (subst (λ (l : List Action). RunsMid s index l pending w x.run) none x.runs_mid),
)

-- ---- all who are due

-- Of those who are due in that run, these are still to be woken in this one.
pub record WakesOn (s : Setup) (line : ℕ) (numbers : List ℕ) (from : WorldRun) (w : Running) : Type 0 where
  pub run : WorldRun
  pub runs_due : RunsDue s numbers w run
  pub same : wakes_each s line numbers run ≡ wakes_all (cluster_of s) line from

pub record Dues (s : Setup) (line : ℕ) (r : WorldRun) (w : Running) (ds : Drivers) (due : List ℕ) : Type 0 where
  pub on : WakesOn s line due r (record w { drivers = ds })
  pub next : AreNext (length w.drivers.list.items) due

pub wakes_start : (s : Setup) (line : ℕ) (r : WorldRun) (w : Running) (ds : Drivers) (due : List ℕ)
    → ((driving : Driving) → AreAtWork s 0 [] [] (drivers_in w.drivers) w.clock driving
    → (due ≡ due_from w.clock 1 driving.drivers) × AreAtWork s 0 [] due (drivers_in ds) w.clock driving)
    → RunsAll s w r → Dues s line r w ds due
wakes_start s line r w ds due f h =
    let now : w.clock ≡ r.now = h.runs_as.now in
    let x = f r.driving (subst (λ (n : ℕ). AreAtWork s 0 [] [] (drivers_in w.drivers) n r.driving) (sym now) h.drives) in
    let due_is : due ≡ due_from r.now 1 r.driving.drivers = x.0 ∙ ap (λ (n : ℕ). due_from n 1 r.driving.drivers) now in
    let count : length w.drivers.list.items ≡ length r.driving.drivers = h.drives.each.count in
    let next : AreNext (length w.drivers.list.items) (due_from r.now 1 r.driving.drivers) =
    are_next r.now (length w.drivers.list.items) 1 r.driving.drivers (omega arith) (omega (arith, count)) in
    record {
      on = record {
        run = r;
        runs_due = (h.runs_as, subst (λ (n : ℕ). AreAtWork s 0 [] due (drivers_in ds) n r.driving) now x.1, h.members);
        same = ap (λ (l : List ℕ). wakes_each s line l r) due_is ∙ wakes_are s line r;
      };
      next = subst (AreNext (length w.drivers.list.items)) (sym due_is) next;
    }

-- The first of them is one of the sessions.
pub wakes_due : (s : Setup) (line number : ℕ) (numbers : List ℕ) (from : WorldRun) (w : Running) (count : ℕ)
    → length w.drivers.list.items ≡ count → AreNext count (number ∷ numbers) → WakesOn s line (number ∷ numbers) from w → HasDue s number w
wakes_due s line number numbers from w count same next x =
    let first = next_first count number numbers next in
    let drives : AreAtWork s 0 [] (number ∷ numbers) (drivers_in w.drivers) x.run.now x.run.driving = x.runs_due.1 in
    let there = sits x.run (number - 1) (let many : length w.drivers.list.items ≡ length x.run.driving.drivers = drives.each.count in
    omega (arith, many, same, first.some, first.there)) in
    record {
      run = x.run;
      pending = numbers;
      awake = first.awake;
      runs = x.runs_due;
      some = first.some;
      driver = there.0;
      there = there.1;
    } where
      sits : (r : WorldRun) (k : ℕ) → k < length r.driving.drivers → (d : Driver) × (driver_at r k ≡ Some d)
      sits r k lt = get_there r.driving.drivers k lt

pub wakes_step : (s : Setup) (line number : ℕ) (numbers : List ℕ) (from : WorldRun) (w new : Running) (count : ℕ)
    → length w.drivers.list.items ≡ count → AreNext count (number ∷ numbers)
    → ((r : WorldRun) (d : Driver) (pending : List ℕ) → driver_at r (number - 1) ≡ Some d → RunsDue s (number ∷ pending) w r
    → IsAwake number pending → RunsDue s pending new (woken (cluster_of s) line (number - 1) r d))
    → WakesOn s line (number ∷ numbers) from w → WakesOn s line numbers from new
wakes_step s line number numbers from w new count same next f x =
    let first = next_first count number numbers next in
    let due = wakes_due s line number numbers from w count same next x in
    let drives : AreAtWork s 0 [] (number ∷ numbers) (drivers_in w.drivers) x.run.now x.run.driving = x.runs_due.1 in
    let there = get_there x.run.driving.drivers (number - 1) (let many : length w.drivers.list.items ≡ length x.run.driving.drivers = drives.each.count in
    omega (arith, many, same, first.some, first.there)) in
    record {
      run = woken (cluster_of s) line (number - 1) x.run there.0;
      runs_due = f x.run there.0 numbers there.1 x.runs_due first.awake;
      same = sym (wakes_next s line number numbers x.run there.0 there.1) ∙ x.same;
    }

-- the one at an index, and those behind it
pub wakes_split : (numbers : List ℕ) (index : ℕ) → index < length numbers
    → drop index numbers ≡ get_or numbers index 0 ∷ drop (index + 1) numbers
wakes_split numbers index lt =
    let e : suc index ≡ index + 1 = omega arith in
    drop-cons numbers index 0 lt ∙ ap (λ (n : ℕ). get_or numbers index 0 ∷ drop n numbers) e

pub wakes_end : (s : Setup) (line : ℕ) (from : WorldRun) (w : Running) → WakesOn s line [] from w
    → RunsAll s w (wakes_all (cluster_of s) line from)
wakes_end s line from w x =
    subst (λ (t : WorldRun). RunsAll s w t) (sym (wakes_none s line x.run) ∙ x.same) (record {
      runs_as = x.runs_due.0;
      drives = x.runs_due.1;
      members = x.runs_due.2;
      awake = refl;
    })

-- ---- all that may move

-- Whatever the moves from here lead to, the moves from there lead to it. So many were made, and there may be no more than 35.
pub record MovesOn (s : Setup) (line index moves : ℕ) (requests limit : Option ℕ) (from : WorldRun) (w : Running) : Type 0 where
  pub run : WorldRun
  pub goes : (t : WorldRun) → PumpsOn s line index limit run t → PumpsOn s line index requests from t
  pub runs_all : RunsAll s w run
  pub few : number (cluster_of s) index run + moves ≤ 35

pub moves_start : (s : Setup) (line index : ℕ) (requests : Option ℕ) (r : WorldRun) (w : Running) → RunsAll s w r
    → MovesOn s line index 0 requests requests r w
moves_start s line index requests r w h = record {
  run = r;
  goes = λ t p. p;
  runs_all = h;
  few = omega (arith, number_most (cluster_of s) index r);
}

pub moves_step : (s : Setup) (line index moves : ℕ) (requests limit next : Option ℕ) (from : WorldRun) (w new : Running)
    → (x : MovesOn s line index moves requests limit from w) → MovesOnce s line index limit x.run (Some next) new
    → MovesOn s line index (moves + 1) requests next from new
moves_step s line index moves requests limit next from w new x m = record {
  run = m.0;
  goes = λ t p. x.goes t (m.1 t p);
  runs_all = m.2;
  few = omega (arith, x.few, m.3);
}

pub moves_end : (s : Setup) (line index moves : ℕ) (requests limit : Option ℕ) (from : WorldRun) (w new : Running)
    → (x : MovesOn s line index moves requests limit from w) → MovesOnce s line index limit x.run None new
    → (t : WorldRun) × PumpsOn s line index requests from t × RunsAll s new t
moves_end s line index moves requests limit from w new x m = (m.0, x.goes m.0 m.1, m.2)

-- It stands for a run with all done, in which this session is.
pub has_done : (s : Setup) (index : ℕ) (w : Running) (r : WorldRun) → RunsAll s w r → index < length w.drivers.list.items → HasDone s index w
has_done s index w r h lt =
    let k = all_at s index w r h in
    let x = there_in s index [] [] w r index k lt in
    record { run = r; pending = []; runs_mid = k; driver = x.0; there = x.1 }
