-- What a session of a world wants done is done: what each part of it makes of the run that the world stands for.
use Rattle.std.proofs.Common.{◌≡◌, ℕ, suc, ◌-◌, ◌<◌, Bool, true, false, cond, List, [], ◌∷◌, length, get_or, Option, Some, None, refl}
use Rattle.std.proofs.lemmas.Option.{get_or_from_slice_get}
use Rattle.std.proofs.Common.{sym, ap, ◌∙◌, subst, arith, inl, inr}
use Rattle.std.proofs.lemmas.Bool.Decides.{eqb_tells}
use Rattle.std.specs.Prelude.{slice_get, ◌==◌}
use Rattle.ncc_driver.specs.declared.action.Action.{Action}
use Rattle.ncc_driver.specs.declared.action.Action.TheVariants.{Connect, Send, Close, Sleep, Receive, Finish}
use Rattle.ncc_driver.specs.declared.action.Input.{Input}
use Rattle.ncc_driver.specs.declared.action.WorkDone.{WorkDone}
use Rattle.ncc_driver.specs.declared.action.WorkError.{WorkError}
use Rattle.std.specs.Prelude.{Result}
use Rattle.ncc_clients.specs.Links.{Link, Driver, Driving, bytes_in}
use Rattle.ncc_clients.specs.Run.{Client, fed, closed_at}
use Rattle.ncc_clients.specs.Drives.{driver_at, with_driver, feeds, feeds_one, closes, closes_one, parts}
use Rattle.ncc_clients.specs.Drives.{does_by, does, does_all, joined, last_of}
use Rattle.ncc_clients.proofs.Lists.{get_there, get_within}
use Rattle.ncc_clients.proofs.Doing.{set_back}
use Rattle.ncc_clients.specs.declared.driver.Effect.TheVariants.{Nothing, Joins, Parts, Sleeps, Ends}
use Rattle.ncc_clients.specs.Held.{Held, effect_of, parts_by}
use Rattle.ncc_world.specs.declared.setup.Setup.{Setup}
use Rattle.ncc_world.specs.declared.running.Running.{Running}
use Rattle.ncc_world.specs.declared.drivers.Drivers.{Drivers}
use Rattle.ncc_world.specs.Setting.{cluster_of}
use Rattle.ncc_world.specs.Happening.{WorldRun}
use Rattle.ncc_world.specs.World.{KeptRun, RunsAs}
use Rattle.ncc_world.specs.Drivers.{AreAtWork, IsOne, KeptDrivers, left_of}
use Rattle.ncc_world.specs.Parts.{RunsAll, RunsMid, drivers_in, run_in, with_own}

-- ---- runs in the middle of what a session does

-- What the sessions do is no part of what is kept of members and connections.
pub driven : (s : Setup) (k : KeptRun) (r : WorldRun) (driving : Driving) → RunsAs s k r → RunsAs s k (record r { driving = driving })
driven s k r driving h = record {
  now = h.now;
  members = h.members;
  clients = h.clients;
  told = h.told;
  earlier = record { count = h.earlier.count; each = h.earlier.each };
}

-- The sessions have changed, and nothing else.
pub mid_with : (s : Setup) (at : ℕ) (left more : List Action) (pending : List ℕ) (w : Running) (r : WorldRun) (ds : Drivers) (driving : Driving)
    → RunsMid s at left pending w r → AreAtWork s at more pending (drivers_in ds) r.now driving
    → RunsMid s at more pending (record w { drivers = ds }) (record r { driving = driving })
mid_with s at left more pending w r ds driving h k = record {
  runs_as = driven s (run_in w) r driving h.runs_as;
  drives = k;
  members = h.members;
  awake = h.awake;
}

none_if : (b : Bool) (none : List Action) → cond b none none ≡ none
none_if true none = refl
none_if false none = refl

-- Where all have done all, it is no matter which session is meant.
pub at_any : (s : Setup) (at other : ℕ) (pending : List ℕ) (k : KeptDrivers) (now : ℕ) (driving : Driving)
    → AreAtWork s at [] pending k now driving → AreAtWork s other [] pending k now driving
at_any s at other pending k now driving h = record {
  each = record {
    count = h.each.count;
    each = λ i held d a b. subst (λ (left : List Action). IsOne now held d left) (none_if (i == at) [] ∙ sym (none_if (i == other) []))
        (h.each.each i held d a b);
  };
  names = h.names;
  sleepers = h.sleepers;
  linked = h.linked;
  works = h.works;
}

pub all_at : (s : Setup) (at : ℕ) (w : Running) (r : WorldRun) → RunsAll s w r → RunsMid s at [] [] w r
all_at s at w r h = record {
  runs_as = h.runs_as;
  drives = at_any s 0 at [] (drivers_in w.drivers) r.now r.driving h.drives;
  members = h.members;
  awake = refl;
}

pub at_all : (s : Setup) (at : ℕ) (w : Running) (r : WorldRun) → RunsMid s at [] [] w r → RunsAll s w r
at_all s at w r h = record {
  runs_as = h.runs_as;
  drives = at_any s at 0 [] (drivers_in w.drivers) r.now r.driving h.drives;
  members = h.members;
  awake = refl;
}

pub there_in : (s : Setup) (at : ℕ) (left : List Action) (pending : List ℕ) (w : Running) (r : WorldRun) (index : ℕ)
    → RunsMid s at left pending w r → index < length w.drivers.list.items → (d : Driver) × (driver_at r index ≡ Some d)
there_in s at left pending w r index h lt =
    let count : length w.drivers.list.items ≡ length r.driving.drivers = h.drives.each.count in
    get_there r.driving.drivers index (omega (arith, lt, count))

pub within_list : (s : Setup) (at : ℕ) (left : List Action) (pending : List ℕ) (w : Running) (r : WorldRun) (index : ℕ) (d : Driver)
    → RunsMid s at left pending w r → driver_at r index ≡ Some d → index < length w.drivers.list.items
within_list s at left pending w r index d h there =
    let count : length w.drivers.list.items ≡ length r.driving.drivers = h.drives.each.count in
    omega (arith, count, get_within r.driving.drivers index d there)

-- what it keeps of the session at an index
pub held_in : (s : Setup) (at : ℕ) (left : List Action) (pending : List ℕ) (w : Running) (r : WorldRun) (index : ℕ) (d : Driver)
    → RunsMid s at left pending w r → driver_at r index ≡ Some d
    → (held : Held) × (slice_get w.drivers.list.items index ≡ Some held) × IsOne r.now held d (left_of at left index)
held_in s at left pending w r index d h there =
    let x : (held : Held) × (slice_get w.drivers.list.items index ≡ Some held) =
    get_there w.drivers.list.items index (within_list s at left pending w r index d h there) in
    (x.0, x.1, h.drives.each.each index x.0 d x.1 there)

-- its link is that of the session of the run
pub link_of : (s : Setup) (at : ℕ) (left : List Action) (pending : List ℕ) (w : Running) (r : WorldRun) (index : ℕ) (d : Driver) (held : Held)
    → RunsMid s at left pending w r → driver_at r index ≡ Some d → held ≡ get_or w.drivers.list.items index held → held.link ≡ d.link
link_of s at left pending w r index d held h there e =
    let x = held_in s at left pending w r index d h there in
    let same : held ≡ x.0 = e ∙ get_or_from_slice_get w.drivers.list.items index x.0 held x.1 in
    ap (λ (y : Held). y.link) same ∙ x.2.stands.link_is

-- what sessions keep of the one at an index
pub held_at : (s : Setup) (at : ℕ) (left : List Action) (pending : List ℕ) (k : KeptDrivers) (now : ℕ) (driving : Driving) (index : ℕ) (d : Driver)
    → AreAtWork s at left pending k now driving → slice_get driving.drivers index ≡ Some d
    → (held : Held) × (slice_get k.list index ≡ Some held) × (held.link ≡ d.link)
held_at s at left pending k now driving index d h there =
    let x : (held : Held) × (slice_get k.list index ≡ Some held) =
    get_there k.list index (omega (arith, h.each.count, get_within driving.drivers index d there)) in
    (x.0, x.1, (h.each.each index x.0 d x.1 there).stands.link_is)

-- ---- a session is put in the place of itself, and nothing else changes

pub same_run : (r : WorldRun) (k : ℕ) (d : Driver) → driver_at r k ≡ Some d → with_driver r k d ≡ r
same_run r k d e =
    ap (λ (ds : List Driver). record r { driving = record r.driving { drivers = ds } }) (set_back r.driving.drivers k d e)

pub feeds_with : (s : Setup) (r : WorldRun) (k : ℕ) (d : Driver) (i : ℕ) (piece : List ℕ)
    → feeds (cluster_of s) (with_driver r k d) i piece ≡ with_driver (feeds (cluster_of s) r i piece) k d
feeds_with s r k d i piece = go (slice_get r.clients i) where
  one : (b : Bool) (c : Client) → cond b (with_driver r k d) (fed (cluster_of s) (with_driver r k d) i c piece)
      ≡ with_driver (cond b r (fed (cluster_of s) r i c piece)) k d
  one true c = refl
  one false c = refl

  go : (o : Option Client) → feeds_one (cluster_of s) (with_driver r k d) i piece o ≡ with_driver (feeds_one (cluster_of s) r i piece o) k d
  go None = refl
  go (Some c) = one c.closed c

pub closes_with : (r : WorldRun) (k : ℕ) (d : Driver) (i : ℕ) → closes (with_driver r k d) i ≡ with_driver (closes r i) k d
closes_with r k d i = go (slice_get r.clients i) where
  one : (b : Bool) (c : Client) → cond b (with_driver r k d) (closed_at (with_driver r k d) i c) ≡ with_driver (cond b r (closed_at r i c)) k d
  one true c = refl
  one false c = refl

  go : (o : Option Client) → closes_one (with_driver r k d) i o ≡ with_driver (closes_one r i o) k d
  go None = refl
  go (Some c) = one c.closed c

-- ---- the effects of an action

-- What an action does where this is told of it at once: it leads from where it is done at its own link to where it is done.
abbrev pub DoesSo : Setup → ℕ → ℕ → WorldRun → Driver → Action → WorldRun → Type 0
DoesSo s line k r d action t = (None ≡ joined (cluster_of s) (Some action)) × (t ≡ does_by (cluster_of s) line k r d action)

pub without : (d : Driver) → d.link ≡ None → record d { link = None } ≡ d
without d e = ap (λ (o : Option Link). record d { link = o }) (sym e)

pub nothing_more : (s : Setup) (line k : ℕ) (r : WorldRun) (d : Driver) (action : Action) → driver_at r k ≡ Some d
    → Nothing ≡ effect_of d action → DoesSo s line k r d action (with_own r k d action)
nothing_more s line k r d (Connect address) there e = absurd (cc)
nothing_more s line k r d (Send bytes) there e = (refl, refl)
nothing_more s line k r d Close there e = go d.link refl e where
  go : (o : Option Link) → d.link ≡ o → Nothing ≡ parts_by o → DoesSo s line k r d Close (with_own r k d Close)
  go None f g = (
    refl,
    ap (λ (x : Driver). with_driver r k x) (without d f) ∙ same_run r k d there ∙ ap (parts (cluster_of s) k d r) (sym f),
  )
  go (Some link) f g = absurd (cc)
nothing_more s line k r d (Sleep until) there e = absurd (cc)
nothing_more s line k r d Receive there e = (refl, same_run r k d there)
nothing_more s line k r d (Finish result) there e = absurd (cc)

pub parts_so : (s : Setup) (line k : ℕ) (r : WorldRun) (d : Driver) (action : Action) (conn : ℕ) (bytes : List ℕ)
    → Parts conn bytes ≡ effect_of d action
    → DoesSo s line k r d action (closes (feeds (cluster_of s) (with_own r k d action) (conn - 1) bytes) (conn - 1))
parts_so s line k r d (Connect address) conn bytes e = absurd (cc)
parts_so s line k r d (Send sent) conn bytes e = absurd (cc)
parts_so s line k r d Close conn bytes e = go d.link refl e where
  go : (o : Option Link) → d.link ≡ o → Parts conn bytes ≡ parts_by o
      → DoesSo s line k r d Close (closes (feeds (cluster_of s) (with_own r k d Close) (conn - 1) bytes) (conn - 1))
  go None f g = absurd (cc)
  go (Some link) f g =
      let conn_is : conn ≡ link.conn = cc in
      let bytes_are : bytes ≡ bytes_in link.up = cc in
      let gone : Driver = record d { link = None } in
      let i = link.conn - 1 in (
        refl,
        ap (λ (n : ℕ). closes (feeds (cluster_of s) (with_driver r k gone) (n - 1) bytes) (n - 1)) conn_is
            ∙ ap (λ (x : List ℕ). closes (feeds (cluster_of s) (with_driver r k gone) i x) i) bytes_are
            ∙ ap (λ (x : WorldRun). closes x i) (feeds_with s r k gone i (bytes_in link.up))
            ∙ closes_with (feeds (cluster_of s) r i (bytes_in link.up)) k gone i
            ∙ ap (parts (cluster_of s) k d r) (sym f),
      )
parts_so s line k r d (Sleep until) conn bytes e = absurd (cc)
parts_so s line k r d Receive conn bytes e = absurd (cc)
parts_so s line k r d (Finish result) conn bytes e = absurd (cc)

-- an action that is done elsewhere than at its own link
pub record Elsewhere (r : WorldRun) (k : ℕ) (d : Driver) (action whole : Action) : Type 0 where
  pub is : action ≡ whole
  pub same : with_own r k d action ≡ r

pub sleeps_so : (r : WorldRun) (k : ℕ) (d : Driver) (action : Action) (until : ℕ) → driver_at r k ≡ Some d
    → Sleeps until ≡ effect_of d action → Elsewhere r k d action (Sleep until)
sleeps_so r k d (Connect address) until there e = absurd (cc)
sleeps_so r k d (Send bytes) until there e = absurd (cc)
sleeps_so r k d Close until there e = absurd (go d.link e) where
  go : (o : Option Link) → Sleeps until ≡ parts_by o → ⊥
  go None g = cc
  go (Some link) g = cc
sleeps_so r k d (Sleep other) until there e = record { is = cc; same = same_run r k d there }
sleeps_so r k d Receive until there e = absurd (cc)
sleeps_so r k d (Finish result) until there e = absurd (cc)

pub ends_so : (r : WorldRun) (k : ℕ) (d : Driver) (action : Action) (ended : Result WorkDone WorkError) → driver_at r k ≡ Some d
    → Ends ended ≡ effect_of d action → Elsewhere r k d action (Finish ended)
ends_so r k d (Connect address) ended there e = absurd (cc)
ends_so r k d (Send bytes) ended there e = absurd (cc)
ends_so r k d Close ended there e = absurd (go d.link e) where
  go : (o : Option Link) → Ends ended ≡ parts_by o → ⊥
  go None g = cc
  go (Some link) g = cc
ends_so r k d (Sleep until) ended there e = absurd (cc)
ends_so r k d Receive ended there e = absurd (cc)
ends_so r k d (Finish result) ended there e = record { is = cc; same = same_run r k d there }

pub joins_so : (r : WorldRun) (k : ℕ) (d : Driver) (action : Action) (address : List ℕ) → driver_at r k ≡ Some d
    → Joins address ≡ effect_of d action → Elsewhere r k d action (Connect address)
joins_so r k d (Connect other) address there e = record { is = cc; same = same_run r k d there }
joins_so r k d (Send bytes) address there e = absurd (cc)
joins_so r k d Close address there e = absurd (go d.link e) where
  go : (o : Option Link) → Joins address ≡ parts_by o → ⊥
  go None g = cc
  go (Some link) g = cc
joins_so r k d (Sleep until) address there e = absurd (cc)
joins_so r k d Receive address there e = absurd (cc)
joins_so r k d (Finish result) address there e = absurd (cc)

-- ---- one action after another

pub all_first : (s : Setup) (line k : ℕ) (action : Action) (behind : List Action) (r : WorldRun) (d : Driver) → driver_at r k ≡ Some d
    → does_all (cluster_of s) line k behind (does_by (cluster_of s) line k r d action) ≡ does_all (cluster_of s) line k (action ∷ behind) r
unfolding does_all
all_first s line k action behind r d there =
    ap (λ (o : Option Driver). does_all (cluster_of s) line k behind (does_at o)) (sym there) where
      does_at : Option Driver → WorldRun
      does_at o = does (cluster_of s) line k r o action

pub all_done : (s : Setup) (line k : ℕ) (r : WorldRun) → does_all (cluster_of s) line k [] r ≡ r
unfolding does_all
all_done s line k r = refl

-- What is told where these are left, and this was told of the last that was done.
abbrev pub told_behind : Setup → Option Input → List Action → Option Input
told_behind s told [] = told
told_behind s told (action ∷ behind) = joined (cluster_of s) (last_of (action ∷ behind))

pub told_first : (s : Setup) (left : List Action) → told_behind s None left ≡ joined (cluster_of s) (last_of left)
told_first s [] = refl
told_first s (action ∷ behind) = refl

pub told_next : (s : Setup) (told was : Option Input) (action : Action) (behind : List Action) → told ≡ joined (cluster_of s) (Some action)
    → told_behind s told behind ≡ told_behind s was (action ∷ behind)
told_next s told was action [] e = e
told_next s told was action (next ∷ behind) e =
    let n : length (action ∷ (next ∷ behind)) - 1 ≡ suc (length (next ∷ behind) - 1) = omega arith in
    ap (λ (i : ℕ). joined (cluster_of s) (slice_get (action ∷ (next ∷ behind)) i)) (sym n)

-- how many actions a session has not handed out
abbrev pub queued_in : Option Held → ℕ
queued_in None = 0
queued_in (Some held) = length held.session.queue

same_at : (at : ℕ) (left : List Action) → left_of at left at ≡ left
same_at at left = elim (eqb_tells at at) [
  | inl h ↦ ap (λ (b : Bool). cond b left []) h.0
  | inr h ↦ absurd (h.1 refl)
]

pub queued_is : (s : Setup) (at : ℕ) (left : List Action) (pending : List ℕ) (w : Running) (r : WorldRun) (d : Driver)
    → RunsMid s at left pending w r → driver_at r at ≡ Some d → queued_in (slice_get w.drivers.list.items at) ≡ length left
queued_is s at left pending w r d h there =
    let x = held_in s at left pending w r at d h there in
    ap queued_in x.1 ∙ ap length (x.2.stands.left_is ∙ same_at at left)
