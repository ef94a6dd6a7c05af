-- The own step of an event, by its kind.
use Rattle.std.proofs.Common.{◌≡◌, ℕ, ◌-◌, List, true, refl}
use Rattle.std.specs.Prelude.{slice_get, take}
use Rattle.ncc_bookmark.specs.Point.{Point}
use Rattle.ncc_clients.specs.Run.{ticked, opened, moved}
use Rattle.ncc_clients.specs.Drives.{wakes_all, feeds, closes_one, makes, begins, lifts, falls, cuts, driver_at}
use Rattle.ncc_clients.specs.Links.{lift_bytes}
use Rattle.ncc_world.specs.declared.setup.Setup.{Setup}
use Rattle.ncc_world.specs.declared.event.Event.{Event}
use Rattle.ncc_world.specs.declared.event.Event.TheVariants.{Time, Put, Get, Apply, Open, Bytes, Close, Session, Work, Up, Down, Cut}
use Rattle.ncc_world.specs.Setting.{cluster_of}
use Rattle.ncc_world.specs.Requests.{put_request, get_request}
use Rattle.ncc_world.specs.Happening.{WorldRun, own, asks, lagged, Steps, config_of, meant}
use Rattle.ncc_world.specs.declared.running.Running.{Running}
use Rattle.ncc_world.specs.declared.event.Job.{Job}
use Rattle.ncc_world.specs.Parts.{RunsAll}

-- what an event comes to before its turns, as a world keeps it
abbrev pub Stepped : Setup → ℕ → Running → WorldRun → Event → Type 0
Stepped s line w r event = (t : WorldRun) × Steps s line event r t × RunsAll s w t

pub own_time : (s : Setup) (line : ℕ) (r : WorldRun) (to : ℕ) → wakes_all (cluster_of s) line (ticked r to) ≡ own s line (Time to) r
unfolding own
own_time s line r to = refl

pub own_put : (s : Setup) (line : ℕ) (r : WorldRun) (member : ℕ) (key value : List ℕ) (bookmarks : List Point)
    → asks s r member (put_request key value bookmarks) ≡ own s line (Put member key value bookmarks) r
unfolding own
own_put s line r member key value bookmarks = refl

pub own_get : (s : Setup) (line : ℕ) (r : WorldRun) (member : ℕ) (key : List ℕ) (bookmarks : List Point)
    → asks s r member (get_request key bookmarks) ≡ own s line (Get member key bookmarks) r
unfolding own
own_get s line r member key bookmarks = refl

pub own_apply : (s : Setup) (line : ℕ) (r : WorldRun) (member count : ℕ)
    → moved (cluster_of s) r (lagged r.members member count) ≡ own s line (Apply member count) r
unfolding own
own_apply s line r member count = refl

pub own_open : (s : Setup) (line : ℕ) (r : WorldRun) (member : ℕ) → opened r member true ≡ own s line (Open member) r
unfolding own
own_open s line r member = refl

pub own_bytes : (s : Setup) (line : ℕ) (r : WorldRun) (conn : ℕ) (bytes : List ℕ) → feeds (cluster_of s) r (conn - 1) bytes ≡ own s line (Bytes conn bytes) r
unfolding own
own_bytes s line r conn bytes = refl

pub own_close : (s : Setup) (line : ℕ) (r : WorldRun) (conn : ℕ) → closes_one r (conn - 1) (slice_get r.clients (conn - 1)) ≡ own s line (Close conn) r
unfolding own
own_close s line r conn = refl

pub own_session : (s : Setup) (line : ℕ) (r : WorldRun) (seed : ℕ) → makes r (config_of s seed) ≡ own s line (Session seed) r
unfolding own
own_session s line r seed = refl

pub own_work : (s : Setup) (line : ℕ) (r : WorldRun) (session : ℕ) (job : Job)
    → begins (cluster_of s) line (session - 1) r (meant job) ≡ own s line (Work session job) r
unfolding own
own_work s line r session job = refl

pub own_up : (s : Setup) (line : ℕ) (r : WorldRun) (session count : ℕ)
    → lifts (cluster_of s) (session - 1) r (driver_at r (session - 1)) (lift_bytes count) ≡ own s line (Up session count) r
unfolding own
own_up s line r session count = refl

pub own_down : (s : Setup) (line : ℕ) (r : WorldRun) (session count : ℕ)
    → falls (cluster_of s) line (session - 1) r (driver_at r (session - 1)) (take count) ≡ own s line (Down session count) r
unfolding own
own_down s line r session count = refl

pub own_cut : (s : Setup) (line : ℕ) (r : WorldRun) (session : ℕ)
    → cuts (cluster_of s) line (session - 1) r (driver_at r (session - 1)) ≡ own s line (Cut session) r
unfolding own
own_cut s line r session = refl
