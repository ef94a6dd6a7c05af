-- What an event is: why it is refused, its own step, and what comes of it.
use Rattle.std.specs.Prelude.{◌≡◌, ℕ, ◌-◌, nat_le, ◌==◌, Bool, true, false, not, ◌&&◌, ◌⊎◌, if◌then◌else◌, List, [], ◌∷◌, ◌++◌, length}
use Rattle.std.specs.Prelude.{take, Option, Some, None, slice_get}
use Rattle.std.specs.List.{list_any}
use Rattle.ncc_bolt.specs.declared.message.Request.{Request}
use Rattle.ncc_route.specs.declared.auth.Auth.TheVariants.{Nobody}
use Rattle.ncc_driver.specs.declared.config.SessionConfig.{SessionConfig}
use Rattle.ncc_driver.specs.LawsFits.{AreBytes}
use Rattle.ncc_driver.specs.Work.{Job as Meant, job_by}
use Rattle.ncc_driver.specs.Works.{add_steps, put_steps, get_steps}
use Rattle.ncc_clients.specs.Members.{addresses}
use Rattle.ncc_clients.specs.Links.{Linked, lift_bytes}
use Rattle.ncc_clients.specs.Run.{Run, Client, begun, ticked, opened, moved}
use Rattle.ncc_clients.specs.Drives.{feeds, closes, driver_at, is_busy, makes, begins, lifts, falls, cuts, wakes_all, down_at}
use Rattle.ncc_clients.specs.Drives.{ends_at, Pumps, Pumping, Rests, Stops, Lifts, Falls}
use Rattle.ncc_raft.specs.Member as raft
use Rattle.ncc_clients.specs.Course.{ComeAsBytes}
use Rattle.ncc_clients.specs.Turn.{Turns, Settles}
use Rattle.ncc_world.specs.declared.setup.Setup.{Setup}
use Rattle.ncc_world.specs.declared.event.Event.{Event}
use Rattle.ncc_world.specs.declared.event.Event.TheVariants.{Time, Put, Get, Apply, Timeout, Beat, Deliver, Pull, Crash, Open, Bytes, Close}
use Rattle.ncc_world.specs.declared.event.Event.TheVariants.{Session, Work, Up, Down, Pump, Cut}
use Rattle.ncc_world.specs.declared.event.Job.{Job}
use Rattle.ncc_world.specs.declared.event.Job.TheVariants.{Add}
use Rattle.ncc_world.specs.declared.event.Job.TheVariants as job
use Rattle.ncc_world.specs.declared.error.WorldError.{WorldError}
use Rattle.ncc_world.specs.declared.error.WorldError.TheVariants.{NoMember, NoConn, NoSession, BackInTime, WrongWorld, WrongRole, Busy}
use Rattle.ncc_world.specs.Events.{CountsSome}
use Rattle.ncc_world.specs.Rafts.{unless, refuses_core, refuses_message, refuses_pull, refuses_crash, stepping, delivered, pulled, restarted}
use Rattle.ncc_world.specs.Setting.{Seats, over_list, over_raft, lists_of, cluster_of, lagging, seats_of}
use Rattle.ncc_world.specs.Requests.{client_bytes, put_request, get_request}

-- a run of a world, whatever its members are
abbrev pub WorldRun : Type 0
WorldRun = Run Seats

abbrev pub start_of : Setup → WorldRun
start_of s = begun (seats_of s)

-- ---- why an event is refused

abbrev pub is_member : WorldRun → ℕ → Bool
is_member r member = nat_le 1 member && nat_le member (length (lists_of r.members))

-- a connection of this number that an `open` made
abbrev pub is_printed : Option Client → Bool
is_printed None = false
is_printed (Some c) = c.printed

abbrev pub is_linked : WorldRun → ℕ → Bool
is_linked r conn = list_any (λ (l : Linked). l.conn == conn) r.driving.linked

-- and no session of a driver
abbrev pub is_open_made : WorldRun → ℕ → Bool
is_open_made r conn = nat_le 1 conn && (is_printed (slice_get r.clients (conn - 1)) && not (is_linked r conn))

abbrev pub is_session : WorldRun → ℕ → Bool
is_session r session = nat_le 1 session && nat_le session (length r.driving.drivers)

abbrev pub is_busy_at : WorldRun → ℕ → Bool
is_busy_at r session = elim (driver_at r (session - 1)) [ Some d ↦ is_busy d | None ↦ false ]

-- Over Raft members apply by themselves.
abbrev pub refuses_apply : Seats → Bool → ℕ → Option WorldError
refuses_apply (over_list lists) there member = if there then (if member == 1 then Some WrongRole else None) else Some NoMember
refuses_apply (over_raft fleet) there member = Some WrongWorld

abbrev pub refusal : Setup → WorldRun → Event → Option WorldError
refusal s r (Time to) = unless (nat_le r.now to) BackInTime
refusal s r (Put member key value bookmarks) = unless (is_member r member) NoMember
refusal s r (Get member key bookmarks) = unless (is_member r member) NoMember
refusal s r (Apply member count) = refuses_apply r.members (is_member r member) member
refusal s r (Timeout member) = refuses_core s r.members member
refusal s r (Beat member) = refuses_core s r.members member
refusal s r (Deliver message) = refuses_message r.members message
refusal s r (Pull replica core) = refuses_pull s r.members replica core
refusal s r (Crash member) = refuses_crash s r.members member
refusal s r (Open member) = unless (is_member r member) NoMember
refusal s r (Bytes conn bytes) = unless (is_open_made r conn) NoConn
refusal s r (Close conn) = unless (is_open_made r conn) NoConn
refusal s r (Session seed) = None
refusal s r (Work session job) =
    if is_session r session then unless (not (is_busy_at r session)) Busy else Some NoSession
refusal s r (Up session count) = unless (is_session r session) NoSession
refusal s r (Down session count) = unless (is_session r session) NoSession
refusal s r (Pump session requests) = unless (is_session r session) NoSession
refusal s r (Cut session) = unless (is_session r session) NoSession

-- ---- its own step

-- a member over one list applies up to so many further entries
abbrev pub lagged : Seats → ℕ → ℕ → Seats
lagged (over_list lists) member count = over_list (lagging lists member count)
lagged (over_raft fleet) member count = over_raft fleet

-- a client connects and sends all that it has to say
abbrev pub asks : Setup → WorldRun → ℕ → Request → WorldRun
asks s r member request = feeds (cluster_of s) (opened r member false) (length r.clients) (client_bytes request)

-- a session's routers are all cores, nobody logs in, and it has no bookmarks yet
abbrev pub config_of : Setup → ℕ → SessionConfig
config_of s seed = record { routers = addresses s.cores 1; auth = Nobody; seed = seed; bookmarks = [] }

abbrev pub meant : Job → Meant
meant (Add key by) = job_by true (add_steps key by)
meant (job.Put key value) = job_by true (put_steps key value)
meant (job.Get key) = job_by false (get_steps key)

unfoldable pub own : Setup → ℕ → Event → WorldRun → WorldRun
own s line (Time to) r = wakes_all (cluster_of s) line (ticked r to)
own s line (Put member key value bookmarks) r = asks s r member (put_request key value bookmarks)
own s line (Get member key bookmarks) r = asks s r member (get_request key bookmarks)
own s line (Apply member count) r = moved (cluster_of s) r (lagged r.members member count)
own s line (Timeout member) r = moved (cluster_of s) r (stepping s r.members member raft.Timeout)
own s line (Beat member) r = moved (cluster_of s) r (stepping s r.members member raft.Beat)
own s line (Deliver message) r = moved (cluster_of s) r (delivered s r.members message)
own s line (Pull replica core) r = moved (cluster_of s) r (pulled s r.members replica core)
own s line (Crash member) r = ends_at (cluster_of s) line member (restarted s r.members member) r
own s line (Open member) r = opened r member true
own s line (Bytes conn bytes) r = feeds (cluster_of s) r (conn - 1) bytes
own s line (Close conn) r = closes r (conn - 1)
own s line (Session seed) r = makes r (config_of s seed)
own s line (Work session job) r = begins (cluster_of s) line (session - 1) r (meant job)
own s line (Up session count) r = lifts (cluster_of s) (session - 1) r (driver_at r (session - 1)) (lift_bytes count)
own s line (Down session count) r = falls (cluster_of s) line (session - 1) r (driver_at r (session - 1)) (take count)
own s line (Pump session requests) r = r
own s line (Cut session) r = cuts (cluster_of s) line (session - 1) r (driver_at r (session - 1))

-- Each time that all comes down which was written, these are bytes.
abbrev pub ComesAsBytes : (s : Setup) (line k : ℕ) (limit : Option ℕ) (r t : WorldRun) → Pumps (cluster_of s) line k limit r t → Type 0
ComesAsBytes s line k limit r t (Rests _ _ up down) = Unit {0}
ComesAsBytes s line k limit r t (Stops _ _ _ reached settles) = Unit {0}
ComesAsBytes s line k limit r t (Lifts _ _ m _ some more settles rest) = ComesAsBytes s line k _ m t rest
ComesAsBytes s line k limit r t (Falls _ _ _ none some rest) =
    AreBytes (down_at (cluster_of s) r (driver_at r k)) × ComesAsBytes s line k limit _ t rest

-- What an event does before its turns: its own step, or all that it moves, where requests are counted some. What comes down are bytes.
abbrev pub Steps : Setup → ℕ → Event → WorldRun → WorldRun → Type 0
Steps s line (Down session count) r t =
    ComeAsBytes (cluster_of s) r (driver_at r (session - 1)) (take count) × (t ≡ own s line (Down session count) r)
Steps s line (Pump session requests) r t =
    CountsSome requests × (moves : Pumps (cluster_of s) line (session - 1) requests r t)
    × ComesAsBytes s line (session - 1) requests r t moves
Steps s line event r t = t ≡ own s line event r

-- ---- what comes of it

-- an event of this line: it is not refused, and behind its own step all who can be answered are
pub record Happens (s : Setup) (line : ℕ) (event : Event) (r t : WorldRun) : Type 0 where
  pub allowed : refusal s r event ≡ None
  pub stepped : WorldRun
  pub steps : Steps s line event r stepped
  pub settles : Settles (cluster_of s) line stepped t

-- events, each with its line, one after the other
abbrev pub RunsOn : Setup → List (ℕ × Event) → WorldRun → WorldRun → Type 0
RunsOn s [] r t = r ≡ t
RunsOn s (e ∷ es) r t = (m : WorldRun) × Happens s e.0 e.1 r m × RunsOn s es m t

-- on the way of an event: behind its own step, and behind each turn; where it pumps also behind each move
abbrev pub Passes : Setup → ℕ → Event → WorldRun → WorldRun → Type 0
Passes s line (Pump session requests) r moment =
    CountsSome requests
    × (Pumping (cluster_of s) line (session - 1) requests r moment
    ⊎ ((stepped : WorldRun) × Pumps (cluster_of s) line (session - 1) requests r stepped × Turns (cluster_of s) line stepped moment))
Passes s line event r moment = Turns (cluster_of s) line (own s line event r) moment

-- The moments of an event.
pub record Within (s : Setup) (es : List (ℕ × Event)) (line : ℕ) (moment : WorldRun) : Type 0 where
  pub before : List (ℕ × Event)
  pub event : Event
  pub behind : List (ℕ × Event)
  pub events_are : es ≡ before ++ ((line, event) ∷ behind)
  pub from : WorldRun
  pub ran : RunsOn s before (start_of s) from
  pub allowed : refusal s from event ≡ None
  pub passes : Passes s line event from moment
