-- Runs of events as paths: each event's own step and each turn is made of small things, and from each moment the run goes on to its end.
use Rattle.std.proofs.Common.{◌≡◌, ℕ, ◌-◌, ◌<◌, ◌≤◌, ◌==◌, nat_le, Bool, true, false, cond, ◌&&◌, List, [], ◌∷◌, ◌++◌, length, take}
use Rattle.std.proofs.Common.{Option, Some, None, ◌⊎◌, inl, inr}
use Rattle.std.proofs.Common.{refl, sym, ◌∙◌, arith, subst, leb-true}
use Rattle.std.proofs.lemmas.Bool.{eqb-false}
use Rattle.ncc_clients.specs.Members.{Cluster}
use Rattle.ncc_clients.specs.Links.{lift_bytes}
use Rattle.ncc_clients.specs.Run.{ticked, opened}
use Rattle.ncc_clients.specs.Turn.{Turns, Settles}
use Rattle.ncc_clients.specs.Moment.{Ticks, Opens, Moves, Path, Here}
use Rattle.ncc_clients.specs.Drives.{driver_at, wakes_all, Pumps, Pumping}
use Rattle.ncc_clients.specs.Laws.{TurnsAreSmall, OneWay}
use Rattle.ncc_bolt.specs.declared.message.Request.{Request}
use Rattle.ncc_world.specs.declared.setup.Setup.{Setup}
use Rattle.ncc_world.specs.declared.event.Event.{Event}
use Rattle.ncc_world.specs.declared.event.Event.TheVariants.{Time, Put, Get, Apply, Timeout, Beat, Deliver, Pull, Crash, Open, Bytes, Close}
use Rattle.ncc_world.specs.declared.event.Event.TheVariants.{Session, Work, Up, Down, Pump, Cut}
use Rattle.ncc_world.specs.declared.error.WorldError.{WorldError}
use Rattle.ncc_world.specs.declared.error.WorldError.TheVariants.{NoMember, WrongRole}
use Rattle.ncc_world.specs.Setting.{Lists, Seats, over_list, over_raft, lists_of, MovesTo, cluster_of, lagging}
use Rattle.ncc_world.specs.Requests.{client_bytes, put_request, get_request}
use Rattle.ncc_world.specs.Happening.{WorldRun, start_of, is_member, refuses_apply, refusal, lagged, config_of, meant, asks, own, Steps, Passes, Happens, RunsOn, Within}
use Rattle.ncc_raft.specs.Member as raft
use Rattle.ncc_world.specs.Rafts.{unless, stepping, delivered, pulled, restarted}
use Rattle.ncc_world.proofs.Rafting.{not_refused, times_out, beats, delivers, pulls, restarts}
use Rattle.ncc_world.proofs.Settling.{SameSteps, path_through, turns_on}
use Rattle.ncc_world.proofs.Silent.{Leads, stays, small, then_, feeds_leads, closes_leads, makes_leads, begins_leads, lifts_leads, falls_leads}
use Rattle.ncc_world.proofs.Silent.{cuts_leads, wakes_leads, ends_leads}
use Rattle.ncc_world.proofs.Pumping.{pumps_path, pumping_path, one_pump, pumping_on}

-- ---- the own step of an event

asks_leads : (s : Setup) (r : WorldRun) (member : ℕ) (request : Request) → 1 ≤ member → Leads (cluster_of s) r (asks s r member request)
asks_leads s r member request some =
    let C : Cluster Seats = cluster_of s in
    let t : WorldRun = opened r member false in
    then_ C r t (asks s r member request) (small C r t (Opens r member false some) refl)
    (feeds_leads C t (length r.clients) (client_bytes request))

-- a member that is there is numbered from 1
pub member_some : (r : WorldRun) (member : ℕ) (error : WorldError) → unless (is_member r member) error ≡ None → 1 ≤ member
member_some r member error e = go (nat_le 1 member) refl (not_refused (is_member r member) error e) where
  go : (b : Bool) → nat_le 1 member ≡ b → (b && nat_le member (length (lists_of r.members))) ≡ true → 1 ≤ member
  go true f h = leb-true 1 member f
  go false f h = absurd (cc)

-- who applies is a member that lags
record Lags (lists : Lists) (member : ℕ) : Type 0 where
  follows : 1 < member
  there : member ≤ length lists

lags : (lists : Lists) (member : ℕ)
    → refuses_apply (over_list lists) (nat_le 1 member && nat_le member (length lists)) member ≡ None → Lags lists member
lags lists member e = go (nat_le 1 member) (nat_le member (length lists)) refl refl e where
  there : nat_le 1 member ≡ true → nat_le member (length lists) ≡ true → (b : Bool) → (member == 1) ≡ b
      → cond b (Some WrongRole) None ≡ None → Lags lists member
  there f g true h e = absurd (cc)
  there f g false h e =
      let low : 1 ≤ member = leb-true 1 member f in
      let high : member ≤ length lists = leb-true member (length lists) g in
      record { follows = omega (arith, low, eqb-false member 1 h); there = high }

  go : (a b : Bool) → nat_le 1 member ≡ a → nat_le member (length lists) ≡ b
      → cond (a && b) (cond (member == 1) (Some WrongRole) None) (Some NoMember) ≡ None → Lags lists member
  go false b f g e = absurd (cc)
  go true false f g e = absurd (cc)
  go true true f g e = there f g (member == 1) refl e

lags_among : (s : Setup) (seats : Seats) (member count : ℕ)
    → refuses_apply seats (nat_le 1 member && nat_le member (length (lists_of seats))) member ≡ None
    → MovesTo s seats (lagged seats member count)
lags_among s (over_list lists) member count e =
    let l : Lags lists member = lags lists member e in (
      lagging lists member count,
      record { member = member; count = count; follows = l.follows; there = l.there; same = refl },
      refl,
    )
lags_among s (over_raft fleet) member count e = absurd (cc)

pub lags_at : (s : Setup) (r : WorldRun) (member count : ℕ) → refusal s r (Apply member count) ≡ None
    → MovesTo s r.members (lagged r.members member count)
lags_at s r member count e = lags_among s r.members member count e

pub own_leads : (s : Setup) (line : ℕ) (event : Event) (r : WorldRun) → refusal s r event ≡ None
    → Leads (cluster_of s) r (own s line event r)
unfolding own
own_leads s line (Time to) r e =
    let C : Cluster Seats = cluster_of s in
    let t : WorldRun = ticked r to in
    then_ C r t (wakes_all C line t) (small C r t (Ticks r to (leb-true r.now to (not_refused (nat_le r.now to) _ e))) refl)
    (wakes_leads C line t)
own_leads s line (Put member key value bookmarks) r e =
    asks_leads s r member (put_request key value bookmarks) (member_some r member NoMember e)
own_leads s line (Get member key bookmarks) r e =
    asks_leads s r member (get_request key bookmarks) (member_some r member NoMember e)
own_leads s line (Apply member count) r e =
    small (cluster_of s) r (own s line (Apply member count) r)
    (Moves r (lagged r.members member count) (lags_at s r member count e)) refl
own_leads s line (Timeout member) r e =
    small (cluster_of s) r (own s line (Timeout member) r)
    (Moves r (stepping s r.members member raft.Timeout) (times_out s r.members member e)) refl
own_leads s line (Beat member) r e =
    small (cluster_of s) r (own s line (Beat member) r)
    (Moves r (stepping s r.members member raft.Beat) (beats s r.members member e)) refl
own_leads s line (Deliver message) r e =
    small (cluster_of s) r (own s line (Deliver message) r)
    (Moves r (delivered s r.members message) (delivers s r.members message e)) refl
own_leads s line (Pull replica core) r e =
    small (cluster_of s) r (own s line (Pull replica core) r)
    (Moves r (pulled s r.members replica core) (pulls s r.members replica core e)) refl
own_leads s line (Crash member) r e =
    ends_leads (cluster_of s) line member (restarted s r.members member) r (restarts s r.members member e)
own_leads s line (Open member) r e =
    small (cluster_of s) r (opened r member true) (Opens r member true (member_some r member NoMember e)) refl
own_leads s line (Bytes conn bytes) r e = feeds_leads (cluster_of s) r (conn - 1) bytes
own_leads s line (Close conn) r e = closes_leads (cluster_of s) r (conn - 1)
own_leads s line (Session seed) r e = makes_leads (cluster_of s) r (config_of s seed)
own_leads s line (Work session job) r e = begins_leads (cluster_of s) line (session - 1) r (meant job)
own_leads s line (Up session count) r e =
    lifts_leads (cluster_of s) (session - 1) r (lift_bytes count) (driver_at r (session - 1))
own_leads s line (Down session count) r e =
    falls_leads (cluster_of s) line (session - 1) r (take count) (driver_at r (session - 1))
own_leads s line (Pump session requests) r e = stays (cluster_of s) r
own_leads s line (Cut session) r e = cuts_leads (cluster_of s) line (session - 1) r (driver_at r (session - 1))

-- ---- what an event does before its turns

-- All that moves at once is one kind of event; of every other one its own step is all.
pub data Kind : Event → Type 0 where
  pumps : (session : ℕ) (requests : Option ℕ) → Kind (Pump session requests)
  plain : (event : Event) → ((s : Setup) (line : ℕ) (r t : WorldRun) → Steps s line event r t → t ≡ own s line event r)
      → ((s : Setup) (line : ℕ) (r m : WorldRun) → Passes s line event r m → Turns (cluster_of s) line (own s line event r) m)
      → ((s : Setup) (line : ℕ) (r m : WorldRun) → Turns (cluster_of s) line (own s line event r) m → Passes s line event r m)
      → Kind event

pub kind_of : (event : Event) → Kind event
kind_of (Time to) = plain (Time to) (λ s line r t h. h) (λ s line r m h. h) (λ s line r m h. h)
kind_of (Put member key value bookmarks) =
    plain (Put member key value bookmarks) (λ s line r t h. h) (λ s line r m h. h) (λ s line r m h. h)
kind_of (Get member key bookmarks) = plain (Get member key bookmarks) (λ s line r t h. h) (λ s line r m h. h) (λ s line r m h. h)
kind_of (Apply member count) = plain (Apply member count) (λ s line r t h. h) (λ s line r m h. h) (λ s line r m h. h)
kind_of (Timeout member) = plain (Timeout member) (λ s line r t h. h) (λ s line r m h. h) (λ s line r m h. h)
kind_of (Beat member) = plain (Beat member) (λ s line r t h. h) (λ s line r m h. h) (λ s line r m h. h)
kind_of (Deliver message) = plain (Deliver message) (λ s line r t h. h) (λ s line r m h. h) (λ s line r m h. h)
kind_of (Pull replica core) = plain (Pull replica core) (λ s line r t h. h) (λ s line r m h. h) (λ s line r m h. h)
kind_of (Crash member) = plain (Crash member) (λ s line r t h. h) (λ s line r m h. h) (λ s line r m h. h)
kind_of (Open member) = plain (Open member) (λ s line r t h. h) (λ s line r m h. h) (λ s line r m h. h)
kind_of (Bytes conn bytes) = plain (Bytes conn bytes) (λ s line r t h. h) (λ s line r m h. h) (λ s line r m h. h)
kind_of (Close conn) = plain (Close conn) (λ s line r t h. h) (λ s line r m h. h) (λ s line r m h. h)
kind_of (Session seed) = plain (Session seed) (λ s line r t h. h) (λ s line r m h. h) (λ s line r m h. h)
kind_of (Work session job) = plain (Work session job) (λ s line r t h. h) (λ s line r m h. h) (λ s line r m h. h)
kind_of (Up session count) = plain (Up session count) (λ s line r t h. h) (λ s line r m h. h) (λ s line r m h. h)
kind_of (Down session count) = plain (Down session count) (λ s line r t h. h.1) (λ s line r m h. h) (λ s line r m h. h)
kind_of (Pump session requests) = pumps session requests
kind_of (Cut session) = plain (Cut session) (λ s line r t h. h) (λ s line r m h. h) (λ s line r m h. h)

steps_path : (s : Setup) → TurnsAreSmall (cluster_of s) → (line : ℕ) (event : Event) → Kind event → (r t : WorldRun)
    → refusal s r event ≡ None → Steps s line event r t → Path (cluster_of s) r t
steps_path s small_ line _ (pumps session requests) r t e h = pumps_path (cluster_of s) small_ line (session - 1) requests r t h.1
steps_path s small_ line event (plain _ same out in_) r t e h =
    subst (λ u. Path (cluster_of s) r u) (sym (same s line r t h)) (own_leads s line event r e).path

one_step : (s : Setup) → OneWay (cluster_of s) → TurnsAreSmall (cluster_of s) → (line : ℕ) (event : Event) → Kind event → (r t u : WorldRun)
    → Steps s line event r t → Steps s line event r u → t ≡ u
one_step s way small_ line _ (pumps session requests) r t u h g =
    one_pump (cluster_of s) small_ line (session - 1) way requests r t u h.0 h.1 g.1
one_step s way small_ line event (plain _ same out in_) r t u h g = same s line r t h ∙ sym (same s line r u g)

passes_path : (s : Setup) → TurnsAreSmall (cluster_of s) → (line : ℕ) (event : Event) → Kind event → (r m : WorldRun)
    → refusal s r event ≡ None → Passes s line event r m → Path (cluster_of s) r m
passes_path s small_ line _ (pumps session requests) r m e h = go h.1 where
  C : Cluster Seats
  C = cluster_of s

  go : Pumping C line (session - 1) requests r m
      ⊎ ((stepped : WorldRun) × Pumps C line (session - 1) requests r stepped × Turns C line stepped m) → Path C r m
  go (inl p) = pumping_path C small_ line (session - 1) requests r m p
  go (inr g) = path_through C r g.0 m (pumps_path C small_ line (session - 1) requests r g.0 g.1) (small_ line g.0 m g.2)
passes_path s small_ line event (plain _ same out in_) r m e h =
    path_through (cluster_of s) r (own s line event r) m (own_leads s line event r e).path
    (small_ line (own s line event r) m (out s line r m h))

-- ---- events

pub happens_path : (s : Setup) → TurnsAreSmall (cluster_of s) → (line : ℕ) (event : Event) (r t : WorldRun)
    → Happens s line event r t → Path (cluster_of s) r t
happens_path s small_ line event r t h =
    path_through (cluster_of s) r h.stepped t (steps_path s small_ line event (kind_of event) r h.stepped h.allowed h.steps)
    (small_ line h.stepped t h.settles.turns)

pub runs_path : (s : Setup) → TurnsAreSmall (cluster_of s) → (es : List (ℕ × Event)) (r t : WorldRun) → RunsOn s es r t
    → Path (cluster_of s) r t
runs_path s small [] r t h = subst (λ u. Path (cluster_of s) r u) h (Here r)
runs_path s small (e ∷ es) r t h =
    path_through (cluster_of s) r h.0 t (happens_path s small e.0 e.1 r h.0 h.1) (runs_path s small es h.0 t h.2)

-- one event more
pub runs_more : (s : Setup) (es : List (ℕ × Event)) (e : ℕ × Event) (r t u : WorldRun) → RunsOn s es r t → Happens s e.0 e.1 t u
    → RunsOn s (es ++ (e ∷ [])) r u
runs_more s [] e r t u h g = (u, subst (λ x. Happens s e.0 e.1 x u) (sym h) g, refl)
runs_more s (f ∷ es) e r t u h g = (h.0, h.1, runs_more s es e h.0 t u h.2 g)

-- the events before some, and those
pub record Between (s : Setup) (before behind : List (ℕ × Event)) (r t : WorldRun) : Type 0 where
  pub between : WorldRun
  pub first : RunsOn s before r between
  pub rest : RunsOn s behind between t

pub runs_split : (s : Setup) (before behind : List (ℕ × Event)) (r t : WorldRun) → RunsOn s (before ++ behind) r t
    → Between s before behind r t
runs_split s [] behind r t h = record { between = r; first = refl; rest = h }
runs_split s (e ∷ before) behind r t h =
    let b : Between s before behind h.0 t = runs_split s before behind h.0 t h.2 in
    record { between = b.between; first = (h.0, h.1, b.first); rest = b.rest }

-- ---- moments

-- what the run of events of a cluster stands on
pub record Ways (s : Setup) : Type 0 where
  pub small : TurnsAreSmall (cluster_of s)
  pub one_way : OneWay (cluster_of s)
  pub same_steps : SameSteps

one_happens : (s : Setup) → Ways s → (line : ℕ) (event : Event) (r t u : WorldRun) → Happens s line event r t → Happens s line event r u → t ≡ u
one_happens s w line event r t u h g =
    let same : g.stepped ≡ h.stepped = one_step s w.one_way w.small line event (kind_of event) r g.stepped h.stepped g.steps h.steps in
    w.one_way line h.stepped t u h.settles (subst (λ x. Settles (cluster_of s) line x u) same g.settles)

-- there is one run of some events
pub one_run : (s : Setup) → Ways s → (es : List (ℕ × Event)) (r t u : WorldRun) → RunsOn s es r t → RunsOn s es r u → t ≡ u
one_run s w [] r t u h g = sym h ∙ g
one_run s w (e ∷ es) r t u h g =
    let same : g.0 ≡ h.0 = one_happens s w e.0 e.1 r g.0 h.0 g.1 h.1 in
    one_run s w es h.0 t u h.2 (subst (λ m. RunsOn s es m u) same g.2)

-- from each moment of an event it goes on to its end
passes_on : (s : Setup) → Ways s → (line : ℕ) (event : Event) → Kind event → (r m : WorldRun) (t : WorldRun) → Passes s line event r m
    → Happens s line event r t → Path (cluster_of s) m t
passes_on s w line _ (pumps session requests) r m t h g = go h.1 where
  C : Cluster Seats
  C = cluster_of s

  k : ℕ
  k = session - 1

  rest : Path C g.stepped t
  rest = w.small line g.stepped t g.settles.turns

  go : Pumping C line k requests r m ⊎ ((stepped : WorldRun) × Pumps C line k requests r stepped × Turns C line stepped m) → Path C m t
  go (inl p) =
      path_through C m g.stepped t
      (pumping_on C w.small line k w.one_way w.same_steps requests r m g.stepped g.steps.0 p g.steps.1) rest
  go (inr p) =
      let same : p.0 ≡ g.stepped = one_pump C w.small line k w.one_way requests r p.0 g.stepped h.0 p.1 g.steps.1 in
      let turns : Turns C line g.stepped m = subst (λ x. Turns C line x m) same p.2 in
      w.small line m t (turns_on w.same_steps C line g.stepped m t turns g.settles.turns g.settles.rests)
passes_on s w line event (plain _ same out in_) r m t h g =
    let C : Cluster Seats = cluster_of s in
    let turns : Turns C line g.stepped m = subst (λ x. Turns C line x m) (sym (same s line r g.stepped g.steps)) (out s line r m h) in
    w.small line m t (turns_on w.same_steps C line g.stepped m t turns g.settles.turns g.settles.rests)

pub moment_from : (s : Setup) → Ways s → (es : List (ℕ × Event)) (line : ℕ) (m : WorldRun) → Within s es line m
    → Path (cluster_of s) (start_of s) m
moment_from s w es line m h =
    path_through (cluster_of s) (start_of s) h.from m (runs_path s w.small h.before (start_of s) h.from h.ran)
    (passes_path s w.small line h.event (kind_of h.event) h.from m h.allowed h.passes)

pub moment_to : (s : Setup) → Ways s → (es : List (ℕ × Event)) (line : ℕ) (m end : WorldRun) → Within s es line m
    → RunsOn s es (start_of s) end → Path (cluster_of s) m end
moment_to s w es line m end h ran =
    let whole : RunsOn s (h.before ++ ((line, h.event) ∷ h.behind)) (start_of s) end =
    subst (λ xs. RunsOn s xs (start_of s) end) h.events_are ran in
    let b : Between s h.before ((line, h.event) ∷ h.behind) (start_of s) end =
    runs_split s h.before ((line, h.event) ∷ h.behind) (start_of s) end whole in
    let same : b.between ≡ h.from = one_run s w h.before (start_of s) b.between h.from b.first h.ran in
    let rest : RunsOn s ((line, h.event) ∷ h.behind) h.from end =
    subst (λ x. RunsOn s ((line, h.event) ∷ h.behind) x end) same b.rest in
    path_through (cluster_of s) m rest.0 end (passes_on s w line h.event (kind_of h.event) h.from m rest.0 h.passes rest.1)
    (runs_path s w.small h.behind rest.0 end rest.2)
