-- Worked cases: what proposing, applying, refusing and waiting come to.
use Rattle.std.proofs.Common.{◌≡◌, ℕ, zero, suc, ◌+◌, ◌-◌, ◌<◌, ◌≤◌, nat_le, nat_lt, Bool, true, false, cond, ◌&&◌, List, [], ◌∷◌, ◌++◌}
use Rattle.std.proofs.Common.{length, take, not, ◌==◌, ◌||◌, Option}
use Rattle.std.proofs.Common.{Some, None, refl, ap, ◌∙◌, arith, subst, le-leb, lt-ltb, le-ltb, eq-eqb}
use Rattle.std.proofs.lemmas.Bool.{lt-leb}
use Rattle.std.specs.Prelude.{slice_get, slice_set, replicate}
use Rattle.std.specs.List.{Contains, list_any}
use Rattle.ncc_tx.specs.declared.entry.Entry.{Entry}
use Rattle.ncc_bolt.specs.declared.message.Request.{Request}
use Rattle.ncc_session.specs.Question.{enter}
use Rattle.ncc_session.specs.declared.ask.Fact.TheVariants.{Entered, Late}
use Rattle.ncc_wait.specs.declared.outcomes.Outcome.TheVariants.{Ready, NotYet, Late as IsLate}
use Rattle.ncc_wait.specs.Waiting.{outcome_of}
use Rattle.ncc_clients.specs.Members.{Proposed, full, placed, at_of}
use Rattle.ncc_clients.specs.Run.{Client, question_of, deadline_of, reply, reply_by, enters, waits, tells, opened, with_bytes, fed}
use Rattle.ncc_world.specs.declared.setup.Setup.{Setup}
use Rattle.ncc_world.specs.declared.event.Event.TheVariants as event
use Rattle.ncc_world.specs.declared.error.WorldError.TheVariants as error
use Rattle.ncc_world.specs.Setting.{IsSetup, Lists, cluster_of, nobody, list_at, appended, Seats, over_list, over_raft, lists_of}
use Rattle.ncc_world.specs.Requests.{client_bytes}
use Rattle.ncc_clients.specs.Links.{Link, Linked, Driver, lift_bytes}
use Rattle.ncc_clients.specs.Drives.{feeds_one, driver_at, is_busy, lifts, lifts_by, falls, falls_by, cuts, cuts_by, up_at, down_at, waits_above, Rests}
use Rattle.ncc_world.specs.declared.event.Job.{Job}
use Rattle.ncc_safety.specs.Fleet.{Fleet}
use Rattle.ncc_world.specs.Happening.{WorldRun, refuses_apply, is_printed, is_linked, is_open_made, is_session, is_busy_at, refusal, own, asks, Steps}
use Rattle.ncc_world.specs.Rafts.{unless, has_member, refuses_core, refuses_message}

-- ---- members

full_or : (lists : Lists) (entry : Entry) → Bool → Proposed Seats
full_or lists entry b = cond b (full (length (list_at lists 1))) (placed (length (list_at lists 1) + 1) 1 (over_list (appended lists entry)))

pub first_entry : (s : Setup) (entry : Entry) → IsSetup s
    → (cluster_of s).propose (over_list (nobody s)) 1 entry ≡ placed 1 1 (over_list (appended (nobody s) entry))
unfolding full_or
first_entry s entry h =
    let none : list_at (nobody s) 1 ≡ [] = go (s.cores + s.replicas) in
    let len : length (list_at (nobody s) 1) ≡ 0 = ap length none in
    let more : nat_le s.limit (length (list_at (nobody s) 1)) ≡ false =
    lt-leb s.limit (length (list_at (nobody s) 1)) (omega (arith, h.limit.0, len)) in
    ap (full_or (nobody s) entry) more ∙ ap (λ n. placed (n + 1) 1 (over_list (appended (nobody s) entry))) len
  where
    go : (n : ℕ) → list_at (replicate n []) 1 ≡ []
    go zero = refl
    go (suc n) = refl

pub full_log : (s : Setup) (lists : Lists) (entry : Entry) → length (list_at lists 1) ≡ s.limit
    → (cluster_of s).propose (over_list lists) 1 entry ≡ full s.limit
unfolding full_or
full_log s lists entry e =
    let enough : nat_le s.limit (length (list_at lists 1)) ≡ true = le-leb s.limit (length (list_at lists 1)) (omega (arith, e)) in
    ap (full_or lists entry) enough ∙ ap full e

-- ---- events

pub clock_stands : (s : Setup) (r : WorldRun) → refusal s r (event.Time r.now) ≡ None
clock_stands s r = ap (λ b. unless b error.BackInTime) (le-leb r.now r.now (omega arith))

pub clock_back : (s : Setup) (r : WorldRun) (to : ℕ) → to < r.now → refusal s r (event.Time to) ≡ Some error.BackInTime
clock_back s r to h = ap (λ b. unless b error.BackInTime) (lt-leb r.now to h)

-- an event by which a member applies, among these members
applies_in : (s : Setup) (r : WorldRun) (seats : Seats) (member count : ℕ) → r.members ≡ seats
    → refusal s r (event.Apply member count) ≡ refuses_apply seats (nat_le 1 member && nat_le member (length (lists_of seats))) member
applies_in s r seats member count e =
    ap (λ (x : Seats). refuses_apply x (nat_le 1 member && nat_le member (length (lists_of x))) member) e

pub leader_lags_not : (s : Setup) (r : WorldRun) (lists : Lists) (count : ℕ) → r.members ≡ over_list lists → 1 ≤ length lists
    → refusal s r (event.Apply 1 count) ≡ Some error.WrongRole
leader_lags_not s r lists count e h =
    applies_in s r (over_list lists) 1 count e
    ∙ ap (λ b. cond (true && b) (Some error.WrongRole) (Some error.NoMember)) (le-leb 1 (length lists) h)

pub nobody_lags : (s : Setup) (r : WorldRun) (lists : Lists) (count : ℕ) → r.members ≡ over_list lists
    → refusal s r (event.Apply 0 count) ≡ Some error.NoMember
nobody_lags s r lists count e = applies_in s r (over_list lists) 0 count e

pub raft_lags_not : (s : Setup) (r : WorldRun) (fleet : Fleet) (member count : ℕ) → r.members ≡ over_raft fleet
    → refusal s r (event.Apply member count) ≡ Some error.WrongWorld
raft_lags_not s r fleet member count e = applies_in s r (over_raft fleet) member count e

-- ---- events of members over Raft

no_core_in : (s : Setup) (r : WorldRun) (seats : Seats) (member : ℕ) → r.members ≡ seats
    → refusal s r (event.Timeout member) ≡ refuses_core s seats member
no_core_in s r seats member e = ap (λ (x : Seats). refuses_core s x member) e

pub lists_time_out_not : (s : Setup) (r : WorldRun) (lists : Lists) (member : ℕ) → r.members ≡ over_list lists
    → refusal s r (event.Timeout member) ≡ Some error.WrongWorld
lists_time_out_not s r lists member e = no_core_in s r (over_list lists) member e

pub nobody_times_out : (s : Setup) (r : WorldRun) (fleet : Fleet) → r.members ≡ over_raft fleet
    → refusal s r (event.Timeout 0) ≡ Some error.NoMember
nobody_times_out s r fleet e = no_core_in s r (over_raft fleet) 0 e

pub replicas_time_out_not : (s : Setup) (r : WorldRun) (fleet : Fleet) → r.members ≡ over_raft fleet → 1 ≤ s.replicas
    → refusal s r (event.Timeout (s.cores + 1)) ≡ Some error.WrongRole
replicas_time_out_not s r fleet e h =
    let there : has_member s (s.cores + 1) ≡ true =
    ap (λ b. b && nat_le (s.cores + 1) (s.cores + s.replicas)) (le-leb 1 (s.cores + 1) (omega arith))
    ∙ le-leb (s.cores + 1) (s.cores + s.replicas) (omega (arith, h)) in
    no_core_in s r (over_raft fleet) (s.cores + 1) e
    ∙ ap (λ b. cond b (unless (nat_le (s.cores + 1) s.cores) error.WrongRole) (Some error.NoMember)) there
    ∙ ap (λ b. unless b error.WrongRole) (lt-leb (s.cores + 1) s.cores (omega arith))

pub no_message_is_first : (s : Setup) (r : WorldRun) (fleet : Fleet) → r.members ≡ over_raft fleet
    → refusal s r (event.Deliver 0) ≡ Some error.NoMessage
no_message_is_first s r fleet e = ap (λ (x : Seats). refuses_message x 0) e

get_last : {X : Type 0} (xs : List X) (x : X) → slice_get (xs ++ (x ∷ [])) (length xs) ≡ Some x
get_last [] x = refl
get_last (y ∷ xs) x = get_last xs x

get_set : {X : Type 0} (xs : List X) (i : ℕ) (x y : X) → slice_get xs i ≡ Some x → slice_get (slice_set xs i y) i ≡ Some y
get_set [] i x y e = absurd (cc)
get_set (z ∷ xs) zero x y e = refl
get_set (z ∷ xs) (suc i) x y e = get_set xs i x y e

-- the connection of a `put` or a `get` was made by no `open`
not_printed : (s : Setup) (r : WorldRun) (member : ℕ) (request : Request)
    → is_printed (slice_get (asks s r member request).clients (length r.clients)) ≡ false
not_printed s r member request =
    let c : Client = record {
      number = length r.clients + 1;
      member = member;
      bytes = [];
      facts = [];
      since = r.now;
      placing = None;
      closed = false;
      printed = false;
    } in
    let there : slice_get (r.clients ++ (c ∷ [])) (length r.clients) ≡ Some c = get_last r.clients c in
    let new : Client = with_bytes (cluster_of s) r.now c (client_bytes request) in
    let then_ : slice_get (slice_set (r.clients ++ (c ∷ [])) (length r.clients) new) (length r.clients) ≡ Some new =
    get_set (r.clients ++ (c ∷ [])) (length r.clients) c new there in
    let fed_is : asks s r member request ≡ fed (cluster_of s) (opened r member false) (length r.clients) c (client_bytes request) =
    ap (feeds_one (cluster_of s) (opened r member false) (length r.clients) (client_bytes request)) there in
    ap (λ (x : WorldRun). is_printed (slice_get x.clients (length r.clients))) fed_is ∙ ap is_printed then_

pub unnamed : (s : Setup) (r : WorldRun) (member : ℕ) (request : Request) (bytes : List ℕ)
    → refusal s (asks s r member request) (event.Bytes (length r.clients + 1) bytes) ≡ Some error.NoConn
unnamed s r member request bytes =
    let index : length r.clients ≡ length r.clients + 1 - 1 = omega arith in
    let low : nat_le 1 (length r.clients + 1) ≡ true = le-leb 1 (length r.clients + 1) (omega arith) in
    let t : WorldRun = asks s r member request in
    let conn : ℕ = length r.clients + 1 in
    let unseen : is_printed (slice_get t.clients (conn - 1)) ≡ false =
    subst (λ i. is_printed (slice_get t.clients i) ≡ false) index (not_printed s r member request) in
    let made : is_open_made t conn ≡ false =
    ap (λ b. b && (is_printed (slice_get t.clients (conn - 1)) && not (is_linked t conn))) low
    ∙ ap (λ b. b && not (is_linked t conn)) unseen in
    ap (λ b. unless b error.NoConn) made

pub closed_stays : (s : Setup) (line : ℕ) (r : WorldRun) (conn : ℕ) (c : Client) (bytes : List ℕ) → slice_get r.clients (conn - 1) ≡ Some c
    → c.closed ≡ true → own s line (event.Bytes conn bytes) r ≡ r
unfolding own
closed_stays s line r conn c bytes e f =
    ap (feeds_one (cluster_of s) r (conn - 1) bytes) e ∙ ap (λ b. cond b r (fed (cluster_of s) r (conn - 1) c bytes)) f

-- ---- sessions

-- nobody else sends on the connection of a session
any_is : (conn : ℕ) (ls : List Linked) (l : Linked) → Contains ls l → l.conn ≡ conn
    → list_any (λ (x : Linked). x.conn == conn) ls ≡ true
any_is conn [] l (n, lt, g) e = absurd (omega (arith, lt))
any_is conn (x ∷ xs) l (zero, lt, g) e =
    let one : (x.conn == conn) ≡ true = eq-eqb x.conn conn (ap (λ (y : Linked). y.conn) g ∙ e) in
    ap (λ b. b || list_any (λ (y : Linked). y.conn == conn) xs) one
any_is conn (x ∷ xs) l (suc n, lt, g) e = or_true (x.conn == conn) _ (any_is conn xs l (n, omega (arith, lt), g) e) where
  or_true : (a b : Bool) → b ≡ true → (a || b) ≡ true
  or_true true b h = refl
  or_true false b h = h

pub links_are_apart : (s : Setup) (r : WorldRun) (l : Linked) (bytes : List ℕ) → Contains r.driving.linked l
    → refusal s r (event.Bytes l.conn bytes) ≡ Some error.NoConn
links_are_apart s r l bytes has =
    let there : is_linked r l.conn ≡ true = any_is l.conn r.driving.linked l has refl in
    ap (λ b. unless b error.NoConn)
    (ap (λ b. nat_le 1 l.conn && (is_printed (slice_get r.clients (l.conn - 1)) && not b)) there
    ∙ none (nat_le 1 l.conn) (is_printed (slice_get r.clients (l.conn - 1))))
  where
    none : (a b : Bool) → (a && (b && false)) ≡ false
    none true true = refl
    none true false = refl
    none false b = refl

not_there : (r : WorldRun) → is_session r (length r.driving.drivers + 1) ≡ false
not_there r =
    let n : ℕ = length r.driving.drivers in
    ap (λ b. b && nat_le (n + 1) n) (le-leb 1 (n + 1) (omega arith)) ∙ lt-leb (n + 1) n (omega arith)

pub no_session : (s : Setup) (r : WorldRun) → refusal s r (event.Cut (length r.driving.drivers + 1)) ≡ Some error.NoSession
no_session s r = ap (λ b. unless b error.NoSession) (not_there r)

pub busy_session : (s : Setup) (r : WorldRun) (session : ℕ) (d : Driver) (job : Job) → 1 ≤ session → driver_at r (session - 1) ≡ Some d
    → is_busy d ≡ true → refusal s r (event.Work session job) ≡ Some error.Busy
busy_session s r session d job low there busy =
    let high : session ≤ length r.driving.drivers = omega (arith, low, within r.driving.drivers (session - 1) d there) in
    let is : is_session r session ≡ true =
    ap (λ b. b && nat_le session (length r.driving.drivers)) (le-leb 1 session low)
    ∙ le-leb session (length r.driving.drivers) high in
    let works : is_busy_at r session ≡ true = ap busy_by there ∙ busy in
    ap (λ b. cond b (unless (not (is_busy_at r session)) error.Busy) (Some error.NoSession)) is
    ∙ ap (λ b. unless (not b) error.Busy) works
  where
    busy_by : Option Driver → Bool
    busy_by o = elim o [ Some d ↦ is_busy d | None ↦ false ]

    within : {X : Type 0} (xs : List X) (i : ℕ) (x : X) → slice_get xs i ≡ Some x → i < length xs
    within [] i x e = absurd (cc)
    within (y ∷ ys) zero x e = omega arith
    within (y ∷ ys) (suc i) x e = omega (arith, within ys i x e)

-- without a link nothing moves
module _ (s : Setup) (line : ℕ) (r : WorldRun) (session : ℕ) (d : Driver) (there : driver_at r (session - 1) ≡ Some d)
    (none : d.link ≡ None) where
  pub nothing_up : (count : ℕ) → own s line (event.Up session count) r ≡ r
  unfolding own
  nothing_up count =
      let C = cluster_of s in
      ap (λ (o : Option Driver). lifts C (session - 1) r o (lift_bytes count)) there
      ∙ ap (λ (o : Option Link). lifts_by C (session - 1) r d o (lift_bytes count)) none

  pub nothing_down : (count : ℕ) → own s line (event.Down session count) r ≡ r
  unfolding own
  nothing_down count =
      let C = cluster_of s in
      ap (λ (o : Option Driver). falls C line (session - 1) r o (take count)) there
      ∙ ap (λ (o : Option Link). falls_by C line (session - 1) r d o (take count)) none

  pub nothing_cut : own s line (event.Cut session) r ≡ r
  unfolding own
  nothing_cut =
      let C = cluster_of s in
      ap (λ (o : Option Driver). cuts C line (session - 1) r o) there
      ∙ ap (λ (o : Option Link). cuts_by C line (session - 1) r d o) none

  pub nothing_pumped : Steps s line (event.Pump session None) r r
  nothing_pumped =
      let C = cluster_of s in
      let up : up_at (driver_at r (session - 1)) ≡ [] =
      ap up_at there ∙ ap (λ (o : Option Link). elim o [ Some link ↦ link.up | None ↦ [] ]) none in
      let down : down_at C r (driver_at r (session - 1)) ≡ [] =
      ap (down_at C r) there ∙ ap (λ (o : Option Link). elim o [ Some link ↦ waits_above C r link | None ↦ [] ]) none in
      (tt, Rests None r up down, tt)

pub none_counted : (s : Setup) (line session : ℕ) (r t : WorldRun) → Steps s line (event.Pump session (Some 0)) r t → ⊥
none_counted s line session r t h = omega (arith, h.0)

-- ---- waits

reply_is : (s : Setup) (r : WorldRun) (c : Client) (need : ℕ) → question_of (cluster_of s) c ≡ Some (enter need)
    → reply (cluster_of s) r c ≡ enters (at_of (cluster_of s) r.members c.member) need r.now
    (outcome_of (at_of (cluster_of s) r.members c.member) need r.now (deadline_of (cluster_of s) c))
unfolding reply
reply_is s r c need e = ap (reply_by (cluster_of s) r c) e

pub waits_at_deadline : (s : Setup) (r : WorldRun) (c : Client) (need : ℕ) → question_of (cluster_of s) c ≡ Some (enter need)
    → at_of (cluster_of s) r.members c.member < need → r.now ≡ deadline_of (cluster_of s) c → reply (cluster_of s) r c ≡ waits
waits_at_deadline s r c need e h f =
    let at : ℕ = at_of (cluster_of s) r.members c.member in
    let below : nat_le need at ≡ false = lt-leb need at h in
    let not : nat_lt (deadline_of (cluster_of s) c) r.now ≡ false = le-ltb (deadline_of (cluster_of s) c) r.now (omega (arith, f)) in
    reply_is s r c need e
    ∙ (ap (λ b. enters at need r.now (cond b Ready (cond (nat_lt (deadline_of (cluster_of s) c) r.now) IsLate NotYet))) below
    ∙ ap (λ b. enters at need r.now (cond b IsLate NotYet)) not)

pub late_past_it : (s : Setup) (r : WorldRun) (c : Client) (need : ℕ) → question_of (cluster_of s) c ≡ Some (enter need)
    → at_of (cluster_of s) r.members c.member < need → r.now ≡ deadline_of (cluster_of s) c + 1
    → reply (cluster_of s) r c ≡ tells (Late need (at_of (cluster_of s) r.members c.member) r.now)
late_past_it s r c need e h f =
    let at : ℕ = at_of (cluster_of s) r.members c.member in
    let below : nat_le need at ≡ false = lt-leb need at h in
    let past : nat_lt (deadline_of (cluster_of s) c) r.now ≡ true = lt-ltb (deadline_of (cluster_of s) c) r.now (omega (arith, f)) in
    reply_is s r c need e
    ∙ (ap (λ b. enters at need r.now (cond b Ready (cond (nat_lt (deadline_of (cluster_of s) c) r.now) IsLate NotYet))) below
    ∙ ap (λ b. enters at need r.now (cond b IsLate NotYet)) past)

pub enters_at_once : (s : Setup) (r : WorldRun) (c : Client) (need : ℕ) → question_of (cluster_of s) c ≡ Some (enter need)
    → need ≤ at_of (cluster_of s) r.members c.member
    → reply (cluster_of s) r c ≡ tells (Entered (at_of (cluster_of s) r.members c.member))
enters_at_once s r c need e h =
    let at : ℕ = at_of (cluster_of s) r.members c.member in
    reply_is s r c need e
    ∙ ap (λ b. enters at need r.now (cond b Ready (cond (nat_lt (deadline_of (cluster_of s) c) r.now) IsLate NotYet)))
    (le-leb need at h)
