-- Every run of events is a course, deed by deed, and so sessions read their writes in it.
use Rattle.std.proofs.Common.{◌≡◌, ◌≢◌, ℕ, zero, suc, ◌+◌, ◌-◌, ◌<◌, ◌≤◌, ◌^◌, ◌==◌, nat_le, Bool, true, false, not, ◌&&◌, ◌||◌}
use Rattle.std.proofs.Common.{List, [], ◌∷◌, ◌++◌, length, take, Option, Some, None, codes, IsTrue}
use Rattle.std.proofs.Common.{refl, ap, sym, ◌∙◌, arith, subst, leb-true, ltb-true, eqb-true, length-append}
use Rattle.std.proofs.lemmas.Bool.{eqb-false}
use Rattle.std.proofs.lemmas.Str.{IsAscii-append}
use Rattle.std.proofs.lemmas.Str.Ascii.{IsAscii-nil, IsAscii-cons}
use Rattle.std.proofs.lemmas.Fmt.{IsAscii-decimal, length-decimal-le}
use Rattle.std.specs.Prelude.{slice_get, decimal, nat_lt, if◌then◌else◌}
use Rattle.std.specs.List.{Contains, list_any, list_all}
use Rattle.std.specs.Str.{IsAscii}
use Rattle.ncc_pack.specs.declared.value.Value.TheVariants as v
use Rattle.ncc_pack.specs.Fits.{fits, fits_text}
use Rattle.ncc_bolt.specs.declared.message.Request.{Request}
use Rattle.ncc_session.proofs.Spellable.{text_within, text_of_both, utf8}
use Rattle.ncc_driver.specs.Config.{text_has_spelling, texts_fit, config_fits}
use Rattle.ncc_driver.specs.LawsFits.{AreBytes, JobFits}
use Rattle.ncc_driver.specs.WorksFit.{add_fits, put_fits, get_fits}
use Rattle.ncc_clients.specs.Members.{Cluster, address, addresses}
use Rattle.ncc_clients.specs.Links.{Link, Linked, Driver, lift_bytes}
use Rattle.ncc_clients.specs.Run.{Client, ticked, opened, moved, fed, closed_at}
use Rattle.ncc_clients.specs.Turn.{Settles}
use Rattle.ncc_clients.specs.Moment.{Ticks, Opens, Feeds, Moves, Closes, Path, Here}
use Rattle.ncc_clients.specs.Four.{Four}
use Rattle.ncc_clients.specs.Drives.{driver_at, is_busy, feeds, feeds_one, closes, closes_one, rises, descends, lift_to, all_bytes, less, up_at, down_at}
use Rattle.ncc_clients.specs.Drives.{waits_above, makes, begins, lifts, falls, cuts, wakes_all, Pumps, Rests, Stops}
use Rattle.ncc_clients.specs.Drives.{Lifts as Rises, Falls as Sinks}
use Rattle.ncc_clients.specs.Reads.{SessionsReadTheirWrites}
use Rattle.ncc_clients.specs.Course.{ComeAsBytes, IsNoLink, HasNumbers}
use Rattle.ncc_clients.specs.Course.{Deed, Plain, Makes, Begins, Lifts, Falls, Cuts, Wakes, Course, Here as Nothing, Then as And}
use Rattle.ncc_clients.proofs.Known.{Known}
use Rattle.ncc_clients.proofs.Driven.{DriverSays}
use Rattle.ncc_clients.proofs.Linking.{Kept}
use Rattle.ncc_clients.proofs.Deeds.{falls_kept, cuts_kept}
use Rattle.ncc_clients.proofs.Beginning.{woken_kept, begins_kept, makes_kept}
use Rattle.ncc_clients.proofs.Lifting.{lifts_kept}
use Rattle.ncc_clients.proofs.Smalls.{small_kept}
use Rattle.ncc_clients.proofs.Courses.{deed_path}
use Rattle.ncc_clients.proofs.Splitting.{lifts_split, fronts_are_taken}
use Rattle.ncc_clients.proofs.Waking.{turns_are_courses, wakes_are_courses}
use Rattle.ncc_clients.proofs.Ending.{ends_are_courses}
use Rattle.ncc_clients.proofs.Reading.{sessions_read}
use Rattle.ncc_world.specs.declared.setup.Setup.{Setup}
use Rattle.ncc_world.specs.declared.event.Event.{Event}
use Rattle.ncc_world.specs.declared.event.Event.TheVariants.{Time, Put, Get, Apply, Timeout, Beat, Deliver, Pull, Crash, Open, Bytes, Close}
use Rattle.ncc_world.specs.declared.event.Event.TheVariants.{Session, Work, Up, Down, Pump, Cut}
use Rattle.ncc_world.specs.declared.event.Job.{Job}
use Rattle.ncc_world.specs.declared.event.Job.TheVariants.{Add}
use Rattle.ncc_world.specs.declared.event.Job.TheVariants as job
use Rattle.ncc_world.specs.declared.error.WorldError.TheVariants.{NoMember, NoConn, NoSession, Busy}
use Rattle.ncc_world.specs.Setting.{IsSetup, cluster_of, MovesTo, Seats, seats_of}
use Rattle.ncc_world.specs.Events.{MayHappen, MayBegin}
use Rattle.ncc_world.specs.Requests.{client_bytes, put_request, get_request}
use Rattle.ncc_world.specs.Happening.{WorldRun, start_of, refusal, lagged, is_printed, is_linked, is_session, is_busy_at, config_of, meant, asks, own}
use Rattle.ncc_raft.specs.Member as raft
use Rattle.ncc_world.specs.Rafts.{unless, stepping, delivered, pulled, restarted}
use Rattle.ncc_world.proofs.Rafting.{not_refused, times_out, beats, delivers, pulls, restarts}
use Rattle.ncc_world.specs.Happening.{ComesAsBytes, Steps, Happens, RunsOn}
use Rattle.ncc_world.specs.Headline.{AllMayHappen}
use Rattle.ncc_world.proofs.Settling.{path_through}
use Rattle.ncc_world.proofs.Sending.{word_fits}
use Rattle.ncc_world.proofs.Keeping.{get_there}
use Rattle.ncc_world.proofs.Listed.{list_keeps_four}
use Rattle.ncc_world.proofs.Bounding.{has_numbers}
use Rattle.ncc_world.proofs.Moments.{lags_at, member_some}

-- ---- what sessions and works are made of has a spelling

low_ascii : (bs : List ℕ) → list_all (λ b. nat_lt b 128) bs ≡ true → IsAscii bs
low_ascii [] h = IsAscii-nil
low_ascii (b ∷ bs) h =
    let one : nat_lt b 128 ≡ true = grind arith in
    let rest : list_all (λ c. nat_lt c 128) bs ≡ true = grind arith in
    IsAscii-cons b bs (ltb-true b 128 one) (low_ascii bs rest)

address_fits : (member : ℕ) → member < 2 ^ 64 → text_has_spelling (address member) ≡ true
unfolding text_has_spelling
address_fits member lt =
    let port : IsAscii (codes ":7687") = low_ascii (codes ":7687") refl in
    let digits : length (decimal member) ≤ 20 = length-decimal-le 20 member (omega arith) (omega arith) lt in
    let back : IsAscii (decimal member ++ codes ":7687") = IsAscii-append (decimal member) (codes ":7687") (IsAscii-decimal member lt) port in
    let few : length (decimal member ++ codes ":7687") ≤ 100 = omega (arith, digits, length-append (decimal member) (codes ":7687")) in
    text_within (codes "n" ++ decimal member ++ codes ":7687") 32
    (text_of_both (codes "n") (decimal member ++ codes ":7687") (utf8 (codes "n") refl) (omega arith) back few)

addresses_fit : (count first : ℕ) → first + count < 2 ^ 64 → texts_fit (addresses count first) ≡ true
unfolding addresses
addresses_fit zero first lt = refl
addresses_fit (suc count) first lt =
    rw (address_fits first (omega (arith, lt)), addresses_fit count (first + 1) (omega (arith, lt))) refl

addresses_count : (count first : ℕ) → length (addresses count first) ≡ count
unfolding addresses
addresses_count zero first = refl
addresses_count (suc count) first = ap suc (addresses_count count (first + 1))

some_count : (n : ℕ) → 1 ≤ n → not (n == 0) ≡ true
some_count n h = go (n == 0) refl where
  go : (b : Bool) → (n == 0) ≡ b → not b ≡ true
  go true e = absurd (omega (arith, eqb-true n 0 e, h))
  go false e = refl

config_fit : (s : Setup) (seed : ℕ) → IsSetup s → IsTrue (config_fits (config_of s seed))
config_fit s seed setup =
    rw (
      addresses_count s.cores 1,
      some_count s.cores setup.cores.0,
      addresses_fit s.cores 1 (omega (arith, setup.cores.1)),
    ) refl

word_alone : (w : List ℕ) → fits_text w ≡ true → fits (v.Text w) ≡ true
word_alone w h = text_within w 32 h

job_fits : (j : Job) → MayBegin j → JobFits (meant j)
job_fits (Add key by) h told t = add_fits key by told (word_alone key (word_fits key h.0)) h.1 t
job_fits (job.Put key value) h told t =
    put_fits key value told (word_alone key (word_fits key h.0)) (word_alone value (word_fits value h.1))
job_fits (job.Get key) h told t = get_fits key told (word_alone key (word_fits key h))

-- ---- who is no session's connection

below : {X : Type 0} (xs : List X) (i : ℕ) (x : X) → slice_get xs i ≡ Some x → i < length xs
below [] i x e = absurd (cc)
below (y ∷ ys) zero x e = omega arith
below (y ∷ ys) (suc i) x e = omega (arith, below ys i x e)

neither : (a b : Bool) → (a || b) ≡ false → (a ≡ false) × (b ≡ false)
neither true b e = absurd (cc)
neither false b e = (refl, e)

none_of : (conn : ℕ) (ls : List Linked) → list_any (λ (l : Linked). l.conn == conn) ls ≡ false → (l : Linked) → Contains ls l → l.conn ≢ conn
none_of conn [] e l (n, lt, g) same = omega (arith, lt)
none_of conn (x ∷ xs) e l (zero, lt, g) same =
    let h = neither (x.conn == conn) (list_any (λ (l : Linked). l.conn == conn) xs) e in
    eqb-false x.conn conn h.0 (ap (λ (y : Linked). y.conn) g ∙ same)
none_of conn (x ∷ xs) e l (suc n, lt, g) same =
    let h = neither (x.conn == conn) (list_any (λ (l : Linked). l.conn == conn) xs) e in
    none_of conn xs h.1 l (n, omega (arith, lt), g) same

all_three : (a b c : Bool) → (a && (b && not c)) ≡ true → (a ≡ true) × (c ≡ false)
all_three true true true e = absurd (cc)
all_three true true false e = (refl, refl)
all_three true false c e = absurd (cc)
all_three false b c e = absurd (cc)

open_made : (s : Setup) (r : WorldRun) (conn : ℕ) (bytes : List ℕ) → refusal s r (Bytes conn bytes) ≡ None → IsNoLink r (conn - 1 + 1)
open_made s r conn bytes e =
    let h = all_three (nat_le 1 conn) (is_printed (slice_get r.clients (conn - 1))) (is_linked r conn) (not_refused _ NoConn e) in
    let low : 1 ≤ conn = leb-true 1 conn h.0 in
    let back : conn ≡ conn - 1 + 1 = omega (arith, low) in
    subst (λ n. IsNoLink r n) back (λ l has. none_of conn r.driving.linked h.1 l has)

-- ---- who begins a work

record Free (r : WorldRun) (k : ℕ) : Type 0 where
  driver : Driver
  there : driver_at r k ≡ Some driver
  free : is_busy driver ≡ false

negated : (b : Bool) → not b ≡ true → b ≡ false
negated true e = absurd (cc)
negated false e = refl

free_by : (r : WorldRun) (session : ℕ) (b : Bool) → is_session r session ≡ b
    → (if b then unless (not (is_busy_at r session)) Busy else Some NoSession) ≡ None → Free r (session - 1)
free_by r session false f e = absurd (cc)
free_by r session true f e =
    let two = both (nat_le 1 session) (nat_le session (length r.driving.drivers)) f in
    let low : 1 ≤ session = leb-true 1 session two.0 in
    let high : session ≤ length r.driving.drivers = leb-true session (length r.driving.drivers) two.1 in
    let d = get_there r.driving.drivers (session - 1) (omega (arith, low, high)) in
    let busy : is_busy_at r session ≡ false = negated (is_busy_at r session) (not_refused (not (is_busy_at r session)) Busy e) in
    record {
      driver = d.0;
      there = d.1;
      free = subst (λ (o : Option Driver). elim o [ Some d ↦ is_busy d | None ↦ false ] ≡ false) d.1 busy;
    }
  where
    both : (a b : Bool) → (a && b) ≡ true → (a ≡ true) × (b ≡ true)
    both true b e = (refl, e)
    both false b e = absurd (cc)

-- ---- courses

none_in : {A : Type 0} (x : A) → Contains [] x → ⊥
none_in x (n, lt, e) = absurd (omega (arith, lt))

none_some : {A : Type 0} (x : A) → None ≡ Some x → ⊥
none_some x e = cc

module _ (known : Known) (says : DriverSays) (s : Setup) (setup : IsSetup s) where
  abbrev C : Cluster Seats
  C = cluster_of s

  four : Four C (seats_of s)
  four = list_keeps_four s setup

  numbers : HasNumbers C (seats_of s)
  numbers = has_numbers s setup

  join : (r t u : WorldRun) → Course C r t → Course C t u → Course C r u
  join r _ u (Nothing _) q = q
  join r t u (And _ m _ h p) q = And r m u h (join m t u p q)

  one : (r t : WorldRun) → Deed C r t → Course C r t
  one r t h = And r t t h (Nothing t)

  -- what each moment keeps of sessions
  begun_kept : Kept C (start_of s)
  begun_kept = record {
    sessions = λ k d there. absurd (none_some d there);
    around = record {
      held = λ l has. absurd (none_in l has);
      once = λ l m has also same. absurd (none_in l has);
      links_by = λ l has. absurd (none_in l has);
      ends_by = λ e has. absurd (none_in e has);
    };
  }

  deed_kept : (r t : WorldRun) → Deed C r t → Path C (start_of s) r → Kept C r → Kept C t
  deed_kept r t (Plain _ _ h leaves) from k = small_kept C (seats_of s) known four numbers r t h leaves from k
  deed_kept r _ (Makes _ config fit) from k = makes_kept C says r config fit k
  deed_kept r _ (Begins line _ n d job here free fit) from k = begins_kept C says line n r d job k here free fit
  deed_kept r _ (Lifts _ n lift splits) from k = lifts_kept C (seats_of s) known four says n r lift from k splits
  deed_kept r _ (Falls line _ n front takes bytes) from k = falls_kept C says setup.id line n r front k takes bytes
  deed_kept r _ (Cuts line _ n) from k = cuts_kept C says line n r k
  deed_kept r _ (Wakes line _ n d here) from k = woken_kept C says line n r d k here

  course_kept : (r t : WorldRun) → Course C r t → Path C (start_of s) r → Kept C r → Kept C t
  course_kept r _ (Nothing _) from k = k
  course_kept r t (And _ m _ h p) from k =
      course_kept m t p (path_through C (start_of s) r m from (deed_path C r m h)) (deed_kept r m h from k)

  kept_at : (r : WorldRun) → Course C (start_of s) r → Kept C r
  kept_at r p = course_kept (start_of s) r p (Here (start_of s)) begun_kept

  -- ---- the own steps

  feeds_course : (r : WorldRun) (i : ℕ) (piece : List ℕ) → IsNoLink r (i + 1) → Course C r (feeds C r i piece)
  feeds_course r i piece free = go (slice_get r.clients i) refl where
    by : (c : Client) → slice_get r.clients i ≡ Some c → (b : Bool) → c.closed ≡ b → Course C r (if b then r else fed C r i c piece)
    by c e true f = Nothing r
    by c e false f = one r (fed C r i c piece) (Plain r (fed C r i c piece) (Feeds r i c piece (record { there = e; live = f })) free)

    go : (o : Option Client) → slice_get r.clients i ≡ o → Course C r (feeds_one C r i piece o)
    go None e = Nothing r
    go (Some c) e = by c e c.closed refl

  closes_course : (r : WorldRun) (i : ℕ) → Course C r (closes r i)
  closes_course r i = go (slice_get r.clients i) refl where
    by : (c : Client) → slice_get r.clients i ≡ Some c → (b : Bool) → c.closed ≡ b → Course C r (if b then r else closed_at r i c)
    by c e true f = Nothing r
    by c e false f = one r (closed_at r i c) (Plain r (closed_at r i c) (Closes r i c (record { there = e; live = f })) tt)

    go : (o : Option Client) → slice_get r.clients i ≡ o → Course C r (closes_one r i o)
    go None e = Nothing r
    go (Some c) e = by c e c.closed refl

  -- a connection that was just made is no session's
  new_is_free : (r : WorldRun) (member : ℕ) → Kept C r → IsNoLink (opened r member false) (length r.clients + 1)
  new_is_free r member k l has same =
      let h = k.around.held l has in
      omega (arith, same, h.some, below r.clients (l.conn - 1) h.c h.there)

  asks_course : (r : WorldRun) (member : ℕ) (request : Request) → 1 ≤ member → Kept C r → Course C r (asks s r member request)
  asks_course r member request some k =
      let t : WorldRun = opened r member false in
      join r t (asks s r member request) (one r t (Plain r t (Opens r member false some) tt))
      (feeds_course t (length r.clients) (client_bytes request) (new_is_free r member k))

  come : (r : WorldRun) (o : Option Driver) → AreBytes (down_at C r o) → ComeAsBytes C r o all_bytes
  come r None h = tt
  come r (Some d) h = λ link e. subst (λ (o : Option Link). AreBytes (elim o [ Some l ↦ waits_above C r l | None ↦ [] ])) e h

  module _ (line k : ℕ) where
    risen : (limit : Option ℕ) (r t : WorldRun) → Settles C line (rises C k limit r) t → Course C r t
    risen limit r t h =
        And r (rises C k limit r) t (Lifts r k (lift_to limit) (lifts_split.3 limit))
        (turns_are_courses C line (rises C k limit r) t h.turns)

    pumps_course : (limit : Option ℕ) (r t : WorldRun) (p : Pumps C line k limit r t) → ComesAsBytes s line k limit r t p → Course C r t
    pumps_course limit r _ (Rests _ _ up down) b = Nothing r
    pumps_course limit r t (Stops _ _ _ reached h) b = risen limit r t h
    pumps_course limit r t (Rises _ _ m _ some more h p) b =
        join r m t (risen limit r m h) (pumps_course (less limit (up_at (driver_at r k))) m t p b)
    pumps_course limit r t (Sinks _ _ _ none some p) b =
        And r (descends C line k r) t (Falls line r k all_bytes fronts_are_taken.1 (come r (driver_at r k) b.0))
        (pumps_course limit (descends C line k r) t p b.1)

  moves_course : (r t : WorldRun) (members : Seats) → MovesTo s r.members members → t ≡ moved C r members → Course C r t
  moves_course r t members m h =
      subst (λ x. Course C r x) (sym h) (one r (moved C r members) (Plain r (moved C r members) (Moves r members m) tt))

  own_course : (line : ℕ) (event : Event) (r t : WorldRun) → Kept C r → refusal s r event ≡ None → MayHappen s.cluster event
      → Steps s line event r t → Course C r t
  unfolding own
  own_course line (Time to) r t k e may h =
      let u : WorldRun = ticked r to in
      let le : r.now ≤ to = leb-true r.now to (not_refused (nat_le r.now to) _ e) in
      subst (λ x. Course C r x) (sym h) (And r u (wakes_all C line u) (Plain r u (Ticks r to le) tt) (wakes_are_courses C line u))
  own_course line (Put member key value bookmarks) r t k e may h =
      subst (λ x. Course C r x) (sym h) (asks_course r member (put_request key value bookmarks) (member_some r member NoMember e) k)
  own_course line (Get member key bookmarks) r t k e may h =
      subst (λ x. Course C r x) (sym h) (asks_course r member (get_request key bookmarks) (member_some r member NoMember e) k)
  own_course line (Apply member count) r t k e may h =
      let u : Seats = lagged r.members member count in
      let a : MovesTo s r.members u = lags_at s r member count e in
      subst (λ x. Course C r x) (sym h) (one r (moved C r u) (Plain r (moved C r u) (Moves r u a) tt))
  own_course line (Timeout member) r t k e may h =
      moves_course r t (stepping s r.members member raft.Timeout) (times_out s r.members member e) h
  own_course line (Beat member) r t k e may h =
      moves_course r t (stepping s r.members member raft.Beat) (beats s r.members member e) h
  own_course line (Deliver message) r t k e may h =
      moves_course r t (delivered s r.members message) (delivers s r.members message e) h
  own_course line (Pull replica core) r t k e may h =
      moves_course r t (pulled s r.members replica core) (pulls s r.members replica core e) h
  own_course line (Crash member) r t k e may h =
      subst (λ x. Course C r x) (sym h)
      (ends_are_courses C line member (restarted s r.members member) r (restarts s r.members member e))
  own_course line (Open member) r t k e may h =
      let u : WorldRun = opened r member true in
      subst (λ x. Course C r x) (sym h) (one r u (Plain r u (Opens r member true (member_some r member NoMember e)) tt))
  own_course line (Bytes conn bytes) r t k e may h =
      subst (λ x. Course C r x) (sym h) (feeds_course r (conn - 1) bytes (open_made s r conn bytes e))
  own_course line (Close conn) r t k e may h = subst (λ x. Course C r x) (sym h) (closes_course r (conn - 1))
  own_course line (Session seed) r t k e may h =
      let config = config_of s seed in
      subst (λ x. Course C r x) (sym h) (one r (makes r config) (Makes r config (config_fit s seed setup)))
  own_course line (Work session job) r t k e may h =
      let n : ℕ = session - 1 in
      let f : Free r n = free_by r session (is_session r session) refl e in
      subst (λ x. Course C r x) (sym h)
      (one r (begins C line n r (meant job)) (Begins line r n f.driver (meant job) f.there f.free (job_fits job may)))
  own_course line (Up session count) r t k e may h =
      let n : ℕ = session - 1 in
      subst (λ x. Course C r x) (sym h)
      (one r (lifts C n r (driver_at r n) (lift_bytes count)) (Lifts r n (lift_bytes count) (lifts_split.0 count)))
  own_course line (Down session count) r t k e may h =
      let n : ℕ = session - 1 in
      subst (λ x. Course C r x) (sym h.1)
      (one r (falls C line n r (driver_at r n) (take count)) (Falls line r n (take count) (fronts_are_taken.0 count) h.0))
  own_course line (Pump session requests) r t k e may h = pumps_course line (session - 1) requests r t h.1 h.2
  own_course line (Cut session) r t k e may h =
      let n : ℕ = session - 1 in
      subst (λ x. Course C r x) (sym h) (one r (cuts C line n r (driver_at r n)) (Cuts line r n))

  runs_course : (es : List (ℕ × Event)) (r t : WorldRun) → AllMayHappen s es → Course C (start_of s) r → RunsOn s es r t → Course C r t
  runs_course [] r t may from h = subst (λ x. Course C r x) h (Nothing r)
  runs_course (e ∷ es) r t may from h =
      let g : Happens s e.0 e.1 r h.0 = h.1 in
      let first : Course C r h.0 =
      join r g.stepped h.0 (own_course e.0 e.1 r g.stepped (kept_at r from) g.allowed may.0 g.steps)
      (turns_are_courses C e.0 g.stepped h.0 g.settles.turns) in
      join r h.0 t first (runs_course es h.0 t may.1 (join (start_of s) r h.0 from first) h.2)

  -- in every run of events a world takes
  pub sessions_read_their_writes : (es : List (ℕ × Event)) (end : WorldRun) → AllMayHappen s es → RunsOn s es (start_of s) end
      → SessionsReadTheirWrites end
  sessions_read_their_writes es end may ran =
      sessions_read C known says (seats_of s) end four numbers (runs_course es (start_of s) end may (Nothing (start_of s)) ran)
