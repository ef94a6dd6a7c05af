-- Turns, and sleepers that are woken, are courses.
use Rattle.std.proofs.Common.{◌≡◌, ◌≢◌, ℕ, suc, ◌+◌, ◌-◌, Bool, true, false, List, [], ◌∷◌, Option, Some, None, refl, sym, ap, ◌∙◌, arith}
use Rattle.std.proofs.Common.{subst}
use Rattle.std.specs.Prelude.{slice_get, if◌then◌else◌}
use Rattle.ncc_driver.specs.declared.action.Action.{Action}
use Rattle.ncc_driver.specs.declared.action.Action.TheVariants.{Connect, Send, Close, Sleep, Receive, Finish}
use Rattle.ncc_driver.specs.declared.action.Input.{Input}
use Rattle.ncc_driver.specs.declared.action.Input.TheVariants as i
use Rattle.ncc_driver.specs.Session.{Begun}
use Rattle.ncc_clients.specs.Members.{Cluster}
use Rattle.ncc_clients.specs.Links.{Link, Driver, Driving, bytes_in}
use Rattle.ncc_clients.specs.Run.{Run, Client, reply, Reply, waits, tells, proposes, fed, closed_at, told_to, proposed}
use Rattle.ncc_clients.specs.Moment.{IsOpen, Tells, Offers}
use Rattle.ncc_clients.specs.Drives.{rises, descends, lift_to, all_bytes, less, up_at, Pumps, Stops}
use Rattle.ncc_clients.specs.Drives.{Rests as NothingMoves, Lifts as Rises, Falls as Sinks}
use Rattle.ncc_clients.specs.Turn.{Settles, Does, is_answer, Here as NoTurn, Then as OneTurn}
use Rattle.ncc_clients.specs.Drives.{driver_at, with_driver, feeds, feeds_one, closes, closes_one, member_named, joins_named, parts}
use Rattle.ncc_clients.specs.Drives.{does_by, does, does_all, more, knows, does_more, joined, last_of, follows_on, turns_to, with_input}
use Rattle.ncc_clients.specs.Drives.{is_due, woken, wakes_from}
use Rattle.ncc_clients.specs.Course.{Lifts, Falls, ComeAsBytes, PumpsAreCourses}
use Rattle.ncc_clients.specs.Course.{Deed, Plain, Wakes, Course, WakesAreCourses, TurnsAreCourses, Here as Nothing, Then as And}
use Rattle.ncc_clients.proofs.Lists.{set_other}
use Rattle.ncc_clients.proofs.Turning.{acting}
use Rattle.ncc_clients.proofs.Splitting.{lifts_split, fronts_are_taken}

module _ {S : Type 0} (C : Cluster S) where
  feeds_driving : (r : Run S) (i : ℕ) (piece : List ℕ) → (feeds C r i piece).driving ≡ r.driving
  feeds_driving r i piece = go (slice_get r.clients i) where
    one : (b : Bool) (c : Client) → (if b then r else fed C r i c piece).driving ≡ r.driving
    one true c = refl
    one false c = refl

    go : (o : Option Client) → (feeds_one C r i piece o).driving ≡ r.driving
    go None = refl
    go (Some c) = one c.closed c

  closes_driving : (r : Run S) (i : ℕ) → (closes r i).driving ≡ r.driving
  closes_driving r i = go (slice_get r.clients i) where
    one : (b : Bool) (c : Client) → (if b then r else closed_at r i c).driving ≡ r.driving
    one true c = refl
    one false c = refl

    go : (o : Option Client) → (closes_one r i o).driving ≡ r.driving
    go None = refl
    go (Some c) = one c.closed c

  -- what a session does leaves the others
  module _ (line j k : ℕ) (other : k ≢ j) where
    driver_stays : (r : Run S) (d : Driver) → driver_at (with_driver r j d) k ≡ driver_at r k
    driver_stays r d = set_other r.driving.drivers j k d other

    joins_stays : (r : Run S) (d : Driver) (o : Option ℕ) → driver_at (joins_named j d r o) k ≡ driver_at r k
    joins_stays r d None = refl
    joins_stays r d (Some member) = set_other r.driving.drivers j k _ other

    parts_stays : (r : Run S) (d : Driver) (o : Option Link) → driver_at (parts C j d r o) k ≡ driver_at r k
    parts_stays r d None = refl
    parts_stays r d (Some link) =
        let i = link.conn - 1 in
        let s = feeds C r i (bytes_in link.up) in
        driver_stays (closes s i) (record d { link = None })
        ∙ ap (λ (x : Driving). slice_get x.drivers k) (closes_driving s i ∙ feeds_driving r i (bytes_in link.up))

    action_stays : (r : Run S) (d : Driver) (a : Action) → driver_at (does_by C line j r d a) k ≡ driver_at r k
    action_stays r d (Connect address) = joins_stays r d (member_named C address)
    action_stays r d (Send bytes) = driver_stays r _
    action_stays r d Close = parts_stays r d d.link
    action_stays r d (Sleep until) = driver_stays r _
    action_stays r d Receive = refl
    action_stays r d (Finish result) = refl

    does_stays : (r : Run S) (o : Option Driver) (a : Action) → driver_at (does C line j r o a) k ≡ driver_at r k
    does_stays r None a = refl
    does_stays r (Some d) a = action_stays r d a

    all_stays : (xs : List Action) (r : Run S) → driver_at (does_all C line j xs r) k ≡ driver_at r k
    unfolding does_all
    all_stays [] r = refl
    all_stays (a ∷ xs) r = all_stays xs (does C line j r (driver_at r j) a) ∙ does_stays r (driver_at r j) a

    more_stays : (r : Run S) (d : Driver) (works : List Begun) → driver_at (does_more C line j r d works) k ≡ driver_at r k
    more_stays r d works = all_stays (more d works) (with_driver r j (knows d works)) ∙ driver_stays r (knows d works)

    follows_stays : (r : Run S) (o : Option Driver) (x : Option Input) → driver_at (follows_on C line j r o x) k ≡ driver_at r k
    follows_stays r (Some d) (Some input) = more_stays r d (with_input d.works (input, r.now))
    follows_stays r (Some d) None = refl
    follows_stays r None x = refl

    turns_stays : (r : Run S) (d : Driver) (works : List Begun) → driver_at (turns_to C line j r d works) k ≡ driver_at r k
    turns_stays r d works =
        let t = does_more C line j r d works in
        follows_stays t (driver_at t j) (joined C (last_of (more d works))) ∙ more_stays r d works

    woken_stays : (r : Run S) (d : Driver) → driver_at (woken C line j r d) k ≡ driver_at r k
    woken_stays r d =
        let e = record d { wakes = None } in
        let s = with_driver r j e in
        turns_stays s e (with_input e.works (i.Woken, s.now)) ∙ driver_stays r e

  -- ---- who sleeps is woken

  pub wakes_course : (line k : ℕ) (ds : List Driver) (r : Run S) → ((n : ℕ) (d : Driver) → slice_get ds n ≡ Some d
      → driver_at r (k + n) ≡ Some d)
      → Course C r (wakes_from C line k ds r)
  unfolding wakes_from
  wakes_course line k [] r agree = Nothing r
  wakes_course line k (d ∷ ds) r agree =
      go (is_due r.now d.wakes) (wakes_course line (suc k) ds (woken C line k r d) later) (wakes_course line (suc k) ds r still) where
        here : driver_at r k ≡ Some d
        here = ap (driver_at r) (let e : k ≡ k + 0 = omega arith in e) ∙ agree 0 d refl

        still : (n : ℕ) (e : Driver) → slice_get ds n ≡ Some e → driver_at r (suc k + n) ≡ Some e
        still n e there = ap (driver_at r) (let x : suc k + n ≡ k + suc n = omega arith in x) ∙ agree (suc n) e there

        later : (n : ℕ) (e : Driver) → slice_get ds n ≡ Some e → driver_at (woken C line k r d) (suc k + n) ≡ Some e
        later n e there = woken_stays line k (suc k + n) (λ same. absurd (omega (arith, same))) r d ∙ still n e there

        go : (b : Bool) → Course C (woken C line k r d) (wakes_from C line (suc k) ds (woken C line k r d))
            → Course C r (wakes_from C line (suc k) ds r)
            → Course C r (wakes_from C line (suc k) ds (if b then woken C line k r d else r))
        go true x y = And r (woken C line k r d) (wakes_from C line (suc k) ds (woken C line k r d)) (Wakes line r k d here) x
        go false x y = y

  pub wakes_are_courses : WakesAreCourses C
  wakes_are_courses line r =
      wakes_course line 0 r.driving.drivers r (λ n d there. ap (driver_at r) (let e : 0 + n ≡ n = omega arith in e) ∙ there)

  -- ---- turns

  deed_by : (line : ℕ) (r s : Run S) (n : ℕ) (c : Client) (p : Reply) → slice_get r.clients n ≡ Some c → reply C r c ≡ p
      → Does C line r n c p s
      → Deed C r s
  deed_by line r s n c waits there e d = absurd d
  deed_by line r s n c (tells fact) there e d =
      let is : IsOpen r n c = record { there = there; live = acting C r c (ap is_answer e) } in
      subst (Deed C r) (sym d)
      (Plain r (told_to line r n c fact) (Tells line r n c fact (record { there = is; replies = e })) tt)
  deed_by line r s n c proposes there e d =
      let is : IsOpen r n c = record { there = there; live = acting C r c (ap is_answer e) } in
      subst (Deed C r) (sym d.2)
      (Plain r (proposed C line r n c (C.propose r.members c.member d.0))
      (Offers line r n c d.0 (record { there = is; replies = e; entry_is = d.1 })) tt)

  pub turns_are_courses : TurnsAreCourses C
  turns_are_courses line r s (NoTurn _) = Nothing r
  turns_are_courses line r s (OneTurn _ m _ t more_) =
      And r m s (deed_by line r m t.index t.client (reply C r t.client) t.there refl t.does) (turns_are_courses line m s more_)

  -- ---- all that moves at once

  pub course_join : (r s t : Run S) → Course C r s → Course C s t → Course C r t
  course_join r _ t (Nothing _) q = q
  course_join r s t (And _ m _ h p) q = And r m t h (course_join m s t p q)

  course_more : (r s t : Run S) → Course C r s → Deed C s t → Course C r t
  course_more r s t p h = course_join r s t p (And s t t h (Nothing t))

  module _ (start : Run S) (bytes : (r : Run S) (k : ℕ) → Course C start r → ComeAsBytes C r (driver_at r k) all_bytes) (line k : ℕ) where
    risen : (limit : Option ℕ) (r s : Run S) → Settles C line (rises C k limit r) s → Course C r s
    risen limit r s h =
        And r (rises C k limit r) s (Lifts r k (lift_to limit) (lifts_split.3 limit))
        (turns_are_courses line (rises C k limit r) s h.turns)

    pumps_by : (limit : Option ℕ) (r s : Run S) → Course C start r → Pumps C line k limit r s → Course C r s
    pumps_by limit r _ from (NothingMoves _ _ up down) = Nothing r
    pumps_by limit r s from (Stops _ _ _ reached h) = risen limit r s h
    pumps_by limit r t from (Rises _ _ m _ some more_ h p) =
        let one = risen limit r m h in
        course_join r m t one (pumps_by (less limit (up_at (driver_at r k))) m t (course_join start r m from one) p)
    pumps_by limit r t from (Sinks _ _ _ none some p) =
        let d : Deed C r (descends C line k r) = Falls line r k all_bytes fronts_are_taken.1 (bytes r k from) in
        And r (descends C line k r) t d
        (pumps_by limit (descends C line k r) t (course_more start r (descends C line k r) from d) p)

  pub pumps_are_courses : PumpsAreCourses C
  pumps_are_courses start bytes line k limit r s from p = pumps_by start bytes line k limit r s from p
