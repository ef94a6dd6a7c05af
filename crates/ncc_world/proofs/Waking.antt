-- Those whose sleep ends are woken, one after the other: they are those who were due when it began.
use Rattle.std.proofs.Common.{◌≡◌, ◌≢◌, ℕ, suc, ◌+◌, ◌-◌, ◌<◌, ◌≤◌, Bool, true, false, cond, List, [], ◌∷◌, length, Option, Some, None, refl}
use Rattle.std.proofs.Common.{sym, ap, ◌∙◌, arith, nat_eq, inl, inr, ◌||◌}
use Rattle.std.proofs.lemmas.Bool.Decides.{eqb_tells}
use Rattle.std.specs.Prelude.{slice_get, if◌then◌else◌}
use Rattle.std.specs.List.{list_any}
use Rattle.ncc_driver.specs.declared.action.Action.{Action}
use Rattle.ncc_driver.specs.declared.action.Action.TheVariants.{Connect, Send, Close, Sleep, Receive, Finish}
use Rattle.ncc_driver.specs.declared.action.Input.{Input}
use Rattle.ncc_driver.specs.declared.action.Input.TheVariants as i
use Rattle.ncc_driver.specs.Session.{Begun}
use Rattle.ncc_clients.specs.Members.{Cluster}
use Rattle.ncc_clients.specs.Links.{Link, Driver, bytes_in}
use Rattle.ncc_clients.specs.Run.{Client, fed, closed_at}
use Rattle.ncc_clients.specs.Drives.{driver_at, with_driver, feeds, feeds_one, closes, closes_one, member_named, joins_named, parts}
use Rattle.ncc_clients.specs.Drives.{does_by, does, does_all, more, knows, does_more, joined, last_of, follows_on, turns_to, with_input}
use Rattle.ncc_clients.specs.Drives.{is_due, woken, wakes_from, wakes_all}
use Rattle.ncc_clients.proofs.Lists.{set_other}
use Rattle.ncc_world.specs.declared.setup.Setup.{Setup}
use Rattle.ncc_world.specs.Setting.{cluster_of, Seats}
use Rattle.ncc_world.specs.Happening.{WorldRun}
use Rattle.ncc_world.specs.Drivers.{IsAwake, due_from}

-- ---- what a session does leaves the clock, and the other sessions

pub record Leaves (k : ℕ) (r t : WorldRun) : Type 0 where
  pub now : t.now ≡ r.now
  pub others : (j : ℕ) → j ≢ k → driver_at t j ≡ driver_at r j

leaves_self : (k : ℕ) (r : WorldRun) → Leaves k r r
leaves_self k r = record { now = refl; others = λ j n. refl }

leaves_through : (k : ℕ) (r s t : WorldRun) → Leaves k r s → Leaves k s t → Leaves k r t
leaves_through k r s t f g = record { now = g.now ∙ f.now; others = λ j n. g.others j n ∙ f.others j n }

with_leaves : (k : ℕ) (r : WorldRun) (d : Driver) → Leaves k r (with_driver r k d)
with_leaves k r d = record { now = refl; others = λ j n. set_other r.driving.drivers k j d n }

module _ (C : Cluster Seats) (line k : ℕ) where
  feeds_leaves : (r : WorldRun) (at : ℕ) (piece : List ℕ) → Leaves k r (feeds C r at piece)
  feeds_leaves r at piece = go (slice_get r.clients at) where
    one : (b : Bool) (c : Client) → Leaves k r (if b then r else fed C r at c piece)
    one true c = leaves_self k r
    one false c = record { now = refl; others = λ j n. refl }

    go : (o : Option Client) → Leaves k r (feeds_one C r at piece o)
    go None = leaves_self k r
    go (Some c) = one c.closed c

  closes_leaves : (r : WorldRun) (at : ℕ) → Leaves k r (closes r at)
  closes_leaves r at = go (slice_get r.clients at) where
    one : (b : Bool) (c : Client) → Leaves k r (if b then r else closed_at r at c)
    one true c = leaves_self k r
    one false c = record { now = refl; others = λ j n. refl }

    go : (o : Option Client) → Leaves k r (closes_one r at o)
    go None = leaves_self k r
    go (Some c) = one c.closed c

  joins_leaves : (r : WorldRun) (d : Driver) (o : Option ℕ) → Leaves k r (joins_named k d r o)
  joins_leaves r d None = leaves_self k r
  joins_leaves r d (Some member) = record { now = refl; others = λ j n. set_other r.driving.drivers k j _ n }

  parts_leaves : (r : WorldRun) (d : Driver) (o : Option Link) → Leaves k r (parts C k d r o)
  parts_leaves r d None = leaves_self k r
  parts_leaves r d (Some link) =
      let at = link.conn - 1 in
      let s = feeds C r at (bytes_in link.up) in
      let t = closes s at in
      let u = with_driver t k (record d { link = None }) in
      leaves_through k r s u (feeds_leaves r at (bytes_in link.up)) (leaves_through k s t u (closes_leaves s at) (with_leaves k t (record d { link = None })))

  action_leaves : (r : WorldRun) (d : Driver) (a : Action) → Leaves k r (does_by C line k r d a)
  action_leaves r d (Connect address) = joins_leaves r d (member_named C address)
  action_leaves r d (Send bytes) = with_leaves k r _
  action_leaves r d Close = parts_leaves r d d.link
  action_leaves r d (Sleep until) = with_leaves k r _
  action_leaves r d Receive = leaves_self k r
  action_leaves r d (Finish result) = record { now = refl; others = λ j n. refl }

  does_leaves : (r : WorldRun) (o : Option Driver) (a : Action) → Leaves k r (does C line k r o a)
  does_leaves r None a = leaves_self k r
  does_leaves r (Some d) a = action_leaves r d a

  all_leaves : (xs : List Action) (r : WorldRun) → Leaves k r (does_all C line k xs r)
  unfolding does_all
  all_leaves [] r = leaves_self k r
  all_leaves (a ∷ xs) r =
      let s = does C line k r (driver_at r k) a in
      leaves_through k r s (does_all C line k xs s) (does_leaves r (driver_at r k) a) (all_leaves xs s)

  more_leaves : (r : WorldRun) (d : Driver) (works : List Begun) → Leaves k r (does_more C line k r d works)
  more_leaves r d works =
      let s = with_driver r k (knows d works) in
      leaves_through k r s (does_more C line k r d works) (with_leaves k r (knows d works)) (all_leaves (more d works) s)

  follows_leaves : (r : WorldRun) (o : Option Driver) (x : Option Input) → Leaves k r (follows_on C line k r o x)
  follows_leaves r (Some d) (Some input) = more_leaves r d (with_input d.works (input, r.now))
  follows_leaves r (Some d) None = leaves_self k r
  follows_leaves r None x = leaves_self k r

  turns_leaves : (r : WorldRun) (d : Driver) (works : List Begun) → Leaves k r (turns_to C line k r d works)
  turns_leaves r d works =
      let t = does_more C line k r d works in
      leaves_through k r t (turns_to C line k r d works) (more_leaves r d works)
      (follows_leaves t (driver_at t k) (joined C (last_of (more d works))))

  woken_leaves : (r : WorldRun) (d : Driver) → Leaves k r (woken C line k r d)
  woken_leaves r d =
      let e = record d { wakes = None } in
      let s = with_driver r k e in
      leaves_through k r s (woken C line k r d) (with_leaves k r e) (turns_leaves s e (with_input e.works (i.Woken, s.now)))

-- ---- those of these numbers are woken, one after the other

abbrev pub woken_by : Setup → ℕ → ℕ → WorldRun → Option Driver → WorldRun
woken_by s line k r None = r
woken_by s line k r (Some d) = woken (cluster_of s) line k r d

unfoldable pub wakes_each : Setup → ℕ → List ℕ → WorldRun → WorldRun
wakes_each s line [] r = r
wakes_each s line (number ∷ numbers) r = wakes_each s line numbers (woken_by s line (number - 1) r (driver_at r (number - 1)))

each_is : (s : Setup) (line k : ℕ) (ds : List Driver) (r : WorldRun)
    → ((n : ℕ) (d : Driver) → slice_get ds n ≡ Some d → driver_at r (k + n) ≡ Some d)
    → wakes_each s line (due_from r.now (suc k) ds) r ≡ wakes_from (cluster_of s) line k ds r
unfolding wakes_each due_from wakes_from
each_is s line k [] r agree = refl
each_is s line k (d ∷ ds) r agree =
    go (is_due r.now d.wakes) (each_is s line (suc k) ds t later) (each_is s line (suc k) ds r still) where
      t : WorldRun
      t = woken (cluster_of s) line k r d

      here : driver_at r k ≡ Some d
      here = ap (driver_at r) (let e : k ≡ k + 0 = omega arith in e) ∙ agree 0 d refl

      leaves : Leaves k r (woken (cluster_of s) line k r d)
      leaves = woken_leaves (cluster_of s) line k r d

      still : (n : ℕ) (e : Driver) → slice_get ds n ≡ Some e → driver_at r (suc k + n) ≡ Some e
      still n e there = ap (driver_at r) (let x : suc k + n ≡ k + suc n = omega arith in x) ∙ agree (suc n) e there

      later : (n : ℕ) (e : Driver) → slice_get ds n ≡ Some e → driver_at (woken (cluster_of s) line k r d) (suc k + n) ≡ Some e
      later n e there = leaves.others (suc k + n) (λ same. absurd (omega (arith, same))) ∙ still n e there

      first : (numbers : List ℕ) → wakes_each s line numbers (woken_by s line (suc k - 1) r (driver_at r (suc k - 1)))
          ≡ wakes_each s line numbers (woken (cluster_of s) line k r d)
      first numbers =
          let e : suc k - 1 ≡ k = omega arith in
          ap (λ (n : ℕ). wakes_each s line numbers (woken_by s line n r (driver_at r n))) e
          ∙ ap (λ (o : Option Driver). wakes_each s line numbers (woken_by s line k r o)) here

      go : (b : Bool)
          → wakes_each s line (due_from t.now (suc (suc k)) ds) t ≡ wakes_from (cluster_of s) line (suc k) ds t
          → wakes_each s line (due_from r.now (suc (suc k)) ds) r ≡ wakes_from (cluster_of s) line (suc k) ds r
          → wakes_each s line (cond b (suc k ∷ due_from r.now (suc (suc k)) ds) (due_from r.now (suc (suc k)) ds)) r
          ≡ wakes_from (cluster_of s) line (suc k) ds (cond b t r)
      go true x y =
          first (due_from r.now (suc (suc k)) ds)
          ∙ ap (λ (n : ℕ). wakes_each s line (due_from n (suc (suc k)) ds) t) (sym leaves.now)
          ∙ x
      go false x y = y

-- They are those who are due.
pub wakes_are : (s : Setup) (line : ℕ) (r : WorldRun)
    → wakes_each s line (due_from r.now 1 r.driving.drivers) r ≡ wakes_all (cluster_of s) line r
wakes_are s line r =
    each_is s line 0 r.driving.drivers r (λ n d there. ap (driver_at r) (let e : 0 + n ≡ n = omega arith in e) ∙ there)

pub wakes_next : (s : Setup) (line number : ℕ) (numbers : List ℕ) (r : WorldRun) (d : Driver) → driver_at r (number - 1) ≡ Some d
    → wakes_each s line (number ∷ numbers) r ≡ wakes_each s line numbers (woken (cluster_of s) line (number - 1) r d)
unfolding wakes_each
wakes_next s line number numbers r d there =
    ap (λ (o : Option Driver). wakes_each s line numbers (woken_by s line (number - 1) r o)) there

pub wakes_none : (s : Setup) (line : ℕ) (r : WorldRun) → wakes_each s line [] r ≡ r
unfolding wakes_each
wakes_none s line r = refl

-- ---- each of the numbers is one of a session, and none stands there twice

pub record IsNext (count number : ℕ) (behind : List ℕ) : Type 0 where
  pub some : 0 < number
  pub there : number ≤ count
  pub awake : IsAwake number behind

unfoldable pub AreNext : ℕ → List ℕ → Type 0
AreNext count [] = Unit {0}
AreNext count (number ∷ numbers) = IsNext count number numbers × AreNext count numbers

pub next_first : (count number : ℕ) (numbers : List ℕ) → AreNext count (number ∷ numbers) → IsNext count number numbers
unfolding AreNext
next_first count number numbers h = h.0

pub next_rest : (count number : ℕ) (numbers : List ℕ) → AreNext count (number ∷ numbers) → AreNext count numbers
unfolding AreNext
next_rest count number numbers h = h.1

not_due : (now at number : ℕ) (ds : List Driver) → at < number → list_any (nat_eq at) (due_from now number ds) ≡ false
unfolding due_from
not_due now at number [] lt = refl
not_due now at number (d ∷ ds) lt = go (is_due now d.wakes) (not_due now at (suc number) ds (omega (arith, lt))) where
  apart : nat_eq at number ≡ false
  apart = elim (eqb_tells at number) [ inl h ↦ absurd (omega (arith, h.1, lt)) | inr h ↦ h.0 ]

  go : (b : Bool) → list_any (nat_eq at) (due_from now (suc number) ds) ≡ false
      → list_any (nat_eq at) (cond b (number ∷ due_from now (suc number) ds) (due_from now (suc number) ds)) ≡ false
  go true h = ap (λ (x : Bool). x || list_any (nat_eq at) (due_from now (suc number) ds)) apart ∙ h
  go false h = h

pub are_next : (now count number : ℕ) (ds : List Driver) → 0 < number → number + length ds ≤ suc count
    → AreNext count (due_from now number ds)
unfolding due_from AreNext
are_next now count number [] some le = tt
are_next now count number (d ∷ ds) some le =
    go (is_due now d.wakes) (are_next now count (suc number) ds (omega (arith, some)) (omega (arith, le))) where
      go : (b : Bool) → AreNext count (due_from now (suc number) ds)
          → AreNext count (cond b (number ∷ due_from now (suc number) ds) (due_from now (suc number) ds))
      go true h = (
        record {
          some = some;
          there = omega (arith, le);
          awake = not_due now number (suc number) ds (omega arith);
        },
        h,
      )
      go false h = h
