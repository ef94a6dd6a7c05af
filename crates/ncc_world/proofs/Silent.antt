-- What sessions of drivers do tells nobody a fact, and is made of small things.
use Rattle.std.proofs.Common.{◌≡◌, ℕ, suc, ◌-◌, ◌≤◌, Bool, true, false, List, [], ◌∷◌, length, Option, Some, None, refl, ◌∙◌}
use Rattle.std.specs.Prelude.{slice_get, if◌then◌else◌}
use Rattle.ncc_driver.specs.declared.action.Action.{Action}
use Rattle.ncc_driver.specs.declared.action.Action.TheVariants.{Connect, Send, Close, Sleep, Receive, Finish}
use Rattle.ncc_driver.specs.declared.action.Input.{Input}
use Rattle.ncc_driver.specs.declared.action.Input.TheVariants as i
use Rattle.ncc_driver.specs.declared.config.SessionConfig.{SessionConfig}
use Rattle.ncc_driver.specs.Session.{Begun}
use Rattle.ncc_driver.specs.Work.{Job}
use Rattle.ncc_clients.specs.Members.{Cluster}
use Rattle.ncc_clients.specs.Links.{Link, Driver, Driving, Ended, Lifted, Parcel, bytes_in}
use Rattle.ncc_clients.specs.Run.{Run, Client, opened, fed, closed_at, moved}
use Rattle.ncc_clients.specs.Moment.{Small, Opens, Feeds, Drives, Closes, Path, Here}
use Rattle.ncc_clients.specs.Drives.{driver_at, with_driver, feeds, feeds_one, closes, closes_one, member_named, joins, joins_named}
use Rattle.ncc_clients.specs.Drives.{parts, ends, does_by, does, does_all, more, knows, does_more, joined, last_of, follows_on, turns_to}
use Rattle.ncc_clients.specs.Drives.{told_input, with_input, makes, begins_by, begins, feeds_some, goes_up, lifts_by, lifts, comes_down, waits_above}
use Rattle.ncc_clients.specs.Drives.{falls_by, falls, cuts_by, cuts, is_due, woken, wakes_from, wakes_all}
use Rattle.ncc_clients.specs.Drives.{rises, descends, lift_to, all_bytes, closes_all, hangs_on, loses_from, ends_at}
use Rattle.ncc_clients.proofs.Named.{named_some}
use Rattle.ncc_clients.proofs.Ending.{ends_are_courses, courses_are_paths}
use Rattle.ncc_world.proofs.Settling.{path_of, path_through}

module _ {S : Type 0} (C : Cluster S) where
  -- From one run another is reached, and nobody was told a fact on the way.
  pub record Leads (r s : Run S) : Type 0 where
    pub path : Path C r s
    pub told : s.told ≡ r.told

  pub stays : (r : Run S) → Leads r r
  stays r = record { path = Here r; told = refl }

  pub then_ : (r s t : Run S) → Leads r s → Leads s t → Leads r t
  then_ r s t h g = record { path = path_through C r s t h.path g.path; told = g.told ∙ h.told }

  pub small : (r s : Run S) → Small C r s → s.told ≡ r.told → Leads r s
  small r s h e = record { path = path_of C r s h; told = e }

  drives : (r : Run S) (driving : Driving) → Leads r (record r { driving = driving })
  drives r driving = small r (record r { driving = driving }) (Drives r driving) refl

  sets : (r : Run S) (k : ℕ) (d : Driver) → Leads r (with_driver r k d)
  sets r k d = drives r (with_driver r k d).driving

  pub feeds_leads : (r : Run S) (n : ℕ) (piece : List ℕ) → Leads r (feeds C r n piece)
  feeds_leads r n piece = go (slice_get r.clients n) refl where
    one : (c : Client) → slice_get r.clients n ≡ Some c → (b : Bool) → c.closed ≡ b → Leads r (if b then r else fed C r n c piece)
    one c e true f = stays r
    one c e false f = small r (fed C r n c piece) (Feeds r n c piece (record { there = e; live = f })) refl

    go : (o : Option Client) → slice_get r.clients n ≡ o → Leads r (feeds_one C r n piece o)
    go None e = stays r
    go (Some c) e = one c e c.closed refl

  pub closes_leads : (r : Run S) (n : ℕ) → Leads r (closes r n)
  closes_leads r n = go (slice_get r.clients n) refl where
    one : (c : Client) → slice_get r.clients n ≡ Some c → (b : Bool) → c.closed ≡ b → Leads r (if b then r else closed_at r n c)
    one c e true f = stays r
    one c e false f = small r (closed_at r n c) (Closes r n c (record { there = e; live = f })) refl

    go : (o : Option Client) → slice_get r.clients n ≡ o → Leads r (closes_one r n o)
    go None e = stays r
    go (Some c) e = one c e c.closed refl

  joins_leads : (r : Run S) (k : ℕ) (d : Driver) (o : Option ℕ) → ((member : ℕ) → o ≡ Some member → 1 ≤ member)
      → Leads r (joins_named k d r o)
  joins_leads r k d None some = stays r
  joins_leads r k d (Some member) some =
      let s = opened r member true in
      then_ r s (joins k d r member) (small r s (Opens r member true (some member refl)) refl) (drives s (joins k d r member).driving)

  parts_leads : (r : Run S) (k : ℕ) (d : Driver) (o : Option Link) → Leads r (parts C k d r o)
  parts_leads r k d None = stays r
  parts_leads r k d (Some link) =
      let n = link.conn - 1 in
      let s = feeds C r n (bytes_in link.up) in
      let t = closes s n in
      let u = with_driver t k (record d { link = None }) in
      then_ r s u (feeds_leads r n (bytes_in link.up)) (then_ s t u (closes_leads s n) (sets t k (record d { link = None })))

  module _ (line k : ℕ) where
    action_leads : (r : Run S) (d : Driver) (a : Action) → Leads r (does_by C line k r d a)
    action_leads r d (Connect address) = joins_leads r k d (member_named C address) (named_some C address)
    action_leads r d (Send bytes) = sets r k _
    action_leads r d Close = parts_leads r k d d.link
    action_leads r d (Sleep until) = sets r k _
    action_leads r d Receive = stays r
    action_leads r d (Finish result) =
        let x : Ended = record { line = line; session = k; work = length d.works - 1; result = result } in
        drives r (ends line k d r x).driving

    does_leads : (r : Run S) (o : Option Driver) (a : Action) → Leads r (does C line k r o a)
    does_leads r None a = stays r
    does_leads r (Some d) a = action_leads r d a

    all_leads : (as_ : List Action) (r : Run S) → Leads r (does_all C line k as_ r)
    unfolding does_all
    all_leads [] r = stays r
    all_leads (a ∷ as_) r =
        let s = does C line k r (driver_at r k) a in then_ r s _ (does_leads r (driver_at r k) a) (all_leads as_ s)

    more_leads : (r : Run S) (d : Driver) (works : List Begun) → Leads r (does_more C line k r d works)
    more_leads r d works =
        let s = with_driver r k (knows d works) in
        then_ r s (does_more C line k r d works) (sets r k (knows d works)) (all_leads (more d works) s)

    follows_leads : (r : Run S) (o : Option Driver) (x : Option Input) → Leads r (follows_on C line k r o x)
    follows_leads r (Some d) (Some input) = more_leads r d (with_input d.works (input, r.now))
    follows_leads r (Some d) None = stays r
    follows_leads r None x = stays r

    turns_leads : (r : Run S) (d : Driver) (works : List Begun) → Leads r (turns_to C line k r d works)
    turns_leads r d works =
        let t = does_more C line k r d works in
        then_ r t (turns_to C line k r d works) (more_leads r d works)
        (follows_leads t (driver_at t k) (joined C (last_of (more d works))))

    told_leads : (r : Run S) (d e : Driver) (input : Input) → Leads r (told_input C line k (with_driver r k d) e input)
    told_leads r d e input =
        let s = with_driver r k d in
        then_ r s (told_input C line k s e input) (sets r k d) (turns_leads s e (with_input e.works (input, s.now)))

    begins_by_leads : (r : Run S) (o : Option Driver) (job : Job) → Leads r (begins_by C line k r o job)
    begins_by_leads r None job = stays r
    begins_by_leads r (Some d) job = told_leads r _ _ i.Start

    pub begins_leads : (r : Run S) (job : Job) → Leads r (begins C line k r job)
    begins_leads r job = begins_by_leads r (driver_at r k) job

    comes_leads : (r : Run S) (d : Driver) (link : Link) (bytes : List ℕ) → Leads r (comes_down C line k r d link bytes)
    comes_leads r d link [] = stays r
    comes_leads r d link (b ∷ bs) = told_leads r _ _ (i.Bytes (b ∷ bs))

    pub falls_leads : (r : Run S) (front : List ℕ → List ℕ) (o : Option Driver) → Leads r (falls C line k r o front)
    falls_leads r front None = stays r
    falls_leads r front (Some d) = go d.link where
      go : (o : Option Link) → Leads r (falls_by C line k r d o front)
      go None = stays r
      go (Some link) = comes_leads r d link (front (waits_above C r link))

    pub cuts_leads : (r : Run S) (o : Option Driver) → Leads r (cuts C line k r o)
    cuts_leads r None = stays r
    cuts_leads r (Some d) = go d.link where
      go : (o : Option Link) → Leads r (cuts_by C line k r d o)
      go None = stays r
      go (Some link) =
          let s = closes r (link.conn - 1) in
          then_ r s (cuts_by C line k r d (Some link)) (closes_leads r (link.conn - 1)) (told_leads s _ _ i.Lost)

    woken_leads : (r : Run S) (d : Driver) → Leads r (woken C line k r d)
    woken_leads r d = told_leads r _ _ i.Woken

  some_leads : (r : Run S) (i : ℕ) (piece : List ℕ) → Leads r (feeds_some C r i piece)
  some_leads r i [] = stays r
  some_leads r i (b ∷ bs) = feeds_leads r i (b ∷ bs)

  goes_leads : (k : ℕ) (r : Run S) (d : Driver) (link : Link) (l : Lifted) → Leads r (goes_up C k r d link l)
  goes_leads k r d link l =
      let e : Driver = record d { link = Some (record link { up = l.left }) } in
      then_ r (with_driver r k e) (goes_up C k r d link l) (sets r k e) (some_leads (with_driver r k e) (link.conn - 1) l.moved)

  pub lifts_leads : (k : ℕ) (r : Run S) (lift : List Parcel → Lifted) (o : Option Driver) → Leads r (lifts C k r o lift)
  lifts_leads k r lift None = stays r
  lifts_leads k r lift (Some d) = go d.link where
    go : (o : Option Link) → Leads r (lifts_by C k r d o lift)
    go None = stays r
    go (Some link) = goes_leads k r d link (lift link.up)

  pub makes_leads : (r : Run S) (config : SessionConfig) → Leads r (makes r config)
  makes_leads r config = drives r (makes r config).driving

  module _ (line : ℕ) where
    wakes_one : (k : ℕ) (r : Run S) (d : Driver) (b : Bool) → Leads r (if b then woken C line k r d else r)
    wakes_one k r d true = woken_leads line k r d
    wakes_one k r d false = stays r

    wakes_from_leads : (k : ℕ) (ds : List Driver) (r : Run S) → Leads r (wakes_from C line k ds r)
    unfolding wakes_from
    wakes_from_leads k [] r = stays r
    wakes_from_leads k (d ∷ ds) r =
        let b = is_due r.now d.wakes in
        let s = if b then woken C line k r d else r in
        then_ r s (wakes_from C line k (d ∷ ds) r) (wakes_one k r d b) (wakes_from_leads (suc k) ds s)

    pub wakes_leads : (r : Run S) → Leads r (wakes_all C line r)
    wakes_leads r = wakes_from_leads 0 r.driving.drivers r

    pub rises_leads : (k : ℕ) (limit : Option ℕ) (r : Run S) → Leads r (rises C k limit r)
    rises_leads k limit r = lifts_leads k r (lift_to limit) (driver_at r k)

    pub descends_leads : (k : ℕ) (r : Run S) → Leads r (descends C line k r)
    descends_leads k r = falls_leads line k r all_bytes (driver_at r k)

    loses_first : (k : ℕ) (lost : Option Link → Bool) (ds : List Driver) (r : Run S) (b : Bool)
        → ((m : Run S) → Leads m (loses_from C line (suc k) lost ds m))
        → Leads r (loses_from C line (suc k) lost ds (if b then cuts C line k r (driver_at r k) else r))
    loses_first k lost ds r true h =
        let m = cuts C line k r (driver_at r k) in
        then_ r m (loses_from C line (suc k) lost ds m) (cuts_leads line k r (driver_at r k)) (h m)
    loses_first k lost ds r false h = h r

    losing : (k : ℕ) (lost : Option Link → Bool) (ds : List Driver) (r : Run S) → Leads r (loses_from C line k lost ds r)
    unfolding loses_from
    losing k lost [] r = stays r
    losing k lost (d ∷ ds) r = loses_first k lost ds r (lost d.link) (λ m. losing (suc k) lost ds m)

    -- a member ends and starts again: nobody is told a fact
    pub ends_leads : (member : ℕ) (members : S) (r : Run S) → C.Restarts r.members member members → Leads r (ends_at C line member members r)
    ends_leads member members r h =
        let t = moved C (closes_all C member r) members in
        let told = (losing 0 (hangs_on C member r) r.driving.drivers t).told in
        record {
          path = courses_are_paths C r (ends_at C line member members r) (ends_are_courses C line member members r h);
          told = told;
        }
