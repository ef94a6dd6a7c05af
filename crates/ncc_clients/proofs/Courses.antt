-- A run with sessions is a path of small things.
use Rattle.std.proofs.Common.{◌≡◌, ℕ, ◌-◌, ◌≤◌, Bool, true, false, List, [], ◌∷◌, length, Option, Some, None, refl}
use Rattle.std.specs.Prelude.{slice_get, if◌then◌else◌}
use Rattle.ncc_driver.specs.declared.action.Action.{Action}
use Rattle.ncc_driver.specs.declared.action.Action.TheVariants.{Connect, Send, Close, Sleep, Receive, Finish}
use Rattle.ncc_driver.specs.declared.action.Input.{Input}
use Rattle.ncc_driver.specs.declared.action.Input.TheVariants as i
use Rattle.ncc_driver.specs.Session.{Begun}
use Rattle.ncc_driver.specs.Work.{Job}
use Rattle.ncc_clients.specs.Members.{Cluster}
use Rattle.ncc_clients.specs.Links.{Link, Driver, Ended, Lifted, Parcel, bytes_in}
use Rattle.ncc_clients.specs.Run.{Run, Client, opened, fed, closed_at}
use Rattle.ncc_clients.specs.Moment.{Opens, Feeds, Drives, Closes, Path, Here, Then}
use Rattle.ncc_clients.specs.Drives.{driver_at, with_driver, feeds, feeds_one, closes, closes_one, member_named, joins, joins_named}
use Rattle.ncc_clients.specs.Drives.{parts, ends}
use Rattle.ncc_clients.specs.Drives.{does_by, does, does_all, more, knows, does_more, joined, last_of, follows_on, turns_to, told_input}
use Rattle.ncc_clients.specs.Drives.{with_input}
use Rattle.ncc_clients.specs.Drives.{makes, begins_by, feeds_some, goes_up, lifts_by, lifts, comes_down, waits_above}
use Rattle.ncc_clients.specs.Drives.{falls_by, falls, cuts_by, cuts}
use Rattle.ncc_clients.specs.Course.{Deed, Plain, Makes, Begins, Lifts, Falls, Cuts, Wakes, Course}
use Rattle.ncc_clients.specs.Course.{Here as Nothing, Then as And}
use Rattle.ncc_clients.proofs.Paths.{path_one, path_join}
use Rattle.ncc_clients.proofs.Named.{named_some}

module _ {S : Type 0} (C : Cluster S) where
  driver_path : (r : Run S) (k : ℕ) (d : Driver) → Path C r (with_driver r k d)
  driver_path r k d = path_one C r (with_driver r k d) (Drives r (with_driver r k d).driving)

  feeds_path : (r : Run S) (i : ℕ) (piece : List ℕ) → Path C r (feeds C r i piece)
  feeds_path r i piece = go (slice_get r.clients i) refl where
    one : (c : Client) → slice_get r.clients i ≡ Some c → (b : Bool) → c.closed ≡ b → Path C r (if b then r else fed C r i c piece)
    one c e true f = Here r
    one c e false f = path_one C r (fed C r i c piece) (Feeds r i c piece (record { there = e; live = f }))

    go : (o : Option Client) → slice_get r.clients i ≡ o → Path C r (feeds_one C r i piece o)
    go None e = Here r
    go (Some c) e = one c e c.closed refl

  closes_path : (r : Run S) (i : ℕ) → Path C r (closes r i)
  closes_path r i = go (slice_get r.clients i) refl where
    one : (c : Client) → slice_get r.clients i ≡ Some c → (b : Bool) → c.closed ≡ b → Path C r (if b then r else closed_at r i c)
    one c e true f = Here r
    one c e false f = path_one C r (closed_at r i c) (Closes r i c (record { there = e; live = f }))

    go : (o : Option Client) → slice_get r.clients i ≡ o → Path C r (closes_one r i o)
    go None e = Here r
    go (Some c) e = one c e c.closed refl

  joins_path : (r : Run S) (k : ℕ) (d : Driver) (o : Option ℕ) → ((member : ℕ) → o ≡ Some member → 1 ≤ member)
      → Path C r (joins_named k d r o)
  joins_path r k d None some = Here r
  joins_path r k d (Some member) some =
      let s = opened r member true in
      Then r s (joins k d r member) (Opens r member true (some member refl))
      (path_one C s (joins k d r member) (Drives s (joins k d r member).driving))

  parts_path : (r : Run S) (k : ℕ) (d : Driver) (o : Option Link) → Path C r (parts C k d r o)
  parts_path r k d None = Here r
  parts_path r k d (Some link) =
      let i = link.conn - 1 in
      let s = feeds C r i (bytes_in link.up) in
      let t = closes s i in
      let u = with_driver t k (record d { link = None }) in
      path_join C r s u (feeds_path r i (bytes_in link.up)) (path_join C s t u (closes_path s i) (driver_path t k
      (record d { link = None })))

  module _ (line k : ℕ) where
    action_path : (r : Run S) (d : Driver) (a : Action) → Path C r (does_by C line k r d a)
    action_path r d (Connect address) = joins_path r k d (member_named C address) (named_some C address)
    action_path r d (Send bytes) = driver_path r k _
    action_path r d Close = parts_path r k d d.link
    action_path r d (Sleep until) = driver_path r k _
    action_path r d Receive = Here r
    action_path r d (Finish result) =
        let x : Ended = record { line = line; session = k; work = length d.works - 1; result = result } in
        path_one C r (ends line k d r x) (Drives r (ends line k d r x).driving)

    does_path : (r : Run S) (o : Option Driver) (a : Action) → Path C r (does C line k r o a)
    does_path r None a = Here r
    does_path r (Some d) a = action_path r d a

    all_path : (as_ : List Action) (r : Run S) → Path C r (does_all C line k as_ r)
    unfolding does_all
    all_path [] r = Here r
    all_path (a ∷ as_) r =
        let s = does C line k r (driver_at r k) a in path_join C r s _ (does_path r (driver_at r k) a) (all_path as_ s)

    more_path : (r : Run S) (d : Driver) (works : List Begun) → Path C r (does_more C line k r d works)
    more_path r d works =
        let s = with_driver r k (knows d works) in
        path_join C r s (does_more C line k r d works) (driver_path r k (knows d works)) (all_path (more d works) s)

    follows_path : (r : Run S) (o : Option Driver) (x : Option Input) → Path C r (follows_on C line k r o x)
    follows_path r (Some d) (Some input) = more_path r d (with_input d.works (input, r.now))
    follows_path r (Some d) None = Here r
    follows_path r None x = Here r

    turns_path : (r : Run S) (d : Driver) (works : List Begun) → Path C r (turns_to C line k r d works)
    turns_path r d works =
        let t = does_more C line k r d works in
        path_join C r t (turns_to C line k r d works) (more_path r d works)
        (follows_path t (driver_at t k) (joined C (last_of (more d works))))

    told_path : (r : Run S) (d e : Driver) (input : Input) → Path C r (told_input C line k (with_driver r k d) e input)
    told_path r d e input =
        let s = with_driver r k d in
        path_join C r s (told_input C line k s e input) (driver_path r k d) (turns_path s e (with_input e.works (input, s.now)))

    begins_path : (r : Run S) (o : Option Driver) (job : Job) → Path C r (begins_by C line k r o job)
    begins_path r None job = Here r
    begins_path r (Some d) job = told_path r _ _ i.Start

    falls_path : (r : Run S) (d : Driver) (link : Link) (bytes : List ℕ) → Path C r (comes_down C line k r d link bytes)
    falls_path r d link [] = Here r
    falls_path r d link (b ∷ bs) = told_path r _ _ (i.Bytes (b ∷ bs))

    falls_from : (r : Run S) (front : List ℕ → List ℕ) (o : Option Driver) → Path C r (falls C line k r o front)
    falls_from r front None = Here r
    falls_from r front (Some d) = go d.link where
      go : (o : Option Link) → Path C r (falls_by C line k r d o front)
      go None = Here r
      go (Some link) = falls_path r d link (front (waits_above C r link))

    cuts_from : (r : Run S) (o : Option Driver) → Path C r (cuts C line k r o)
    cuts_from r None = Here r
    cuts_from r (Some d) = go d.link where
      go : (o : Option Link) → Path C r (cuts_by C line k r d o)
      go None = Here r
      go (Some link) =
          let s = closes r (link.conn - 1) in
          path_join C r s (cuts_by C line k r d (Some link)) (closes_path r (link.conn - 1)) (told_path s _ _ i.Lost)

  some_path : (r : Run S) (i : ℕ) (piece : List ℕ) → Path C r (feeds_some C r i piece)
  some_path r i [] = Here r
  some_path r i (b ∷ bs) = feeds_path r i (b ∷ bs)

  goes_path : (k : ℕ) (r : Run S) (d : Driver) (link : Link) (l : Lifted) → Path C r (goes_up C k r d link l)
  goes_path k r d link l =
      let e : Driver = record d { link = Some (record link { up = l.left }) } in
      path_join C r (with_driver r k e) (goes_up C k r d link l) (driver_path r k e) (some_path (with_driver r k e) (link.conn - 1) l.moved)

  lifts_from : (k : ℕ) (r : Run S) (lift : List Parcel → Lifted) (o : Option Driver) → Path C r (lifts C k r o lift)
  lifts_from k r lift None = Here r
  lifts_from k r lift (Some d) = go d.link where
    go : (o : Option Link) → Path C r (lifts_by C k r d o lift)
    go None = Here r
    go (Some link) = goes_path k r d link (lift link.up)

  pub deed_path : (r s : Run S) → Deed C r s → Path C r s
  deed_path r s (Plain _ _ h leaves) = path_one C r s h
  deed_path r _ (Makes _ config fits) = path_one C r (makes r config) (Drives r (makes r config).driving)
  deed_path r _ (Begins line _ k d job here free fits) = begins_path line k r (driver_at r k) job
  deed_path r _ (Lifts _ k lift splits) = lifts_from k r lift (driver_at r k)
  deed_path r _ (Falls line _ k front takes bytes) = falls_from line k r front (driver_at r k)
  deed_path r _ (Cuts line _ k) = cuts_from line k r (driver_at r k)
  deed_path r _ (Wakes line _ k d here) = told_path line k r _ _ i.Woken

  pub course_path : (r s : Run S) → Course C r s → Path C r s
  course_path r _ (Nothing _) = Here r
  course_path r s (And _ m _ h p) = path_join C r m s (deed_path r m h) (course_path m s p)
