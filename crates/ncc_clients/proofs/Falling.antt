-- What a session's link and what waits on it are behind the actions of an input.
use Rattle.std.proofs.Common.{◌≡◌, ℕ, ◌+◌, ◌-◌, Bool, true, false, List, [], ◌∷◌, ◌++◌, length, Option, Some, None}
use Rattle.std.proofs.Common.{refl, sym, ap, ◌∙◌, subst}
use Rattle.std.specs.Prelude.{slice_get, slice_set, if◌then◌else◌, is_some, ◌||◌}
use Rattle.ncc_driver.specs.declared.config.SessionConfig.{SessionConfig}
use Rattle.ncc_driver.specs.declared.action.Action.{Action}
use Rattle.ncc_driver.specs.declared.action.Action.TheVariants.{Connect, Send, Close, Sleep, Receive, Finish}
use Rattle.ncc_driver.specs.Session.{Begun, session, on}
use Rattle.ncc_driver.specs.declared.action.Input.{Input}
use Rattle.ncc_driver.specs.Talk.{grown}
use Rattle.ncc_clients.specs.Members.{Cluster}
use Rattle.ncc_clients.specs.Links.{Link, Driver, Driving, Ended, bytes_in}
use Rattle.ncc_clients.specs.Run.{Run, Client, closed_at, fed}
use Rattle.ncc_clients.specs.Drives.{driver_at, with_driver, closes, closes_one, feeds, feeds_one}
use Rattle.ncc_clients.specs.Drives.{joins_named, member_named, parts, does, does_by}
use Rattle.ncc_clients.specs.Drives.{does_all, does_more, ends, knows, sends, waits_above, with_input}
use Rattle.ncc_clients.proofs.Driving.{told_last, more_is}
use Rattle.ncc_clients.specs.Measure.{ups}
use Rattle.ncc_clients.proofs.Lists.{set_same}
use Rattle.ncc_clients.proofs.Counted.{waits_behind}

module _ {S : Type 0} (C : Cluster S) where
  -- a link is made
  abbrev pub links_behind : Bool → List Action → Bool
  links_behind links [] = links
  links_behind links (Connect address ∷ actions) = links_behind (is_some (member_named C address) || links) actions
  links_behind links (Send bytes ∷ actions) = links_behind links actions
  links_behind links (Close ∷ actions) = links_behind links actions
  links_behind links (Sleep until ∷ actions) = links_behind links actions
  links_behind links (Receive ∷ actions) = links_behind links actions
  links_behind links (Finish end ∷ actions) = links_behind links actions

  -- nothing waits to come down on this link
  abbrev pub AllDown : Run S → Option Link → Type 0
  AllDown r None = Unit {0}
  AllDown r (Some link) = waits_above C r link ≡ []

  -- The session has these works, and of what waits on its link so much is known.
  pub record Stays (k : ℕ) (config : SessionConfig) (works : List Begun) (waits links : Bool) (r : Run S) : Type 0 where
    pub d : Driver
    pub here : driver_at r k ≡ Some d
    pub config_is : d.config ≡ config
    pub works_are : d.works ≡ works
    pub up : waits ≡ false → ups d.link ≡ []
    pub down : links ≡ false → AllDown r d.link

  closed_same : (r : Run S) (i : ℕ) → (closes r i).driving ≡ r.driving
  closed_same r i = go (slice_get r.clients i) where
    one : (c : Client) (closed : Bool) → (if closed then r else closed_at r i c).driving ≡ r.driving
    one c true = refl
    one c false = refl

    go : (o : Option Client) → (closes_one r i o).driving ≡ r.driving
    go None = refl
    go (Some c) = one c c.closed

  fed_all_same : (r : Run S) (i : ℕ) (piece : List ℕ) → (feeds C r i piece).driving ≡ r.driving
  fed_all_same r i piece = go (slice_get r.clients i) where
    one : (c : Client) (closed : Bool) → (if closed then r else fed C r i c piece).driving ≡ r.driving
    one c true = refl
    one c false = refl

    go : (o : Option Client) → (feeds_one C r i piece o).driving ≡ r.driving
    go None = refl
    go (Some c) = one c c.closed

  module _ (k : ℕ) (config : SessionConfig) (works : List Begun) where
    sent_down : (r : Run S) (d e : Driver) (bytes : List ℕ) (o : Option Link) → AllDown r o → AllDown (with_driver r k e) (sends bytes o)
    sent_down r d e bytes None h = tt
    sent_down r d e bytes (Some link) h = h

    parted : (line : ℕ) (waits links : Bool) (r : Run S) (d : Driver) (o : Option Link) → d.link ≡ o → driver_at r k ≡ Some d
        → d.config ≡ config → d.works ≡ works → Stays k config works false links (parts C k d r o)
    parted line waits links r d None is here c w = record {
      d = d;
      here = here;
      config_is = c;
      works_are = w;
      up = λ e. ap ups is;
      down = λ e. subst (AllDown r) (sym is) tt;
    }
    parted line waits links r d (Some link) is here c w =
        let i = link.conn - 1 in
        let s = feeds C r i (bytes_in link.up) in
        let t = closes s i in
        let e : Driver = record d { link = None } in
        record {
          d = e;
          here = ap (λ (x : Driving). slice_get (slice_set x.drivers k e) k) (closed_same s i ∙ fed_all_same r i (bytes_in link.up))
              ∙ set_same r.driving.drivers k d e here;
          config_is = c;
          works_are = w;
          up = λ f. refl;
          down = λ f. tt;
        }

    linked : (waits links : Bool) (r : Run S) (d : Driver) (o : Option ℕ) → driver_at r k ≡ Some d → d.config ≡ config → d.works ≡ works
        → (waits ≡ false → ups d.link ≡ []) → (links ≡ false → AllDown r d.link)
        → Stays k config works waits (is_some o || links) (joins_named k d r o)
    linked waits links r d None here c w up down = record { d = d; here = here; config_is = c; works_are = w; up = up; down = down }
    linked waits links r d (Some member) here c w up down =
        let e : Driver = record d { link = Some (record { conn = length r.clients + 1; up = []; down = 0 }) } in
        record {
          d = e;
          here = set_same r.driving.drivers k d e here;
          config_is = c;
          works_are = w;
          up = λ f. refl;
          down = λ f. absurd (let g : true ≡ false = f in cc);
        }

    kept_down : (r : Run S) (e : Driver) (o : Option Link) → AllDown r o → AllDown (with_driver r k e) o
    kept_down r e None h = tt
    kept_down r e (Some link) h = h

    ended_down : (line : ℕ) (r : Run S) (d : Driver) (x : Ended) (o : Option Link) → AllDown r o → AllDown (ends line k d r x) o
    ended_down line r d x None h = tt
    ended_down line r d x (Some link) h = h

    module _ (line : ℕ) where
      changed : (waits links : Bool) (r : Run S) (d e : Driver) → driver_at r k ≡ Some d → e.config ≡ config → e.works ≡ works
          → (waits ≡ false → ups e.link ≡ []) → (links ≡ false → AllDown (with_driver r k e) e.link)
          → Stays k config works waits links (with_driver r k e)
      changed waits links r d e here c w up down = record {
        d = e;
        here = set_same r.driving.drivers k d e here;
        config_is = c;
        works_are = w;
        up = up;
        down = down;
      }

      at_driver : (waits links : Bool) (r : Run S) (d : Driver) (action : Action) → driver_at r k ≡ Some d
          → Stays k config works waits links (does_by C line k r d action)
          → Stays k config works waits links (does C line k r (driver_at r k) action)
      at_driver waits links r d action here h =
          subst (λ (o : Option Driver). Stays k config works waits links (does C line k r o action)) (sym here) h

      done_all : (actions : List Action) (waits links : Bool) (r : Run S) → Stays k config works waits links r
          → Stays k config works (waits_behind waits actions) (links_behind links actions) (does_all C line k actions r)
      unfolding does_all
      done_all [] waits links r h = h
      done_all (Connect address ∷ actions) waits links r h =
          done_all actions waits (is_some (member_named C address) || links) _
          (at_driver waits (is_some (member_named C address) || links) r h.d (Connect address) h.here
          (linked waits links r h.d (member_named C address) h.here h.config_is h.works_are h.up h.down))
      done_all (Send bytes ∷ actions) waits links r h =
          let e : Driver = record h.d { link = sends bytes h.d.link } in
          done_all actions true links _ (at_driver true links r h.d (Send bytes) h.here
          (changed true links r h.d e h.here h.config_is h.works_are (λ f. absurd (let g : true ≡ false = f in cc))
          (λ f. sent_down r h.d e bytes h.d.link (h.down f))))
      done_all (Close ∷ actions) waits links r h =
          done_all actions false links _ (at_driver false links r h.d Close h.here
          (parted line waits links r h.d h.d.link refl h.here h.config_is h.works_are))
      done_all (Sleep until ∷ actions) waits links r h =
          let e : Driver = record h.d { wakes = Some until } in
          done_all actions waits links _ (at_driver waits links r h.d (Sleep until) h.here
          (changed waits links r h.d e h.here h.config_is h.works_are h.up (λ f. kept_down r e h.d.link (h.down f))))
      done_all (Receive ∷ actions) waits links r h =
          done_all actions waits links _ (at_driver waits links r h.d Receive h.here h)
      done_all (Finish end ∷ actions) waits links r h =
          let x : Ended = record { line = line; session = k; work = length h.d.works - 1; result = end } in
          done_all actions waits links _ (at_driver waits links r h.d (Finish end) h.here (record {
            d = h.d;
            here = h.here;
            config_is = h.config_is;
            works_are = h.works_are;
            up = h.up;
            down = λ f. ended_down line r h.d x h.d.link (h.down f);
          }))

  -- one input, with all that is wanted then
  pub told_more : (k line : ℕ) (waits links : Bool) (r : Run S) (d : Driver) (before : List Begun) (work : Begun) (input : Input) (now : ℕ)
      → driver_at r k ≡ Some d → d.works ≡ before ++ work ∷ [] → (waits ≡ false → ups d.link ≡ []) → (links ≡ false → AllDown r d.link)
      → let out = on d.config work.job now (session d.config (before ++ work ∷ [])).state input in
      Stays k d.config (before ++ grown work input now ∷ []) (waits_behind waits out.actions) (links_behind links out.actions)
      (does_more C line k r d (with_input d.works (input, now)))
  told_more k line waits links r d before work input now here is up down =
      let after = before ++ grown work input now ∷ [] in
      let out = on d.config work.job now (session d.config (before ++ work ∷ [])).state input in
      let e = knows d after in
      let works_are : with_input d.works (input, now) ≡ after =
      ap (λ (ws : List Begun). with_input ws (input, now)) is ∙ told_last before work (input, now) in
      subst (λ (ws : List Begun). Stays k d.config after (waits_behind waits out.actions) (links_behind links out.actions)
      (does_more C line k r d ws)) (sym works_are)
      (subst (λ (doing : List Action). Stays k d.config after (waits_behind waits out.actions) (links_behind links out.actions)
      (does_all C line k doing (with_driver r k e))) (sym (more_is d before work input now is))
      (done_all k d.config after line out.actions waits links (with_driver r k e)
      (changed k d.config after line waits links r d e here refl refl up (λ f. kept_down k d.config after r e d.link (down f)))))
