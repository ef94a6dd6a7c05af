-- A session that waits for no link is told something: what is kept of sessions is kept, also where it opens a link and is told what came
-- of it.
use Rattle.std.proofs.Common.{◌≡◌, ◌⊎◌, inl, inr, ℕ, Bool, true, false, List, [], ◌∷◌, ◌++◌, length, Option, Some, None, refl, sym, ap}
use Rattle.std.proofs.Common.{subst}
use Rattle.std.proofs.Common.{◌∙◌}
use Rattle.std.specs.Prelude.{if◌then◌else◌, is_some}
use Rattle.ncc_driver.specs.declared.config.SessionConfig.{SessionConfig}
use Rattle.ncc_driver.specs.declared.standing.Leg.{Leg}
use Rattle.ncc_driver.specs.declared.standing.Asked.{Asked}
use Rattle.ncc_driver.specs.declared.standing.Stage.{Stage}
use Rattle.ncc_driver.specs.declared.standing.Stage.TheVariants as stage
use Rattle.ncc_driver.specs.declared.action.Action.{Action}
use Rattle.ncc_driver.specs.declared.action.Action.TheVariants.{Connect, Send, Close, Sleep, Receive, Finish}
use Rattle.ncc_driver.specs.declared.action.Input.{Input}
use Rattle.ncc_driver.specs.declared.action.Input.TheVariants as i
use Rattle.ncc_driver.specs.Work.{Job}
use Rattle.ncc_driver.specs.Attempts.{loses}
use Rattle.ncc_driver.specs.Session.{State, Ran, Begun, on, on_input, on_place, opens, session}
use Rattle.ncc_driver.specs.Talk.{grown}
use Rattle.ncc_driver.specs.Laws.{unless_lost, is_awaited}
use Rattle.ncc_clients.specs.Members.{Cluster}
use Rattle.ncc_clients.specs.Links.{Link, Driver}
use Rattle.ncc_clients.specs.Run.{Run, out_of}
use Rattle.ncc_clients.specs.Drives.{driver_at, with_driver, member_named, joins, joins_named, does_all, does, with_input, more, knows}
use Rattle.ncc_clients.specs.Drives.{does_more}
use Rattle.ncc_clients.specs.Drives.{joined, last_of, follows_on, turns_to}
use Rattle.ncc_driver.specs.LawsFits.{InputBytes}
use Rattle.ncc_driver.specs.LawsLegs.{DoneIn, presented_behind, sent_since}
use Rattle.ncc_clients.proofs.Driven.{DriverSays}
use Rattle.ncc_clients.proofs.Driving.{told_last, more_is}
use Rattle.ncc_clients.proofs.Linking.{stage_of, IsLinkAt, Kept, Mid}
use Rattle.ncc_clients.proofs.Doing.{mid_from}
use Rattle.ncc_clients.proofs.Parting.{none_or, with_new, mid_joins, mid_nowhere}
use Rattle.ncc_clients.proofs.Acting.{Wants, no_link}
use Rattle.ncc_clients.proofs.Inputs.{last_split, last_is, is_joining, joins_leg, lost_stage, at_told, Hears, does_hear, does_join}
use Rattle.ncc_clients.proofs.Inputs.{same_stage, kept_by}

pub on_connected : (config : SessionConfig) (job : Job) (now : ℕ) (s : State) (leg : Leg) → s.place.core.stage ≡ stage.Joins leg
    → on config job now s i.Connected ≡ opens s leg
unfolding on
on_connected config job now s leg e = ap (λ (x : Stage). on_input config job now s x i.Connected) e

pub on_unjoined : (config : SessionConfig) (job : Job) (now : ℕ) (s : State) (leg : Leg) → s.place.core.stage ≡ stage.Joins leg
    → on config job now s i.Lost ≡ on_place s (loses s.place now)
unfolding on
on_unjoined config job now s leg e = ap (λ (x : Stage). on_input config job now s x i.Lost) e

not_awaiting : (s : Stage) (leg : Leg) (asked : Asked) → s ≡ stage.Joins leg → s ≡ stage.Awaits asked → ⊥
not_awaiting s leg asked e f = let g : stage.Joins leg ≡ stage.Awaits asked = sym e ∙ f in cc

some_awaits : (s : Stage) (leg : Leg) → s ≡ stage.Joins leg → is_awaited s i.Lost ≡ true
some_awaits s leg e = ap (λ (x : Stage). is_awaited x i.Lost) e

module _ {S : Type 0} (C : Cluster S) (says : DriverSays) (line k : ℕ) where
  does_join_all : (front back : List Action) (r : Run S)
      → does_all C line k (front ++ back) r ≡ does_all C line k back (does_all C line k front r)
  unfolding does_all
  does_join_all [] back r = refl
  does_join_all (a ∷ front) back r = does_join_all front back (does C line k r (driver_at r k) a)

  one_does : (s : Run S) (a : Action) → does_all C line k (a ∷ []) s ≡ does C line k s (driver_at s k) a
  unfolding does_all
  one_does s a = refl

  -- ---- what came of a Connect

  module _ (s : Run S) (d : Driver) (before : List Begun) (work : Begun) (did : List Action) (leg : Leg) (input : Input)
      (works_are : d.works ≡ before ++ work ∷ []) (done : DoneIn d.config before work did) (m : Mid C s k d before work did)
      (joins_ : (session d.config (before ++ work ∷ [])).state.place.core.stage ≡ stage.Joins leg) where
    abbrev state : State
    state = (session d.config (before ++ work ∷ [])).state

    abbrev out : Ran
    out = on d.config work.job s.now state input

    pub told_join : InputBytes input → IsLinkAt C s.clients s.driving.linked k (length before)
        (presented_behind d.config before) out.state.place.core.stage
        out.state.came (sent_since [] did) d.link
        → ((link : Link) → d.link ≡ Some link → unless_lost input (is_awaited state.place.core.stage i.Lost) ≡ true)
        → is_joining out.state.place.core.stage ≡ false
        → Kept C (does_more C line k s d (with_input d.works (input, s.now)))
    told_join bytes link linked calm =
        let h : Hears C says line k s d before work did input s.now = record {
          works_are = works_are;
          done = done;
          mid = mid_from C s k d (knows d (before ++ grown work input s.now ∷ [])) before (grown work input s.now) did m.here m.others
              m.around (at_told C s.clients s.clients s.driving.linked s.driving.ended k d before work did input s.now d.link bytes m.mine link);
          linked = linked;
          succeeds = λ front x back e.
              let y = (says.succeeds d.config work.job s.now state input front x back e).0 in absurd (not_awaiting _ leg y.0 joins_ y.1);
        } in
        let x = does_hear C says line k s d before work did input s.now h in
        subst (λ (w : List Begun). Kept C (does_more C line k s d w))
        (sym (ap (λ (w : List Begun). with_input w (input, s.now)) works_are ∙ told_last before work (input, s.now)))
        (kept_by C says line k s d before work did input s.now _ _ x refl calm)

  -- ---- a Connect is the last thing that is wanted

  module _ (r s : Run S) (old d : Driver) (before : List Begun) (work : Begun) (did : List Action) (address : List ℕ) (leg : Leg)
      (flag : Bool)
      (m : Mid C s k d before work did) (w : Wants C d before work did (Connect address ∷ []) flag)
      (works_are : d.works ≡ before ++ work ∷ []) where
    joined_done : DoneIn d.config before work (did ++ Connect address ∷ [])
    joined_done = w.done

    stage_is : stage_of d ≡ stage.Joins leg → (session d.config (before ++ work ∷ [])).state.place.core.stage ≡ stage.Joins leg
    stage_is e = ap (λ (x : List Begun). (session d.config x).state.place.core.stage) (sym works_are) ∙ e

    -- it leads nowhere: that is told
    nowhere_kept : stage_of d ≡ stage.Joins leg → Kept C (does_more C line k s d (with_input d.works (i.Lost, s.now)))
    nowhere_kept e =
        let x = w.connects [] address [] refl in
        let none : d.link ≡ None = no_link C says line k d.link flag w.is_linked x.2 in
        let state = (session d.config (before ++ work ∷ [])).state in
        let out = on d.config work.job s.now state i.Lost in
        told_join s d before work (did ++ Connect address ∷ []) leg i.Lost works_are joined_done
        (mid_nowhere C s k d before work did address none m) (stage_is e) tt
        (subst (λ (o : Option Link). IsLinkAt C s.clients s.driving.linked k (length before) (presented_behind d.config before)
        out.state.place.core.stage out.state.came (sent_since [] (did ++ Connect address ∷ [])) o) (sym none) tt)
        (λ link f. absurd (none_or link (sym none ∙ f)))
        (ap (λ (q : Ran). is_joining q.state.place.core.stage) (on_unjoined d.config work.job s.now state leg (stage_is e))
        ∙ lost_stage state.place s.now)

    -- it leads to a member: that is told
    somewhere_kept : (member : ℕ) → stage_of d ≡ stage.Joins leg
        → (let t = joins k d s member in let e = with_new C s k d before work did address member m in
        Kept C (does_more C line k t e (with_input e.works (i.Connected, t.now))))
    somewhere_kept member e =
        let t = joins k d s member in
        let f = with_new C s k d before work did address member m in
        let n = mid_joins C s k d before work did address member m leg e in
        let state = (session d.config (before ++ work ∷ [])).state in
        let out = on d.config work.job t.now state i.Connected in
        let opened : out ≡ opens state leg = on_connected d.config work.job t.now state leg (stage_is e) in
        let l = n.mine.link in
        told_join t f before work (did ++ Connect address ∷ []) leg i.Connected works_are joined_done n (stage_is e) tt
        (subst (λ (q : Ran). IsLinkAt C t.clients t.driving.linked k (length before) (presented_behind d.config before)
        q.state.place.core.stage q.state.came (sent_since [] (did ++ Connect address ∷ [])) f.link) (sym opened) (record {
          entry = l.entry;
          some = l.some;
          c = l.c;
          there = l.there;
          speaks = l.speaks;
          left = l.left;
          sent_is = l.sent_is;
          waits = l.waits;
          heard = (refl, (out_of C l.c, refl));
        }))
        (λ link g. some_awaits state.place.core.stage leg (stage_is e))
        (ap (λ (q : Ran). is_joining q.state.place.core.stage) opened)

    connect_kept : (o : Option ℕ) → stage_of d ≡ stage.Joins leg → (t : Run S) → t ≡ joins_named k d s o
        → Kept C (follows_on C line k t (driver_at t k) (Some (if is_some o then i.Connected else i.Lost)))
    connect_kept None e t f =
        subst (λ (u : Run S). Kept C (follows_on C line k u (driver_at u k) (Some i.Lost))) (sym f)
        (subst (λ (q : Option Driver). Kept C (follows_on C line k s q (Some i.Lost))) (sym m.here) (nowhere_kept e))
    connect_kept (Some member) e t f =
        let u = joins k d s member in
        let n = mid_joins C s k d before work did address member m leg e in
        subst (λ (x : Run S). Kept C (follows_on C line k x (driver_at x k) (Some i.Connected))) (sym f)
        (subst (λ (q : Option Driver). Kept C (follows_on C line k u q (Some i.Connected))) (sym n.here) (somewhere_kept member e))

  -- ---- all that comes of one thing that it is told

  module _ (r : Run S) (d : Driver) (before : List Begun) (work : Begun) (did : List Action) (input : Input) (now : ℕ)
      (h : Hears C says line k r d before work did input now)
      (calm : is_joining (session d.config (before ++ work ∷ [])).state.place.core.stage ≡ false) where
    abbrev behind_it : Ran
    behind_it = on d.config work.job now (session d.config (before ++ work ∷ [])).state input

    abbrev works : List Begun
    works = before ++ grown work input now ∷ []

    abbrev all : Run S
    all = does_more C line k r d works

    more_here : more d works ≡ behind_it.actions
    more_here = more_is d before work input now h.works_are

    -- where the last thing is no Connect
    not_joined : (o : Option Action) → last_of behind_it.actions ≡ o → is_joining behind_it.state.place.core.stage ≡ false
        → joined C o ≡ None
    not_joined None e f = refl
    not_joined (Some (Connect address)) e f =
        let x = last_split behind_it.actions (Connect address) e in
        let y = (says.joins d.config work.job now (session d.config (before ++ work ∷ [])).state input).connects x.0 address [] x.1 in
        absurd (let g : true ≡ false = sym (ap is_joining y.1.1) ∙ f in cc)
    not_joined (Some (Send bytes)) e f = refl
    not_joined (Some Close) e f = refl
    not_joined (Some (Sleep until)) e f = refl
    not_joined (Some Receive) e f = refl
    not_joined (Some (Finish result)) e f = refl

    nobody_follows : (t : Run S) (o : Option Driver) → follows_on C line k t o None ≡ t
    nobody_follows t None = refl
    nobody_follows t (Some x) = refl

    kept_calm : is_joining behind_it.state.place.core.stage ≡ false → Kept C (turns_to C line k r d works)
    kept_calm f =
        let x = does_hear C says line k r d before work did input now h in
        let none : joined C (last_of (more d works)) ≡ None =
        ap (λ (a : List Action). joined C (last_of a)) more_here ∙ not_joined (last_of behind_it.actions) refl f in
        subst (λ (o : Option Input). Kept C (follows_on C line k all (driver_at all k) o)) (sym none)
        (subst (λ (t : Run S). Kept C t) (sym (nobody_follows all (driver_at all k)))
        (kept_by C says line k r d before work did input now all _ x refl f))

    kept_joins : (leg : Leg) → behind_it.state.place.core.stage ≡ stage.Joins leg → (front : List Action) (address : List ℕ)
        → behind_it.actions ≡ front ++ Connect address ∷ [] → Kept C (turns_to C line k r d works)
    kept_joins leg e front address f =
        let told = knows d works in
        let start = with_driver r k told in
        let x = does_join C says line k r d before work did input now h front address f in
        let s = does_all C line k front start in
        let named = member_named C address in
        let run : all ≡ joins_named k x.d s named =
        ap (λ (a : List Action). does_all C line k a start) (more_here ∙ f) ∙ does_join_all front (Connect address ∷ []) start
        ∙ one_does s (Connect address) ∙ ap (λ (o : Option Driver). does C line k s o (Connect address)) x.mid.here in
        let last : joined C (last_of (more d works)) ≡ Some (if is_some named then i.Connected else i.Lost) =
        ap (λ (a : List Action). joined C (last_of a)) (more_here ∙ f) ∙ ap (joined C) (last_is front (Connect address)) in
        subst (λ (o : Option Input). Kept C (follows_on C line k all (driver_at all k) o)) (sym last)
        (connect_kept r s told x.d before (grown work input now) (did ++ front) address leg _ x.mid x.wants x.works_are named
        (same_stage C says line k r d before work did input now x.d x.config_is x.works_are ∙ e) all run)

    pub turns_kept : Kept C (turns_to C line k r d works)
    turns_kept = go (is_joining behind_it.state.place.core.stage) refl where
      waited : (leg : Leg) → behind_it.state.place.core.stage ≡ stage.Joins leg
          → ((front : List Action) × (address : List ℕ) × (behind_it.actions ≡ front ++ Connect address ∷ []))
          ⊎ ((session d.config (before ++ work ∷ [])).state.place.core.stage ≡ stage.Joins leg)
          → Kept C (turns_to C line k r d works)
      waited leg e (inl x) = kept_joins leg e x.0 x.1 x.2
      waited leg e (inr x) = absurd (let g : true ≡ false = sym (ap is_joining x) ∙ calm in cc)

      go : (b : Bool) → is_joining behind_it.state.place.core.stage ≡ b → Kept C (turns_to C line k r d works)
      go false e = kept_calm e
      go true e =
          let x = joins_leg behind_it.state.place.core.stage e in
          waited x.0 x.1 ((says.joins d.config work.job now (session d.config (before ++ work ∷ [])).state input).waits x.0 x.1)
