-- A session is told something, and does all that it wants done then: what is kept of sessions is kept.
use Rattle.std.proofs.Common.{◌≡◌, inr, ℕ, suc, ◌-◌, Bool, true, false, List, [], ◌∷◌, ◌++◌, length}
use Rattle.std.proofs.Common.{Option, Some, None, refl, sym, ap, subst, ◌∙◌, arith, append-nil, eqb-true}
use Rattle.std.specs.Prelude.{slice_get, nat_eq, if◌then◌else◌, Ok, Err}
use Rattle.std.specs.List.{AllByRecursion}
use Rattle.ncc_driver.specs.declared.config.SessionConfig.{SessionConfig}
use Rattle.ncc_driver.specs.declared.standing.Leg.{Leg}
use Rattle.ncc_driver.specs.declared.standing.Stage.{Stage}
use Rattle.ncc_driver.specs.declared.standing.Stage.TheVariants as stage
use Rattle.ncc_driver.specs.declared.action.Action.{Action}
use Rattle.ncc_driver.specs.declared.action.Action.TheVariants.{Connect, Finish}
use Rattle.ncc_driver.specs.declared.action.Input.{Input}
use Rattle.ncc_driver.specs.declared.action.Input.TheVariants as i
use Rattle.ncc_driver.specs.declared.action.WorkDone.{WorkDone}
use Rattle.ncc_driver.specs.declared.action.WorkError.TheVariants as e
use Rattle.ncc_driver.specs.declared.action.Last.TheVariants as last
use Rattle.ncc_driver.specs.State.{SessionState, Turned}
use Rattle.ncc_driver.specs.Attempts.{is_spent, finishes, sleeps, loses, drops_table}
use Rattle.ncc_driver.specs.Session.{State, Ran, Moved, Begun, on, session}
use Rattle.ncc_driver.specs.Talk.{grown}
use Rattle.ncc_driver.specs.Laws.{linked_by, unless_lost, is_awaited}
use Rattle.ncc_clients.specs.Members.{Cluster}
use Rattle.ncc_clients.specs.Links.{Link, Driver, Linked, Ended}
use Rattle.ncc_clients.specs.Run.{Run, Client}
use Rattle.ncc_clients.specs.Drives.{driver_at, with_driver, does_all, more, knows, does_more, last_of}
use Rattle.ncc_driver.specs.LawsFits.{InputBytes}
use Rattle.ncc_clients.specs.Course.{IsAllowed}
use Rattle.ncc_driver.specs.LawsLegs.{DoneIn, presented_behind, sent_since}
use Rattle.ncc_clients.proofs.Driven.{DriverSays}
use Rattle.ncc_clients.proofs.Lists.{all_append}
use Rattle.ncc_clients.proofs.Driving.{session_told, more_is, done_more}
use Rattle.ncc_clients.proofs.Linking.{stage_of, IsLinkAt, IsAtRest, At, Rests, Kept, Mid}
use Rattle.ncc_clients.proofs.Fits.{same_test}
use Rattle.ncc_clients.proofs.Parting.{none_or}
use Rattle.ncc_clients.proofs.Wanting.{Success}
use Rattle.ncc_clients.proofs.Acting.{Wants, Did, do_all}

-- ---- lists

all_grown : (before : List Begun) (work : Begun) (input : Input) (now : ℕ) → InputBytes input
    → AllByRecursion IsAllowed (before ++ work ∷ [])
    → AllByRecursion IsAllowed (before ++ grown work input now ∷ [])
all_grown [] work input now bytes h =
    ((h.0.0, all_append (λ (x : Moved). InputBytes x.0) work.inputs ((input, now) ∷ []) h.0.1 (bytes, tt)), tt)
all_grown (b ∷ before) work input now bytes h = (h.0, all_grown before work input now bytes h.1)

last_index : (y z : Action) (xs : List Action) → last_of (y ∷ z ∷ xs) ≡ last_of (z ∷ xs)
last_index y z xs =
    let e : (length (y ∷ z ∷ xs) - 1) ≡ suc (length (z ∷ xs) - 1) = omega arith in ap (λ (n : ℕ). slice_get (y ∷ z ∷ xs) n) e

pub last_split : (xs : List Action) (x : Action) → last_of xs ≡ Some x → (front : List Action) × (xs ≡ front ++ x ∷ [])
last_split [] x e = absurd (none_or x e)
last_split (y ∷ []) x e = let same : y ≡ x = cc in ([], ap (λ (z : Action). z ∷ []) same)
last_split (y ∷ z ∷ xs) x e =
    let s = last_split (z ∷ xs) x (sym (last_index y z xs) ∙ e) in (y ∷ s.0, ap (λ (l : List Action). y ∷ l) s.1)

pub last_is : (front : List Action) (x : Action) → last_of (front ++ x ∷ []) ≡ Some x
last_is [] x = refl
last_is (y ∷ []) x = last_index y x []
last_is (y ∷ z ∷ front) x = last_index y z (front ++ x ∷ []) ∙ last_is (z ∷ front) x

-- ---- stages

abbrev pub is_joining : Stage → Bool
is_joining (stage.Joins leg) = true
is_joining _ = false

pub joins_leg : (s : Stage) → is_joining s ≡ true → (leg : Leg) × (s ≡ stage.Joins leg)
joins_leg (stage.Joins leg) e = (leg, refl)
joins_leg _ e = absurd (cc)

rest_by : (s : Stage) (o : Option Link) → is_joining s ≡ false → ((link : Link) → o ≡ Some link → is_awaited s i.Lost ≡ true) → IsAtRest s o
rest_by stage.Rests None e h = tt
rest_by stage.Rests (Some link) e h = absurd (let f : false ≡ true = h link refl in cc)
rest_by stage.Begun None e h = tt
rest_by stage.Begun (Some link) e h = absurd (let f : false ≡ true = h link refl in cc)
rest_by stage.Sleeps None e h = tt
rest_by stage.Sleeps (Some link) e h = absurd (let f : false ≡ true = h link refl in cc)
rest_by (stage.Joins leg) o e h = absurd (cc)
rest_by (stage.Awaits asked) o e h = tt

pub rest_not_joining : (s : Stage) (o : Option Link) → IsAtRest s o → is_joining s ≡ false
rest_not_joining (stage.Joins leg) o h = absurd h
rest_not_joining _ o h = refl

calm_if : (b : Bool) (x y : Turned) → is_joining x.place.core.stage ≡ false → is_joining y.place.core.stage ≡ false
    → is_joining (if b then x else y).place.core.stage ≡ false
calm_if true x y h k = h
calm_if false x y h k = k

pub lost_stage : (p : SessionState) (now : ℕ) → is_joining (loses p now).place.core.stage ≡ false
lost_stage p now = calm_if (is_spent now (drops_table p).core.began)
    (finishes (drops_table p) (Err (e.RetriesSpent (drops_table p).core.attempts last.LinkLost))) (sleeps (drops_table p) now) refl refl

module _ {S : Type 0} (C : Cluster S) where
  -- told one thing more, before it does what it wants
  pub at_told : (old clients : List Client) (linked : List Linked) (ended : List Ended) (k : ℕ) (d : Driver) (before : List Begun)
      (work : Begun) (did : List Action) (input : Input) (now : ℕ) (link : Option Link)
      → InputBytes input → At C old linked ended k d before work did
      → (let o = on d.config work.job now (session d.config (before ++ work ∷ [])).state input in
      IsLinkAt C clients linked k (length before) (presented_behind d.config before) o.state.place.core.stage o.state.came
      (sent_since [] did) link)
      → At C clients linked ended k (record d { works = before ++ grown work input now ∷ []; link = link }) before
      (grown work input now) did
  at_told old clients linked ended k d before work did input now link bytes h l = record {
    works_are = refl;
    fits = h.fits;
    jobs = all_grown before work input now bytes h.jobs;
    owes = h.owes;
    owes_now = h.owes_now;
    ended_are = h.ended_are;
    linked_are = h.linked_are;
    link = subst (λ (r : Ran). IsLinkAt C clients linked k (length before) (presented_behind d.config before) r.state.place.core.stage
        r.state.came (sent_since [] did) link) (sym (session_told d.config before work input now)) l;
  }

  module _ (says : DriverSays) (line k : ℕ) where
    module _ (r : Run S) (d : Driver) (before : List Begun) (work : Begun) (did : List Action) (input : Input) (now : ℕ) where
      abbrev state : State
      state = (session d.config (before ++ work ∷ [])).state

      abbrev out : Ran
      out = on d.config work.job now state input

      abbrev told : Driver
      told = knows d (before ++ grown work input now ∷ [])

      abbrev flag : Bool
      flag = unless_lost input (is_awaited state.place.core.stage i.Lost)

      told_stage : stage_of told ≡ out.state.place.core.stage
      told_stage = ap (λ (x : Ran). x.state.place.core.stage) (session_told d.config before work input now)

      -- what is owed of what it is told
      pub record Hears : Type 0 where
        pub works_are : d.works ≡ before ++ work ∷ []
        pub done : DoneIn d.config before work did
        pub mid : Mid C (with_driver r k told) k told before (grown work input now) did
        pub linked : (link : Link) → d.link ≡ Some link → flag ≡ true
        pub succeeds : (front : List Action) (x : WorkDone) (back : List Action) → out.actions ≡ front ++ Finish (Ok x) ∷ back
            → Success C d.config before x

      wants : Hears → (all : List Action) → all ≡ out.actions → Wants C told before (grown work input now) did all flag
      wants h all e = record {
        done = subst (λ (x : List Action). DoneIn d.config before (grown work input now) (did ++ x)) (sym e)
            (done_more d.config before work did input now h.done);
        connects = λ front address back is.
            let x = (says.joins d.config work.job now state input).connects front address back (sym e ∙ is) in
            (x.0, (x.1.0, told_stage ∙ x.1.1), x.2);
        succeeds = λ front x back is. h.succeeds front x back (sym e ∙ is);
        is_linked = h.linked;
      }

      -- all of it
      pub does_hear : Hears → Did C (does_more C line k r d (before ++ grown work input now ∷ [])) k told before (grown work input now)
          (did ++ out.actions) [] (linked_by flag out.actions)
      does_hear h =
          let e : more d (before ++ grown work input now ∷ []) ≡ out.actions = more_is d before work input now h.works_are in
          subst (λ (all : List Action). Did C (does_all C line k all (with_driver r k told)) k told before (grown work input now)
          (did ++ out.actions) [] (linked_by flag out.actions)) (sym e)
          (do_all C says line k out.actions [] (with_driver r k told) told before (grown work input now) did flag h.mid
          (wants h (out.actions ++ []) (append-nil out.actions)))

      -- all but a last Connect
      pub does_join : Hears → (front : List Action) (address : List ℕ) → out.actions ≡ front ++ Connect address ∷ []
          → Did C (does_all C line k front (with_driver r k told)) k told before (grown work input now) (did ++ front)
          (Connect address ∷ []) (linked_by flag front)
      does_join h front address e =
          do_all C says line k front (Connect address ∷ []) (with_driver r k told) told before (grown work input now) did flag h.mid
          (wants h (front ++ Connect address ∷ []) (sym e))

      pub same_stage : (e : Driver) → e.config ≡ told.config → e.works ≡ told.works → stage_of e ≡ out.state.place.core.stage
      same_stage e c w =
          ap (λ (x : SessionConfig). stage_of (record e { config = x })) c
          ∙ ap (λ (x : List Begun). stage_of (record told { works = x })) w ∙ told_stage

      -- where it waits for no link, all is kept again
      pub kept_by : (s : Run S) (b : Bool) → (x : Did C s k told before (grown work input now) (did ++ out.actions) [] b)
          → b ≡ linked_by flag out.actions → is_joining out.state.place.core.stage ≡ false → Kept C s
      kept_by s b x flagged calm = record {
        sessions = λ j e there. go j e there (nat_eq j k) refl;
        around = x.mid.around;
      } where
        rests : IsAtRest (stage_of x.d) x.d.link
        rests = subst (λ (y : Stage). IsAtRest y x.d.link) (sym (same_stage x.d x.config_is x.works_are))
            (rest_by out.state.place.core.stage x.d.link calm
            (λ link e. says.lost d.config work.job now state input ∙ sym flagged ∙ x.wants.is_linked link e))

        mine : Rests C s.clients s.driving.linked s.driving.ended k x.d
        mine = inr (record {
          before = before;
          work = grown work input now;
          did = did ++ out.actions;
          at = x.mid.mine;
          done = subst (DoneIn x.d.config before (grown work input now)) (append-nil (did ++ out.actions)) x.wants.done;
          rest = rests;
        })

        go : (j : ℕ) (e : Driver) → driver_at s j ≡ Some e → (q : Bool) → nat_eq j k ≡ q
            → Rests C s.clients s.driving.linked s.driving.ended j e
        go j e there true f =
            let index : j ≡ k = eqb-true j k f in
            let found : Some x.d ≡ Some e = sym x.mid.here ∙ ap (driver_at s) (sym index) ∙ there in
            let same : x.d ≡ e = cc in
            subst (λ (n : ℕ). Rests C s.clients s.driving.linked s.driving.ended n e) (sym index)
            (subst (Rests C s.clients s.driving.linked s.driving.ended k) same mine)
        go j e there false f =
            x.mid.others j e (λ same. let g : true ≡ false = sym (same_test k) ∙ ap (λ n. nat_eq n k) (sym same) ∙ f in cc) there
