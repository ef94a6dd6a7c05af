-- What a session wants done behind an input is done, one thing after another.
use Rattle.std.proofs.Common.{◌≡◌, ℕ, Bool, true, false, List, [], ◌∷◌, ◌++◌, Option, Some, None, refl, sym, ap, subst, ◌∙◌}
use Rattle.std.proofs.Common.{append_assoc, append-nil}
use Rattle.std.specs.Prelude.{Result, Ok}
use Rattle.ncc_driver.specs.declared.config.SessionConfig.{SessionConfig}
use Rattle.ncc_driver.specs.declared.standing.Leg.{Leg}
use Rattle.ncc_driver.specs.declared.standing.Stage.TheVariants as stage
use Rattle.ncc_driver.specs.declared.action.Action.{Action}
use Rattle.ncc_driver.specs.declared.action.Action.TheVariants.{Connect, Send, Close, Sleep, Receive, Finish}
use Rattle.ncc_driver.specs.declared.action.WorkDone.{WorkDone}
use Rattle.ncc_driver.specs.declared.action.WorkError.{WorkError}
use Rattle.ncc_driver.specs.Session.{Begun}
use Rattle.ncc_driver.specs.Laws.{linked_by}
use Rattle.ncc_clients.specs.Members.{Cluster}
use Rattle.ncc_clients.specs.Links.{Link, Driver}
use Rattle.ncc_clients.specs.Run.{Run}
use Rattle.ncc_clients.specs.Drives.{driver_at, member_named, joins_named, sends, parts, does_by, does, does_all}
use Rattle.ncc_driver.specs.LawsLegs.{DoneIn}
use Rattle.ncc_clients.proofs.Driven.{DriverSays}
use Rattle.ncc_clients.proofs.Driving.{linked_join}
use Rattle.ncc_clients.proofs.Linking.{stage_of, Mid}
use Rattle.ncc_clients.proofs.Doing.{mid_sleeps, mid_receives, mid_sends}
use Rattle.ncc_clients.proofs.Parting.{none_or, with_new, mid_parts, mid_closes_none, mid_joins, mid_nowhere}
use Rattle.ncc_clients.proofs.Wanting.{Success, mid_ends}

true_not : (b : Bool) → b ≡ true → b ≡ false → ⊥
true_not b e f = let g : true ≡ false = sym e ∙ f in cc

module _ {S : Type 0} (C : Cluster S) where
  -- What is still to do, where a link is there or not, as far as its doing goes by it.
  pub record Wants (d : Driver) (before : List Begun) (work : Begun) (did todo : List Action) (linked : Bool) : Type 0 where
    pub done : DoneIn d.config before work (did ++ todo)
    pub connects : (front : List Action) (address : List ℕ) (back : List Action) → todo ≡ front ++ Connect address ∷ back
        → (back ≡ []) × ((leg : Leg) × (stage_of d ≡ stage.Joins leg)) × (linked_by linked front ≡ false)
    pub succeeds : (front : List Action) (x : WorkDone) (back : List Action) → todo ≡ front ++ Finish (Ok x) ∷ back
        → Success C d.config before x
    pub is_linked : (link : Link) → d.link ≡ Some link → linked ≡ true

  -- what was done
  pub record Did (s : Run S) (k : ℕ) (old : Driver) (before : List Begun) (work : Begun) (did todo : List Action) (linked : Bool) : Type 0
    where
      pub d : Driver
      pub config_is : d.config ≡ old.config
      pub works_are : d.works ≡ old.works
      pub mid : Mid C s k d before work did
      pub wants : Wants d before work did todo linked

  -- what is left to do behind the first of it
  wants_next : (d e : Driver) (before : List Begun) (work : Begun) (did todo : List Action) (a : Action) (linked : Bool)
      → e.config ≡ d.config → e.works ≡ d.works → ((link : Link) → e.link ≡ Some link → linked_by linked (a ∷ []) ≡ true)
      → Wants d before work did (a ∷ todo) linked → Wants e before work (did ++ a ∷ []) todo (linked_by linked (a ∷ []))
  wants_next d e before work did todo a linked c w l h = record {
    done = subst (λ (x : SessionConfig). DoneIn x before work ((did ++ a ∷ []) ++ todo)) (sym c)
        (subst (DoneIn d.config before work) (sym (append_assoc did (a ∷ []) todo)) h.done);
    connects = λ front address back is.
        let x = h.connects (a ∷ front) address back (ap (λ (t : List Action). a ∷ t) is) in (
          x.0,
          (x.1.0, stage_same ∙ x.1.1),
          sym (linked_join linked (a ∷ []) front) ∙ x.2,
        );
    succeeds = λ front x back is. subst (λ (y : SessionConfig). Success C y before x) (sym c)
        (h.succeeds (a ∷ front) x back (ap (λ (t : List Action). a ∷ t) is));
    is_linked = l;
  } where
    stage_same : stage_of e ≡ stage_of d
    stage_same = ap (λ (x : SessionConfig). stage_of (record e { config = x })) c
        ∙ ap (λ (w : List Begun). stage_of (record d { works = w })) w

  module _ (says : DriverSays) (line k : ℕ) where
    -- a link that is there stays there
    stays : (d : Driver) (before : List Begun) (work : Begun) (did todo : List Action) (linked : Bool)
        → Wants d before work did todo linked → (link : Link) → d.link ≡ Some link → linked ≡ true
    stays d before work did todo linked h = h.is_linked

    sent_link : (bytes : List ℕ) (o : Option Link) (link : Link) → sends bytes o ≡ Some link → (x : Link) × (o ≡ Some x)
    sent_link bytes None link e = absurd (none_or link e)
    sent_link bytes (Some x) link e = (x, refl)

    pub no_link : (o : Option Link) (linked : Bool) → ((link : Link) → o ≡ Some link → linked ≡ true) → linked ≡ false → o ≡ None
    no_link None linked h f = refl
    no_link (Some x) linked h f = absurd (true_not linked (h x refl) f)

    pub connect_one : (r : Run S) (d : Driver) (before : List Begun) (work : Begun) (did todo : List Action) (address : List ℕ)
        (linked : Bool)
        (o : Option ℕ) → Mid C r k d before work did → Wants d before work did (Connect address ∷ todo) linked
        → Did (joins_named k d r o) k d before work (did ++ Connect address ∷ []) todo true
    connect_one r d before work did todo address linked None m w =
        let x = w.connects [] address todo refl in
        record {
          d = d;
          config_is = refl;
          works_are = refl;
          mid = mid_nowhere C r k d before work did address (no_link d.link linked w.is_linked x.2) m;
          wants = wants_next d d before work did todo (Connect address) linked refl refl (λ link e. refl) w;
        }
    connect_one r d before work did todo address linked (Some member) m w =
        let x = w.connects [] address todo refl in
        let e = with_new C r k d before work did address member m in
        record {
          d = e;
          config_is = refl;
          works_are = refl;
          mid = mid_joins C r k d before work did address member m x.1.0 x.1.1;
          wants = wants_next d e before work did todo (Connect address) linked refl refl (λ link f. refl) w;
        }

    close_one : (r : Run S) (d : Driver) (before : List Begun) (work : Begun) (did todo : List Action) (linked : Bool) (o : Option Link)
        → d.link ≡ o → Mid C r k d before work did → Wants d before work did (Close ∷ todo) linked
        → Did (parts C k d r o) k d before work (did ++ Close ∷ []) todo false
    close_one r d before work did todo linked None e m w = record {
      d = d;
      config_is = refl;
      works_are = refl;
      mid = mid_closes_none C r k d before work did e m;
      wants = wants_next d d before work did todo Close linked refl refl (λ link f. absurd (none_or link (sym e ∙ f))) w;
    }
    close_one r d before work did todo linked (Some x) e m w = record {
      d = record d { link = None };
      config_is = refl;
      works_are = refl;
      mid = mid_parts C says r k d before work did (Close ∷ todo) x e w.done m;
      wants = wants_next d (record d { link = None }) before work did todo Close linked refl refl (λ link f. absurd (none_or link f)) w;
    }

    same_result : (result : Result WorkDone WorkError) (x : WorkDone) → result ≡ Ok x → Finish result ≡ Finish (Ok x)
    same_result result x e = ap Finish e

    do_one : (r : Run S) (d : Driver) (before : List Begun) (work : Begun) (did todo : List Action) (a : Action) (linked : Bool)
        → Mid C r k d before work did → Wants d before work did (a ∷ todo) linked
        → Did (does_by C line k r d a) k d before work (did ++ a ∷ []) todo (linked_by linked (a ∷ []))
    do_one r d before work did todo (Connect address) linked m w =
        connect_one r d before work did todo address linked (member_named C address) m w
    do_one r d before work did todo (Send bytes) linked m w =
        let e = record d { link = sends bytes d.link } in
        record {
          d = e;
          config_is = refl;
          works_are = refl;
          mid = mid_sends C r k d before work did bytes m;
          wants = wants_next d e before work did todo (Send bytes) linked refl refl
              (λ link f. let x = sent_link bytes d.link link f in w.is_linked x.0 x.1) w;
        }
    do_one r d before work did todo Close linked m w = close_one r d before work did todo linked d.link refl m w
    do_one r d before work did todo (Sleep until) linked m w =
        let e = record d { wakes = Some until } in
        record {
          d = e;
          config_is = refl;
          works_are = refl;
          mid = mid_sleeps C r k d before work did until m;
          wants = wants_next d e before work did todo (Sleep until) linked refl refl w.is_linked w;
        }
    do_one r d before work did todo Receive linked m w = record {
      d = d;
      config_is = refl;
      works_are = refl;
      mid = mid_receives C r k d before work did m;
      wants = wants_next d d before work did todo Receive linked refl refl w.is_linked w;
    }
    do_one r d before work did todo (Finish result) linked m w = record {
      d = d;
      config_is = refl;
      works_are = refl;
      mid = mid_ends C says line r k d before work did todo result m w.done
          (λ x e. w.succeeds [] x todo (ap (λ (y : Action). y ∷ todo) (same_result result x e)));
      wants = wants_next d d before work did todo (Finish result) linked refl refl w.is_linked w;
    }

    -- the first of what is wanted
    pub do_all : (front todo : List Action) (r : Run S) (d : Driver) (before : List Begun) (work : Begun) (did : List Action)
        (linked : Bool)
        → Mid C r k d before work did → Wants d before work did (front ++ todo) linked
        → Did (does_all C line k front r) k d before work (did ++ front) todo (linked_by linked front)
    unfolding does_all
    do_all [] todo r d before work did linked m w = record {
      d = d;
      config_is = refl;
      works_are = refl;
      mid = subst (Mid C r k d before work) (sym (append-nil did)) m;
      wants = subst (λ (x : List Action). Wants d before work x todo linked) (sym (append-nil did)) w;
    }
    do_all (a ∷ front) todo r d before work did linked m w =
        let one = do_one r d before work did (front ++ todo) a linked m w in
        let s = does_by C line k r d a in
        let rest = do_all front todo s one.d before work (did ++ a ∷ []) (linked_by linked (a ∷ [])) one.mid one.wants in
        let run : does_all C line k front s ≡ does_all C line k front (does C line k r (driver_at r k) a) =
        ap (λ (o : Option Driver). does_all C line k front (does C line k r o a)) (sym m.here) in
        let said : (did ++ a ∷ []) ++ front ≡ did ++ a ∷ front = append_assoc did (a ∷ []) front in
        let flag : linked_by (linked_by linked (a ∷ [])) front ≡ linked_by linked (a ∷ front) = sym (linked_join linked (a ∷ []) front) in
        record {
          d = rest.d;
          config_is = rest.config_is ∙ one.config_is;
          works_are = rest.works_are ∙ one.works_are;
          mid = subst (λ (x : List Action). Mid C (does_all C line k front (does C line k r (driver_at r k) a)) k rest.d before work x) said
              (subst (λ (t : Run S). Mid C t k rest.d before work ((did ++ a ∷ []) ++ front)) run rest.mid);
          wants = subst (Wants rest.d before work (did ++ a ∷ front) todo) flag
              (subst (λ (x : List Action). Wants rest.d before work x todo (linked_by (linked_by linked (a ∷ [])) front)) said rest.wants);
        }
