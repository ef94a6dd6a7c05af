-- A session is woken, begins a work, or is made: what is kept of sessions is kept.
use Rattle.std.proofs.Common.{◌≡◌, ◌⊎◌, inl, inr, ℕ, ◌+◌, ◌<◌, ◌≤◌, Bool, true, false, List, [], ◌∷◌, ◌++◌, length, drop, Option}
use Rattle.std.proofs.Common.{Some, None, refl, sym, ap, subst, ◌∙◌, arith, append-nil, length-append, eqb-true}
use Rattle.std.specs.Prelude.{nat_eq, IsTrue}
use Rattle.std.specs.List.{AllByRecursion, Contains}
use Rattle.ncc_pack.specs.declared.value.Value.{Value}
use Rattle.ncc_driver.specs.declared.config.SessionConfig.{SessionConfig}
use Rattle.ncc_driver.specs.declared.standing.Stage.{Stage}
use Rattle.ncc_driver.specs.declared.action.Action.{Action}
use Rattle.ncc_driver.specs.declared.action.Input.TheVariants as i
use Rattle.ncc_driver.specs.Config.{config_fits}
use Rattle.ncc_driver.specs.Work.{Job}
use Rattle.ncc_driver.specs.Session.{Ran, Moved, Begun, on, session, acts, begins as begins_at}
use Rattle.ncc_driver.specs.Talk.{begun as begun_work}
use Rattle.ncc_driver.specs.Laws.{presented, is_awaited}
use Rattle.ncc_clients.specs.Members.{Cluster}
use Rattle.ncc_clients.specs.Links.{Link, Driver, Linked, Ended}
use Rattle.ncc_clients.specs.Run.{Run, Client}
use Rattle.ncc_clients.specs.Drives.{driver_at, with_driver, knows, told_input, turns_to, does_all, follows_on, more, joined, last_of}
use Rattle.ncc_clients.specs.Drives.{with_input}
use Rattle.ncc_clients.specs.Drives.{woken, is_busy, begins_by, begins, makes, new_driver}
use Rattle.ncc_clients.specs.Reads.{committed_at}
use Rattle.ncc_driver.specs.LawsFits.{JobFits}
use Rattle.ncc_clients.specs.Course.{IsAllowed}
use Rattle.ncc_driver.specs.LawsLegs.{presented_behind, sent_since}
use Rattle.ncc_clients.proofs.Driven.{DriverSays}
use Rattle.ncc_clients.proofs.Lists.{all_append, get_push}
use Rattle.ncc_clients.proofs.Fits.{same_test}
use Rattle.ncc_clients.proofs.Speaking.{Presented}
use Rattle.ncc_clients.proofs.Driving.{session_begun, drop_front, done_begun}
use Rattle.ncc_clients.proofs.Linking.{stage_of, IsLinkAt, At, Rests, Idle, Works, Kept}
use Rattle.ncc_clients.proofs.Parting.{none_or}
use Rattle.ncc_clients.proofs.Inputs.{is_joining, rest_not_joining}
use Rattle.ncc_clients.proofs.Beside.{Beside, beside_kept, beside_driver, told_kept}
use Rattle.ncc_clients.proofs.Deeds.{on_woken, bytes_not_woken, bytes_not_start, no_link_at, stands_at, link_here, asked_here}

told_none : (x : Moved) → with_input [] x ≡ []
unfolding with_input
told_none x = refl

module _ {S : Type 0} (C : Cluster S) (says : DriverSays) where
  -- what is kept of one session and of all others is kept of all
  pub kept_beside : (r : Run S) (k : ℕ) (d : Driver) → Beside C r k d → Rests C r.clients r.driving.linked r.driving.ended k d → Kept C r
  kept_beside r k d b mine = record { sessions = λ j e there. go j e there (nat_eq j k) refl; around = b.around } where
    go : (j : ℕ) (e : Driver) → driver_at r j ≡ Some e → (q : Bool) → nat_eq j k ≡ q
        → Rests C r.clients r.driving.linked r.driving.ended j e
    go j e there true f =
        let index : j ≡ k = eqb-true j k f in
        let found : Some d ≡ Some e = sym b.here ∙ ap (driver_at r) (sym index) ∙ there in
        let same : d ≡ e = cc in
        subst (λ (n : ℕ). Rests C r.clients r.driving.linked r.driving.ended n e) (sym index)
        (subst (Rests C r.clients r.driving.linked r.driving.ended k) same mine)
    go j e there false f =
        b.others j e (λ same. let g : true ≡ false = sym (same_test k) ∙ ap (λ n. nat_eq n k) (sym same) ∙ f in cc) there

  -- ---- woken

  at_wakes : (clients : List Client) (linked : List Linked) (ended : List Ended) (k : ℕ) (d : Driver) (before : List Begun) (work : Begun)
      (did : List Action) (wakes : Option ℕ) → At C clients linked ended k d before work did
      → At C clients linked ended k (record d { wakes = wakes }) before work did
  at_wakes clients linked ended k d before work did wakes h = record {
    works_are = h.works_are;
    fits = h.fits;
    jobs = h.jobs;
    owes = h.owes;
    owes_now = h.owes_now;
    ended_are = h.ended_are;
    linked_are = h.linked_are;
    link = h.link;
  }

  woken_idle : (line k : ℕ) (r : Run S) (d : Driver) → Kept C r → driver_at r k ≡ Some d → Idle C r.driving.linked r.driving.ended k d
      → Kept C (woken C line k r d)
  unfolding does_all
  woken_idle line k r d h here idle =
      let e = record d { wakes = None } in
      let s = with_driver r k e in
      let f = knows e [] in
      let t = with_driver s k f in
      let a = acts d.config [] in
      let works : with_input e.works (i.Woken, r.now) ≡ [] = ap (λ (w : List Begun). with_input w (i.Woken, r.now)) idle.none
      ∙ told_none (i.Woken, r.now) in
      let nothing : more e [] ≡ [] = ap (λ (w : List Begun). drop (length (acts d.config w)) a) idle.none
      ∙ ap (λ (x : List Action). drop (length a) x) (sym (append-nil a)) ∙ drop_front a [] in
      let kept : Kept C t = kept_beside t k f (beside_driver C s k e f (beside_driver C r k d e (beside_kept C r k d here h))) (inl
      (record {
        none = refl;
        fits = idle.fits;
        link = idle.link;
        no_ends = idle.no_ends;
        no_links = idle.no_links;
      })) in
      subst (λ (w : List Begun). Kept C (turns_to C line k s e w)) (sym works)
      (subst (λ (xs : List Action). Kept C
      (let u = does_all C line k xs t in follows_on C line k u (driver_at u k) (joined C (last_of xs)))) (sym nothing)
      (follows_none (driver_at t k) t kept))
    where
      follows_none : (o : Option Driver) (t : Run S) → Kept C t → Kept C (follows_on C line k t o None)
      follows_none None t x = x
      follows_none (Some y) t x = x

  woken_link : (k : ℕ) (r : Run S) (d : Driver) (w : Works C r.clients r.driving.linked r.driving.ended k d) (o : Option Link) → d.link ≡ o
      → (let q = on d.config w.work.job r.now (session d.config (w.before ++ w.work ∷ [])).state i.Woken in
      IsLinkAt C r.clients r.driving.linked k (length w.before) (presented_behind d.config w.before) q.state.place.core.stage q.state.came
      (sent_since [] w.did) o)
  woken_link k r d w None e = tt
  woken_link k r d w (Some link) e =
      let s = (session d.config (w.before ++ w.work ∷ [])).state in
      let a = asked_here C says r k d w link e in
      subst (λ (q : Ran). IsLinkAt C r.clients r.driving.linked k (length w.before) (presented_behind d.config w.before)
      q.state.place.core.stage q.state.came (sent_since [] w.did) (Some link)) (sym (on_woken d.config w.work.job r.now s a.0 a.1))
      (link_here C says r k d w link e)

  woken_by : (line k : ℕ) (r : Run S) (d : Driver) → Kept C r → driver_at r k ≡ Some d
      → Rests C r.clients r.driving.linked r.driving.ended k d → Kept C (woken C line k r d)
  woken_by line k r d h here (inl idle) = woken_idle line k r d h here idle
  woken_by line k r d h here (inr w) =
      let e = record d { wakes = None } in
      let s = (session d.config (w.before ++ w.work ∷ [])).state in
      told_kept C says line k r.clients (with_driver r k e) e w.before w.work w.did i.Woken d.link tt
      (beside_driver C r k d e (beside_kept C r k d here h))
      (at_wakes r.clients r.driving.linked r.driving.ended k d w.before w.work w.did None w.at) w.done
      (rest_not_joining _ d.link (stands_at C says r k d w).rest) (
        woken_link k r d w d.link refl,
        λ front y back f. absurd (
            let z = (says.succeeds d.config w.work.job r.now s i.Woken front y back f).1 in bytes_not_woken z.0 z.1),
      )
      (λ link f. ap (λ (x : Stage). is_awaited x i.Lost) (asked_here C says r k d w link f).1)

  pub woken_kept : (line k : ℕ) (r : Run S) (d : Driver) → Kept C r → driver_at r k ≡ Some d → Kept C (woken C line k r d)
  woken_kept line k r d h here = woken_by line k r d h here (h.sessions k d here)

  -- ---- a work begins

  begun_calm : (config : SessionConfig) (works : List Begun) (job : Job) (now : ℕ)
      → is_joining (session config (works ++ begun_work job now ∷ [])).state.place.core.stage ≡ false
  unfolding begins_at
  begun_calm config works job now = ap (λ (q : Ran). is_joining q.state.place.core.stage) (session_begun config works job now)

  -- what is owed to the work that begins
  record Before (linked : List Linked) (ended : List Ended) (k : ℕ) (d : Driver) : Type 0 where
    fits : IsTrue (config_fits d.config)
    link : d.link ≡ None
    jobs : AllByRecursion IsAllowed d.works
    owes : (e : Ended) (p : ℕ) → Contains ended e → e.session ≡ k → committed_at e.result ≡ Some p
        → (q : ℕ) × Presented C.id (presented_behind d.config d.works) q × (p ≤ q)
    ended_are : (e : Ended) → Contains ended e → e.session ≡ k → e.work < length d.works
    linked_are : (l : Linked) → Contains linked l → l.session ≡ k → l.work < length d.works

  before_by : (k : ℕ) (r : Run S) (d : Driver) → is_busy d ≡ false → Rests C r.clients r.driving.linked r.driving.ended k d
      → Before r.driving.linked r.driving.ended k d
  before_by k r d free (inl idle) = record {
    fits = idle.fits;
    link = idle.link;
    jobs = subst (AllByRecursion IsAllowed) (sym idle.none) tt;
    owes = λ e p there mine is. absurd (idle.no_ends e there mine);
    ended_are = λ e there mine. absurd (idle.no_ends e there mine);
    linked_are = λ l there mine. absurd (idle.no_links l there mine);
  }
  before_by k r d free (inr w) = record {
    fits = w.at.fits;
    link = no_link_at (stage_of d) d.link free w.rest;
    jobs = subst (AllByRecursion IsAllowed) (sym w.at.works_are) w.at.jobs;
    owes = λ e p there mine is.
        let less : e.work < length w.before + 1 = omega (arith, ended e there mine, long) in
        subst (λ (b : List Value). (q : ℕ) × Presented C.id b q × (p ≤ q)) (sym same) (w.at.owes_now e p there mine less is);
    ended_are = ended;
    linked_are = λ l there mine. omega (arith, w.at.linked_are l there mine, long);
  } where
    long : length d.works ≡ length w.before + 1
    long = ap length w.at.works_are ∙ length-append w.before (w.work ∷ [])

    same : presented_behind d.config d.works ≡ presented d.config.bookmarks (acts d.config w.before ++ w.did)
    same = ap (λ (x : List Begun). presented_behind d.config x) w.at.works_are ∙ ap (presented d.config.bookmarks) w.done

    ended : (e : Ended) → Contains r.driving.ended e → e.session ≡ k → e.work < length d.works
    ended e there mine = elim (w.at.ended_are e there mine) [
      | inl less ↦ omega (arith, less, long)
      | inr x ↦ omega (arith, x.0, long)
    ]

  begins_one : (line k : ℕ) (r : Run S) (d : Driver) (job : Job) → Kept C r → driver_at r k ≡ Some d
      → Before r.driving.linked r.driving.ended k d → JobFits job → Kept C (begins_by C line k r (Some d) job)
  begins_one line k r d job h here b fits =
      let work = begun_work job r.now in
      let works = d.works ++ work ∷ [] in
      let e = record d { works = works; link = None } in
      let same : knows d works ≡ e = ap (λ (o : Option Link). record d { works = works; link = o }) b.link in
      let at : At C r.clients r.driving.linked r.driving.ended k e d.works work [] = record {
        works_are = refl;
        fits = b.fits;
        jobs = all_append IsAllowed d.works (work ∷ []) b.jobs ((fits, tt), tt);
        owes = λ x p there mine less is. b.owes x p there mine is;
        owes_now = λ x p there mine less is. subst (λ (a : List Action). (q : ℕ) × Presented C.id (presented d.config.bookmarks a) q
            × (p ≤ q))
            (sym (append-nil (acts d.config d.works))) (b.owes x p there mine is);
        ended_are = λ x there mine. inl (b.ended_are x there mine);
        linked_are = λ l there mine. omega (arith, b.linked_are l there mine);
        link = tt;
      } in
      subst (λ (x : Driver). Kept C (told_input C line k (with_driver r k x) x i.Start)) (sym same)
      (told_kept C says line k r.clients (with_driver r k e) e d.works work [] i.Start None tt
      (beside_driver C r k d e (beside_kept C r k d here h)) at (done_begun d.config d.works job r.now)
      (begun_calm d.config d.works job r.now) (
        tt,
        λ front y back f. absurd (
            let z = (says.succeeds d.config job r.now (session d.config works).state i.Start front y back f).1 in bytes_not_start z.0 z.1),
      )
      (λ x f. absurd (none_or x f)))

  pub begins_kept : (line k : ℕ) (r : Run S) (d : Driver) (job : Job) → Kept C r → driver_at r k ≡ Some d → is_busy d ≡ false → JobFits job
      → Kept C (begins C line k r job)
  begins_kept line k r d job h here free fits =
      subst (λ (o : Option Driver). Kept C (begins_by C line k r o job)) (sym here)
      (begins_one line k r d job h here (before_by k r d free (h.sessions k d here)) fits)

  -- ---- a session is made

  pub makes_kept : (r : Run S) (config : SessionConfig) → IsTrue (config_fits config) → Kept C r → Kept C (makes r config)
  makes_kept r config fits h = record {
    sessions = λ k d there. go k d (get_push r.driving.drivers (new_driver config) k d there);
    around = record {
      held = h.around.held;
      once = h.around.once;
      links_by = λ l there. omega (arith, h.around.links_by l there, length-append r.driving.drivers (new_driver config ∷ []));
      ends_by = λ e there. omega (arith, h.around.ends_by e there, length-append r.driving.drivers (new_driver config ∷ []));
    };
  } where
    new : Idle C r.driving.linked r.driving.ended (length r.driving.drivers) (new_driver config)
    new = record {
      none = refl;
      fits = fits;
      link = refl;
      no_ends = λ e there mine. absurd (omega (arith, h.around.ends_by e there, mine));
      no_links = λ l there mine. absurd (omega (arith, h.around.links_by l there, mine));
    }

    go : (k : ℕ) (d : Driver) → (driver_at r k ≡ Some d) ⊎ ((k ≡ length r.driving.drivers) × (new_driver config ≡ d))
        → Rests C r.clients r.driving.linked r.driving.ended k d
    go k d (inl e) = h.sessions k d e
    go k d (inr e) = inl (subst (λ (n : ℕ). Idle C r.driving.linked r.driving.ended n d) (sym e.0)
        (subst (Idle C r.driving.linked r.driving.ended (length r.driving.drivers)) e.1 new))
