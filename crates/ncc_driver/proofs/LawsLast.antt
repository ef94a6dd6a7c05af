-- What a session waits for is told by the last thing that it wants done.
use Rattle.std.proofs.Common.{◌≡◌, ◌⊎◌, inl, inr, ℕ, Bool, true, false, not, List, [], ◌∷◌, ◌++◌, drop, length}
use Rattle.std.proofs.Common.{Option, Some, refl, sym, ap, ◌∙◌, subst, append-nil, append_assoc}
use Rattle.std.specs.Prelude.{if◌then◌else◌, ◌==◌, Err}
use Rattle.ncc_pack.specs.declared.value.Value.{Value}
use Rattle.ncc_pack.specs.declared.value.Value.TheVariants as v
use Rattle.ncc_pack.specs.Texts.{texts_alone}
use Rattle.rand_pcg.specs.Pcg.{pcg32}
use Rattle.ncc_route.specs.Routing.{picked}
use Rattle.ncc_route.specs.declared.table.Role.{Role}
use Rattle.ncc_driver.specs.declared.config.SessionConfig.{SessionConfig}
use Rattle.ncc_driver.specs.declared.standing.Core.{Core}
use Rattle.ncc_driver.specs.declared.standing.Leg.{Leg}
use Rattle.ncc_driver.specs.declared.standing.Leg.TheVariants.{Routing, Working}
use Rattle.ncc_driver.specs.declared.standing.Asked.{Asked}
use Rattle.ncc_driver.specs.declared.standing.Asked.TheVariants as a
use Rattle.ncc_driver.specs.declared.standing.Stage.{Stage}
use Rattle.ncc_driver.specs.declared.standing.Stage.TheVariants as stage
use Rattle.ncc_driver.specs.declared.action.Action.{Action}
use Rattle.ncc_driver.specs.declared.action.Action.TheVariants.{Connect, Sleep, Receive, Finish}
use Rattle.ncc_driver.specs.declared.action.Input.{Input}
use Rattle.ncc_driver.specs.declared.action.Input.TheVariants as i
use Rattle.ncc_driver.specs.declared.action.WorkError.TheVariants as e
use Rattle.ncc_driver.specs.declared.action.Last.{Last}
use Rattle.ncc_driver.specs.declared.action.Last.TheVariants as last
use Rattle.ncc_driver.specs.declared.answers.Told.{Told}
use Rattle.ncc_driver.specs.declared.answers.Told.TheVariants as says
use Rattle.ncc_driver.specs.declared.link.Item.{Item}
use Rattle.ncc_driver.specs.declared.work.WorkStep.{WorkStep}
use Rattle.ncc_driver.specs.declared.work.WorkStep.TheVariants as w
use Rattle.ncc_driver.specs.Work.{Job}
use Rattle.ncc_driver.specs.Config.{config_fits}
use Rattle.ncc_driver.specs.Requests.{closes}
use Rattle.ncc_driver.specs.State.{SessionState, Turned, new_core}
use Rattle.ncc_driver.specs.Attempts.{before, at_core, finishes, refuses, retries, sleeps, is_spent, drops_table}
use Rattle.ncc_driver.specs.Attempts.{fails_by, is_transient, is_no_leader, loses, joins, joins_server, joins_by, joins_router, router_of}
use Rattle.ncc_driver.specs.Attempts.{or_else, one_more, role_of, drawn, addresses_in, opened, attempts, is_fresh, takes_step}
use Rattle.ncc_driver.specs.Attempts.{follows_hello, follows, keeps_table, behind, so_far}
use Rattle.ncc_driver.specs.Session.{Listening, Standing, State, Ran, Moved, Begun, told_by, answered, listening, items_of, or_more}
use Rattle.ncc_driver.specs.Session.{hears, on_input, on, begins, told_all, works_all, session, new_state}
use Rattle.ncc_driver.specs.Laws.{is_awaited}
use Rattle.ncc_driver.specs.LawsLast.{WaitsBehind, EndsWaiting, WaitsByLast, GoesOnBehindAwaited}
use Rattle.ncc_driver.proofs.LawsTurns.{is_asking}
use Rattle.ncc_driver.proofs.LawsCauses.{GoodTold, picks_text}
use Rattle.ncc_driver.proofs.LawsTables.{told_good}
use Rattle.ncc_driver.proofs.LawsWaits.{others_change_nothing}
use Rattle.ncc_driver.proofs.LawsHearing.{next, hear, hear_not, going_is, walk}
use Rattle.ncc_driver.proofs.Kept.{left, right}
use Rattle.ncc_driver.proofs.Picking.{alone}
use Rattle.ncc_driver.proofs.Talking.{session_last, session_told}

-- the routers that a session knows are texts
abbrev Routes : SessionState → Type 0
Routes p = texts_alone p.core.route ≡ true

-- behind a turn the routers are texts, and the last action tells what is waited for
record Ends (t : Turned) : Type 0 where
  routes : Routes t.place
  last : EndsWaiting t.actions t.place.core.stage

-- the last of them tells what is waited for; or there is none, and an answer is awaited
abbrev Waits : Stage → List Action → Type 0
Waits st actions = EndsWaiting actions st ⊎ ((actions ≡ []) × (is_asking st ≡ true))

record Goes (p : SessionState) (actions : List Action) : Type 0 where
  routes : Routes p
  waits : Waits p.core.stage actions

goes_of : (t : Turned) → Ends t → Goes t.place t.actions
goes_of t h = record { routes = h.routes; waits = inl h.last }

one : (x : Action) (st : Stage) → WaitsBehind x st → EndsWaiting (x ∷ []) st
one x st h = ([], x, refl, h)

behind_others : (xs ys : List Action) (st : Stage) → EndsWaiting ys st → EndsWaiting (xs ++ ys) st
behind_others xs ys st h =
    (xs ++ h.0, h.1, ap (λ (zs : List Action). xs ++ zs) h.2 ∙ sym (append_assoc xs h.0 (h.1 ∷ [])), h.3)

ends_before : (xs : List Action) (t : Turned) → Ends t → Ends (before xs t)
ends_before xs t h = record { routes = h.routes; last = behind_others xs t.actions t.place.core.stage h.last }

if_ends : (b : Bool) (t u : Turned) → Ends t → Ends u → Ends (if b then t else u)
if_ends true t u g h = g
if_ends false t u g h = h

-- ---- failures

finish_ends : (p : SessionState) (t : Turned) → t.place.core.route ≡ p.core.route → Routes p → EndsWaiting t.actions t.place.core.stage → Ends t
finish_ends p t e r l = record { routes = ap texts_alone e ∙ r; last = l }

retries_end : (p : SessionState) (now : ℕ) (reason : Last) → Routes p → Ends (retries p now reason)
retries_end p now reason r =
    if_ends (is_spent now p.core.began) _ _ (finish_ends p (finishes p (Err (e.RetriesSpent p.core.attempts reason))) refl r (one _ _ tt))
    (finish_ends p (sleeps p now) refl r (one _ _ tt))

fails_end : (p : SessionState) (now : ℕ) (code : List ℕ) → Routes p → Ends (fails_by p now code)
fails_end p now code r =
    if_ends (is_transient code) _ _ (retries_end p now (last.Code code) r)
    (if_ends (is_no_leader code) _ _ (retries_end (drops_table p) now (last.Code code) r)
    (finish_ends p (refuses p code) refl r (one _ _ tt)))

-- ---- whom it connects to

joins_end : (p : SessionState) (now : ℕ) (role : Role) (core : Core) (found : Option Value) → texts_alone core.route ≡ true
    → Ends (joins p now role core found)
joins_end p now role core (Some (v.Text address)) r = record { routes = r; last = one _ _ tt }
joins_end p now role core _ r = retries_end (drops_table (at_core p core)) now (last.NoServer role) r

server_ends : (writes : Bool) (p : SessionState) (now : ℕ) → Routes p → Ends (joins_server writes p now)
server_ends writes p now r =
    let role = role_of writes in
    joins_end p now role (drawn p.core) (picked (pcg32 p.core.words).0 (addresses_in role p.core.table)) r

router_by : (route routers : List Value) (turn : ℕ) → texts_alone route ≡ true → texts_alone routers ≡ true
    → not (length routers == 0) ≡ true → (address : List ℕ) × (picked turn (or_else route routers) ≡ Some (v.Text address))
router_by [] [] turn r t n = absurd (cc)
router_by [] (x ∷ xs) turn r t n = picks_text turn x xs t
router_by (x ∷ xs) routers turn r t n = picks_text turn x xs r

router_there : (config : SessionConfig) (core : Core) → config_fits config ≡ true → texts_alone core.route ≡ true
    → (address : List ℕ) × (router_of config core ≡ Some (v.Text address))
router_there config core f r =
    let two = left _ _ (left _ _ f) in
    router_by core.route config.routers core.connects r (alone config.routers (right _ _ two)) (left _ _ (left _ _ two))

router_ends : (config : SessionConfig) (p : SessionState) → config_fits config ≡ true → Routes p → Ends (joins_router config p)
router_ends config p f r =
    let core = record p.core { connects = one_more p.core.connects } in
    let there = router_there config p.core f r in
    subst (λ (o : Option Value). Ends (joins_by p core o)) (sym there.1) (record { routes = r; last = one _ _ tt })

attempts_end : (config : SessionConfig) (writes : Bool) (p : SessionState) (now : ℕ) → config_fits config ≡ true → Routes p
    → Ends (attempts config writes p now)
attempts_end config writes p now f r =
    if_ends (is_fresh now p.core.table) _ _ (server_ends writes (opened p) now r) (router_ends config (opened p) f r)

-- ---- answers

step_ends : (p : SessionState) (step : WorkStep) → Routes p → Ends (takes_step p step)
step_ends p (w.Run query params) r = record { routes = r; last = (_ ∷ [], Receive, refl, tt) }
step_ends p w.Commit r = record { routes = r; last = (_ ∷ [], Receive, refl, tt) }

hello_ends : (writes : Bool) (p : SessionState) (leg : Leg) → Routes p → Ends (follows_hello writes p leg)
hello_ends writes p Routing r = record { routes = r; last = (_ ∷ [], Receive, refl, tt) }
hello_ends writes p Working r = record { routes = r; last = (_ ∷ [], Receive, refl, tt) }

abbrev GoesBy : Turned → Type 0
GoesBy t = Goes t.place t.actions

follows_go : (config : SessionConfig) (job : Job) (p : SessionState) (asked : Asked) → is_asking p.core.stage ≡ true → Routes p
    → GoesBy (follows config job p asked)
follows_go config job p (a.Shake leg) g r = record { routes = r; waits = inl (_ ∷ [], Receive, refl, tt) }
follows_go config job p (a.Hello leg) g r = goes_of (follows_hello job.writes p leg) (hello_ends job.writes p leg r)
follows_go config job p a.Begin g r =
    let q : SessionState = record { core = p.core; told = Some [] } in goes_of (takes_step q (job.steps [])) (step_ends q (job.steps []) r)
follows_go config job p a.Run g r = record { routes = r; waits = inl (_ ∷ [], Receive, refl, tt) }
follows_go config job p a.Pull g r =
    let told = so_far p.told ++ p.core.rows ∷ [] in
    let q : SessionState = record { core = p.core; told = Some told } in
    goes_of (takes_step q (job.steps told)) (step_ends q (job.steps told) r)
follows_go config job p a.Route g r = record { routes = r; waits = inr (refl, g) }
follows_go config job p a.Commit g r = record { routes = r; waits = inr (refl, g) }

answer_goes : (config : SessionConfig) (job : Job) (now : ℕ) (p : SessionState) (asked : Asked) (number : ℕ) (told : Told)
    → GoodTold asked told → is_asking p.core.stage ≡ true → Routes p → GoesBy (behind config job now p asked number told)
answer_goes config job now p asked number says.Done t g r = follows_go config job p asked g r
answer_goes config job now p asked number (says.Row fields) t g r = record { routes = r; waits = inr (refl, g) }
answer_goes config job now p asked number (says.Routed table) t g r =
    let u = joins_server job.writes (keeps_table p table) now in
    goes_of (before closes u) (ends_before closes u (server_ends job.writes (keeps_table p table) now t.2))
answer_goes config job now p asked number (says.Committed bookmark) t g r = record {
  routes = r;
  waits = inl (closes, _, refl, tt);
}
answer_goes config job now p asked number (says.Failed code) t g r =
    let u = fails_by p now code in goes_of (before closes u) (ends_before closes u (fails_end p now code r))
answer_goes config job now p asked number says.Bad t g r = record { routes = r; waits = inl (closes, _, refl, tt) }

-- ---- what is heard

waits_alike : (x : Action) (st other : Stage) → WaitsBehind x st → is_asking st ≡ true → is_asking other ≡ true → WaitsBehind x other
waits_alike Receive (stage.Awaits asked) (stage.Awaits next) h e f = tt
waits_alike Receive (stage.Awaits asked) stage.Rests h e f = absurd (cc)
waits_alike Receive (stage.Awaits asked) stage.Begun h e f = absurd (cc)
waits_alike Receive (stage.Awaits asked) (stage.Joins leg) h e f = absurd (cc)
waits_alike Receive (stage.Awaits asked) stage.Sleeps h e f = absurd (cc)
waits_alike (Connect address) (stage.Joins leg) other h e f = absurd (cc)
waits_alike (Sleep until) stage.Sleeps other h e f = absurd (cc)
waits_alike (Finish end) stage.Rests other h e f = absurd (cc)
waits_alike _ _ other h e f = absurd h

-- more is done while an answer is awaited
more_waits : (st mid : Stage) (xs ys : List Action) → is_asking mid ≡ true → Waits mid xs → Waits st ys → Waits st (xs ++ ys)
more_waits st mid xs ys f g (inl h) = inl (behind_others xs ys st h)
more_waits st mid xs ys f (inl g) (inr h) =
    inl (subst (λ (zs : List Action). EndsWaiting zs st) (sym (ap (λ (zs : List Action). xs ++ zs) h.0 ∙ append-nil xs))
    (g.0, g.1, g.2, waits_alike g.1 mid st g.3 f h.1))
more_waits st mid xs ys f (inr g) (inr h) = inr (ap (λ (zs : List Action). zs ++ ys) g.0 ∙ h.0, h.1)

module _ (config : SessionConfig) (job : Job) (now : ℕ) where
  abbrev Hears : Listening → List Item → Standing → Type 0
  Hears l items r = is_asking l.place.core.stage ≡ true → Routes l.place → Goes r.core.place r.written

  hears_on : (l : Listening) (asked : Asked) (item : Item) (items : List Item) (again : Bool)
      → let k = next config job now l asked item in let t = answered config job now l asked item in
      is_asking k.place.core.stage ≡ again → GoesBy t → Hears k items (hear config job now k items)
      → Goes (hear config job now k items).core.place (t.actions ++ (hear config job now k items).written)
  hears_on l asked item items true e h ih =
      let k = next config job now l asked item in
      let t = answered config job now l asked item in
      let r = hear config job now k items in
      let g = ih e h.routes in
      record {
        routes = g.routes;
        waits = more_waits r.core.place.core.stage k.place.core.stage t.actions r.written e h.waits g.waits;
      }
  hears_on l asked item items false e h ih =
      let k = next config job now l asked item in
      let t = answered config job now l asked item in
      subst (λ (r : Standing). Goes r.core.place (t.actions ++ r.written)) (sym (hear_not config job now k items e))
      (subst (λ (x : List Action). Goes k.place x) (sym (append-nil t.actions)) h)

  heard : (l : Listening) (items : List Item) → Hears l items (hear config job now l items)
  heard = walk config job now Hears
      (λ l g r. record { routes = r; waits = inr (refl, g) })
      (λ l asked item items e ih g r.
      let told = told_by asked now l.place.core.rows item in
      hears_on l asked item items (is_asking (next config job now l asked item).place.core.stage) refl
      (answer_goes config job now l.place asked _ told (told_good asked now l.place.core.rows item) g r) ih)
      (λ l item items f g r. let no : true ≡ false = sym g ∙ f in absurd (cc))

  awaits_receive : (st : Stage) → is_asking st ≡ true → EndsWaiting (Receive ∷ []) st
  awaits_receive (stage.Awaits asked) g = ([], Receive, refl, tt)
  awaits_receive stage.Rests g = absurd (cc)
  awaits_receive stage.Begun g = absurd (cc)
  awaits_receive (stage.Joins leg) g = absurd (cc)
  awaits_receive stage.Sleeps g = absurd (cc)

  more_or : (st : Stage) (actions : List Action) → Waits st actions → EndsWaiting (or_more actions) st
  more_or st [] (inl h) = absurd (no_last h.0 h.1 h.2) where
    no_last : (front : List Action) (x : Action) → [] ≡ front ++ x ∷ [] → ⊥
    no_last [] x e = absurd (cc)
    no_last (y ∷ front) x e = absurd (cc)
  more_or st [] (inr h) = awaits_receive st h.1
  more_or st (x ∷ actions) (inl h) = h
  more_or st (x ∷ actions) (inr h) = absurd (cc)

  -- ---- inputs

  abbrev EndsRan : Ran → Type 0
  EndsRan r = Routes r.state.place × EndsWaiting r.actions r.state.place.core.stage

  ran_of : (s : State) (t : Turned) → Ends t → EndsRan (record {
    state = record { place = t.place; came = s.came; taken = s.taken };
    actions = t.actions;
  })
  ran_of s t h = (h.routes, h.last)

  hears_end : (s : State) (bytes : List ℕ) → is_asking s.place.core.stage ≡ true → Routes s.place
      → EndsRan (hears config job now s bytes)
  hears_end s bytes e r =
      let items = drop s.taken (items_of (s.came ++ bytes)) in
      subst (λ (x : Standing). Routes x.core.place × EndsWaiting (or_more x.written) x.core.place.core.stage)
      (sym (going_is config job now (listening s) items))
      (let x = hear config job now (listening s) items in
      let g = heard (listening s) items e r in
      (g.routes, more_or x.core.place.core.stage x.written g.waits))

  input_ends : (s : State) (st : Stage) (input : Input) → config_fits config ≡ true → s.place.core.stage ≡ st → Routes s.place
      → is_awaited st input ≡ true → EndsRan (on_input config job now s st input)
  input_ends s stage.Begun i.Start f e r y =
      ran_of s (attempts config job.writes s.place now) (attempts_end config job.writes s.place now f r)
  input_ends s stage.Sleeps i.Woken f e r y =
      ran_of s (attempts config job.writes s.place now) (attempts_end config job.writes s.place now f r)
  input_ends s (stage.Joins leg) i.Connected f e r y = (r, (_ ∷ [], Receive, refl, tt))
  input_ends s (stage.Joins leg) i.Lost f e r y = ran_of s (loses s.place now) (retries_end (drops_table s.place) now last.LinkLost r)
  input_ends s (stage.Awaits asked) (i.Bytes bytes) f e r y = hears_end s bytes (ap is_asking e) r
  input_ends s (stage.Awaits asked) i.Lost f e r y = ran_of s (loses s.place now) (retries_end (drops_table s.place) now last.LinkLost r)
  input_ends s _ input f e r y = absurd (cc)

  on_ends : (s : State) (input : Input) → config_fits config ≡ true → Routes s.place → is_awaited s.place.core.stage input ≡ true
      → EndsRan (on config job now s input)
  unfolding on
  on_ends s input f r y = input_ends s s.place.core.stage input f refl r y

  -- behind any input
  on_by : (s : State) (input : Input) (awaited : Bool) → config_fits config ≡ true → Routes s.place
      → is_awaited s.place.core.stage input ≡ awaited
      → Routes (on config job now s input).state.place
      × ((done : List Action) → EndsWaiting done s.place.core.stage
      → EndsWaiting (done ++ (on config job now s input).actions) (on config job now s input).state.place.core.stage)
  on_by s input true f r y =
      let h = on_ends s input f r y in
      let q = on config job now s input in
      (h.0, λ done d. behind_others done q.actions q.state.place.core.stage h.1)
  on_by s input false f r y =
      subst (λ (q : Ran). Routes q.state.place
      × ((done : List Action) → EndsWaiting done s.place.core.stage → EndsWaiting (done ++ q.actions) q.state.place.core.stage))
      (sym (others_change_nothing config job now s input y))
      (r, λ done d. subst (λ (zs : List Action). EndsWaiting zs s.place.core.stage) (sym (append-nil done)) d)

-- ---- works

-- Behind inputs the routers are texts, and where the last action told what was waited for before them, it does behind them.
told_by_last : (config : SessionConfig) (job : Job) (s : State) (xs : List Moved) → config_fits config ≡ true → Routes s.place
    → let q = told_all config job s xs in
    Routes q.state.place
    × ((done : List Action) → EndsWaiting done s.place.core.stage → EndsWaiting (done ++ q.actions) q.state.place.core.stage)
unfolding told_all
told_by_last config job s [] f r =
    (r, λ done d. subst (λ (zs : List Action). EndsWaiting zs s.place.core.stage) (sym (append-nil done)) d)
told_by_last config job s (x ∷ xs) f r =
    let o = on config job x.1 s x.0 in
    let h = on_by config job x.1 s x.0 (is_awaited s.place.core.stage x.0) f r refl in
    let q = told_all config job o.state xs in
    let more = told_by_last config job o.state xs f h.0 in (
      more.0,
      λ done d. subst (λ (zs : List Action). EndsWaiting zs q.state.place.core.stage) (append_assoc done o.actions q.actions)
          (more.1 (done ++ o.actions) (h.1 done d)),
    )

begins_routes : (now : ℕ) (s : State) → Routes s.place → Routes (begins now s).place
unfolding begins
begins_routes now s r = r

begins_stage : (now : ℕ) (s : State) → (begins now s).place.core.stage ≡ stage.Begun
unfolding begins
begins_stage now s = refl

works_routes : (config : SessionConfig) (s : State) (works : List Begun) → config_fits config ≡ true → Routes s.place
    → Routes (works_all config s works).state.place
unfolding works_all
works_routes config s [] f r = r
works_routes config s (work ∷ works) f r =
    let t = begins work.began s in
    works_routes config (told_all config work.job t work.inputs).state works f
    (told_by_last config work.job t work.inputs f (begins_routes work.began s r)).0

session_routes : (config : SessionConfig) (works : List Begun) → config_fits config ≡ true → Routes (session config works).state.place
unfolding session new_core
session_routes config works f = works_routes config (new_state config) works f refl

-- a work that was told to start
started : (config : SessionConfig) (job : Job) (s : State) (now : ℕ) (xs : List Moved) → config_fits config ≡ true → Routes s.place
    → s.place.core.stage ≡ stage.Begun
    → let q = told_all config job s ((i.Start, now) ∷ xs) in EndsWaiting q.actions q.state.place.core.stage
unfolding told_all
started config job s now xs f r e =
    let o = on config job now s i.Start in
    let h = on_ends config job now s i.Start f r (ap (λ (x : Stage). is_awaited x i.Start) e) in
    (told_by_last config job o.state xs f h.0).1 o.actions h.1

pub waits_by_last : WaitsByLast
waits_by_last config works work now inputs f is =
    let s = (session config works).state in
    let t = begins work.began s in
    let q = told_all config work.job t work.inputs in
    let h = subst (λ (xs : List Moved). EndsWaiting (told_all config work.job t xs).actions
    (told_all config work.job t xs).state.place.core.stage) (sym is)
    (started config work.job t now inputs f (begins_routes work.began s (session_routes config works f)) (begins_stage work.began s)) in
    let e = session_last config works work in (
      q.actions,
      ap (λ (r : Ran). r.actions) e,
      subst (λ (r : Ran). EndsWaiting q.actions r.state.place.core.stage) (sym e) h,
    )

pub goes_on_behind_awaited : GoesOnBehindAwaited
goes_on_behind_awaited config works work input now f y =
    let s = (session config (works ++ work ∷ [])).state in
    let o = on config work.job now s input in
    let h = on_ends config work.job now s input f (session_routes config (works ++ work ∷ []) f) y in
    let e = session_told config works work input now in (
      o.actions,
      ap (λ (r : Ran). r.actions) e,
      subst (λ (r : Ran). EndsWaiting o.actions r.state.place.core.stage) (sym e) h.1,
    )
