-- When a session connects, and when it succeeds.
use Rattle.std.proofs.Common.{◌≡◌, ◌⊎◌, inl, inr, ℕ, Bool, true, false, List, [], ◌∷◌, ◌++◌, drop, Option, Some, Ok, Err}
use Rattle.std.proofs.Common.{refl, sym, ap, ◌∙◌, subst, append-nil, append_assoc}
use Rattle.std.specs.Prelude.{if◌then◌else◌, IsTrue}
use Rattle.ncc_pack.specs.declared.value.Value.{Value}
use Rattle.ncc_pack.specs.declared.value.Value.TheVariants as v
use Rattle.rand_pcg.specs.Pcg.{pcg32}
use Rattle.ncc_route.specs.Routing.{picked}
use Rattle.ncc_route.specs.declared.table.Role.{Role}
use Rattle.ncc_driver.specs.declared.config.SessionConfig.{SessionConfig}
use Rattle.ncc_driver.specs.declared.standing.Core.{Core}
use Rattle.ncc_driver.specs.declared.standing.Leg.{Leg}
use Rattle.ncc_driver.specs.declared.standing.Leg.TheVariants.{Routing, Working}
use Rattle.ncc_driver.specs.declared.standing.Asked.{Asked}
use Rattle.ncc_driver.specs.declared.standing.Asked.TheVariants as a
use Rattle.ncc_driver.specs.declared.standing.Stage.{Stage}
use Rattle.ncc_driver.specs.declared.standing.Stage.TheVariants as stage
use Rattle.ncc_driver.specs.declared.link.Item.{Item}
use Rattle.ncc_driver.specs.declared.action.Action.{Action}
use Rattle.ncc_driver.specs.declared.action.Action.TheVariants.{Connect, Send, Close, Sleep, Receive, Finish}
use Rattle.ncc_driver.specs.declared.action.Input.{Input}
use Rattle.ncc_driver.specs.declared.action.Input.TheVariants as i
use Rattle.ncc_driver.specs.declared.action.WorkDone.{WorkDone}
use Rattle.ncc_driver.specs.declared.action.WorkError.TheVariants as e
use Rattle.ncc_driver.specs.declared.action.Last.{Last}
use Rattle.ncc_driver.specs.declared.action.Last.TheVariants as last
use Rattle.ncc_driver.specs.declared.answers.Told.{Told}
use Rattle.ncc_driver.specs.declared.answers.Told.TheVariants as says
use Rattle.ncc_driver.specs.declared.work.WorkStep.{WorkStep}
use Rattle.ncc_driver.specs.declared.work.WorkStep.TheVariants as w
use Rattle.ncc_driver.specs.Work.{Job}
use Rattle.ncc_driver.specs.Requests.{closes}
use Rattle.ncc_driver.specs.State.{SessionState, Turned}
use Rattle.ncc_driver.specs.Attempts.{before, at_core, finishes, refuses, retries, sleeps, is_spent, drops_table, fails_by}
use Rattle.ncc_driver.specs.Attempts.{is_transient, is_no_leader, joins, joins_server, joins_by, joins_router, router_of, one_more, role_of}
use Rattle.ncc_driver.specs.Attempts.{drawn, addresses_in, opened, attempts, is_fresh, takes_step, follows_hello, follows, keeps_table}
use Rattle.ncc_driver.specs.Attempts.{behind, so_far}
use Rattle.ncc_driver.specs.Session.{Listening, Standing, State, told_by, answered, listening, items_of, or_more, hears, on_input, on}
use Rattle.ncc_driver.specs.Laws.{linked_by, unless_lost, is_awaited}
use Rattle.ncc_driver.specs.LawsLegs.{opens_none}
use Rattle.ncc_driver.specs.LawsJoins.{ConnectsLast, JoinsBehindConnect, SucceedsOnBytes}
use Rattle.ncc_driver.proofs.LawsTurns.{is_asking, has_link, answered as makes_answered}
use Rattle.ncc_driver.proofs.LawsMakes.{asking_linked, linked_on}
use Rattle.ncc_driver.proofs.LawsHearing.{next, hear, hear_not, going_is, walk}

-- ---- where a Connect stands

none_tail : (x : Action) (xs : List Action) → IsTrue (opens_none (x ∷ xs)) → IsTrue (opens_none xs)
none_tail (Connect address) xs n = absurd (cc)
none_tail (Send bytes) xs n = n
none_tail Close xs n = n
none_tail (Sleep until) xs n = n
none_tail Receive xs n = n
none_tail (Finish end) xs n = n

none_on : (xs ys : List Action) → IsTrue (opens_none xs) → IsTrue (opens_none ys) → IsTrue (opens_none (xs ++ ys))
none_on [] ys h k = k
none_on (Connect address ∷ xs) ys h k = absurd (cc)
none_on (Send bytes ∷ xs) ys h k = none_on xs ys h k
none_on (Close ∷ xs) ys h k = none_on xs ys h k
none_on (Sleep until ∷ xs) ys h k = none_on xs ys h k
none_on (Receive ∷ xs) ys h k = none_on xs ys h k
none_on (Finish end ∷ xs) ys h k = none_on xs ys h k

has_one : (front : List Action) (address : List ℕ) (back : List Action) → IsTrue (opens_none (front ++ Connect address ∷ back)) → ⊥
has_one [] address back n = absurd (cc)
has_one (x ∷ front) address back n = has_one front address back (none_tail x (front ++ Connect address ∷ back) n)

not_nothing : (front : List Action) (x : Action) (back : List Action) → front ++ x ∷ back ≡ [] → ⊥
not_nothing [] x back e = absurd (cc)
not_nothing (y ∷ front) x back e = absurd (cc)

one_place : (front ys : List Action) (address to : List ℕ) (back : List Action)
    → front ++ Connect address ∷ back ≡ ys ++ Connect to ∷ [] → IsTrue (opens_none ys) → (front ≡ ys) × (back ≡ [])
one_place [] [] address to back e n = (refl, cc)
one_place [] (y ∷ ys) address to back e n =
    let same : Connect address ≡ y = cc in
    absurd (has_one [] address ys (subst (λ (x : Action). IsTrue (opens_none (x ∷ ys))) (sym same) n))
one_place (x ∷ front) [] address to back e n =
    let none : front ++ Connect address ∷ back ≡ [] = cc in absurd (not_nothing front (Connect address) back none)
one_place (x ∷ front) (y ∷ ys) address to back e n =
    let first : x ≡ y = cc in
    let tail : front ++ Connect address ∷ back ≡ ys ++ Connect to ∷ [] = cc in
    let more = one_place front ys address to back tail (none_tail y ys n) in
    (ap (λ (z : Action). z ∷ front) first ∙ ap (λ (zs : List Action). y ∷ zs) more.0, more.1)

-- ---- what actions open

-- No link is opened, and a link is waited for only where it was; or one is opened at the end, where none is there.
abbrev Opens : Stage → Bool → SessionState → List Action → Type 0
Opens st linked q xs =
    (IsTrue (opens_none xs) × ((leg : Leg) → q.core.stage ≡ stage.Joins leg → st ≡ stage.Joins leg))
    ⊎ ((ys : List Action) × (address : List ℕ) × (leg : Leg) × (xs ≡ ys ++ Connect address ∷ []) × IsTrue (opens_none ys)
    × (linked_by linked ys ≡ false) × (q.core.stage ≡ stage.Joins leg))

abbrev OpensBy : Stage → Bool → Turned → Type 0
OpensBy st linked t = Opens st linked t.place t.actions

retried_by : (st : Stage) (linked : Bool) (p : SessionState) (now : ℕ) (reason : Last) (spent : Bool)
    → OpensBy st linked (if spent then finishes p (Err (e.RetriesSpent p.core.attempts reason)) else sleeps p now)
retried_by st linked p now reason true = inl (refl, λ leg e. absurd (cc))
retried_by st linked p now reason false = inl (refl, λ leg e. absurd (cc))

retried : (st : Stage) (linked : Bool) (p : SessionState) (now : ℕ) (reason : Last) → OpensBy st linked (retries p now reason)
retried st linked p now reason = retried_by st linked p now reason (is_spent now p.core.began)

closed : (st : Stage) (t : Turned) → OpensBy st false t → OpensBy st true (before closes t)
closed st t (inl (n, k)) = inl (n, k)
closed st t (inr (ys, address, leg, is, n, l, at)) =
    inr (closes ++ ys, address, leg, ap (λ (x : List Action). closes ++ x) is, n, l, at)

fell_by : (st : Stage) (p : SessionState) (now : ℕ) (code : List ℕ) (again leaderless : Bool)
    → OpensBy st false (if again then retries p now (last.Code code) else if leaderless then retries (drops_table p) now (last.Code code)
    else refuses p code)
fell_by st p now code true leaderless = retried st false p now (last.Code code)
fell_by st p now code false true = retried st false (drops_table p) now (last.Code code)
fell_by st p now code false false = inl (refl, λ leg e. absurd (cc))

joined : (st : Stage) (p : SessionState) (now : ℕ) (role : Role) (core : Core) (found : Option Value)
    → OpensBy st false (joins p now role core found)
joined st p now role core (Some (v.Text address)) = inr ([], address, Working, refl, refl, refl, refl)
joined st p now role core _ = retried st false (drops_table (at_core p core)) now (last.NoServer role)

joined_server : (st : Stage) (writes : Bool) (p : SessionState) (now : ℕ) → OpensBy st false (joins_server writes p now)
joined_server st writes p now =
    joined st p now (role_of writes) (drawn p.core) (picked (pcg32 p.core.words).0 (addresses_in (role_of writes) p.core.table))

joined_by : (st : Stage) (p : SessionState) (core : Core) (found : Option Value) → core.stage ≡ st → OpensBy st false (joins_by p core found)
joined_by st p core (Some (v.Text address)) s = inr ([], address, Routing, refl, refl, refl, refl)
joined_by st p core _ s = inl (refl, λ leg e. sym s ∙ e)

attempted_by : (config : SessionConfig) (st : Stage) (writes : Bool) (p : SessionState) (now : ℕ) (fresh : Bool) → p.core.stage ≡ st
    → OpensBy st false (if fresh then joins_server writes (opened p) now else joins_router config (opened p))
attempted_by config st writes p now true s = joined_server st writes (opened p) now
attempted_by config st writes p now false s =
    let q = opened p in
    joined_by st q (record q.core { connects = one_more q.core.connects }) (router_of config q.core) s

attempted : (config : SessionConfig) (st : Stage) (writes : Bool) (p : SessionState) (now : ℕ) → p.core.stage ≡ st
    → OpensBy st false (attempts config writes p now)
attempted config st writes p now s = attempted_by config st writes p now (is_fresh now p.core.table) s

stepped : (st : Stage) (p : SessionState) (step : WorkStep) → OpensBy st true (takes_step p step)
stepped st p (w.Run query params) = inl (refl, λ leg e. absurd (cc))
stepped st p w.Commit = inl (refl, λ leg e. absurd (cc))

greeted : (st : Stage) (writes : Bool) (p : SessionState) (leg : Leg) → OpensBy st true (follows_hello writes p leg)
greeted st writes p Routing = inl (refl, λ leg e. absurd (cc))
greeted st writes p Working = inl (refl, λ leg e. absurd (cc))

followed : (config : SessionConfig) (job : Job) (st : Stage) (p : SessionState) (asked : Asked) → p.core.stage ≡ st
    → OpensBy st true (follows config job p asked)
followed config job st p (a.Shake leg) s = inl (refl, λ leg e. absurd (cc))
followed config job st p (a.Hello leg) s = greeted st job.writes p leg
followed config job st p a.Begin s = stepped st (record { core = p.core; told = Some [] }) (job.steps [])
followed config job st p a.Run s = inl (refl, λ leg e. absurd (cc))
followed config job st p a.Pull s =
    let told = so_far p.told ++ p.core.rows ∷ [] in stepped st (record { core = p.core; told = Some told }) (job.steps told)
followed config job st p a.Route s = inl (refl, λ leg e. sym s ∙ e)
followed config job st p a.Commit s = inl (refl, λ leg e. sym s ∙ e)

answer_opens : (config : SessionConfig) (job : Job) (now : ℕ) (st : Stage) (p : SessionState) (asked : Asked) (number : ℕ) (told : Told)
    → p.core.stage ≡ st → OpensBy st true (behind config job now p asked number told)
answer_opens config job now st p asked number says.Done s = followed config job st p asked s
answer_opens config job now st p asked number (says.Row fields) s = inl (refl, λ leg e. sym s ∙ e)
answer_opens config job now st p asked number (says.Routed table) s =
    closed st (joins_server job.writes (keeps_table p table) now) (joined_server st job.writes (keeps_table p table) now)
answer_opens config job now st p asked number (says.Committed bookmark) s = inl (refl, λ leg e. absurd (cc))
answer_opens config job now st p asked number (says.Failed code) s =
    closed st (fails_by p now code) (fell_by st p now code (is_transient code) (is_no_leader code))
answer_opens config job now st p asked number says.Bad s = inl (refl, λ leg e. absurd (cc))

-- ---- what is heard

joins_asks : (st : Stage) (leg : Leg) → st ≡ stage.Joins leg → is_asking st ≡ true → ⊥
joins_asks st leg e f = let g : is_asking (stage.Joins leg) ≡ true = subst (λ (x : Stage). is_asking x ≡ true) e f in absurd (cc)

-- more is done where nothing was opened and an answer is awaited still
more_opens : (st mid : Stage) (p q : SessionState) (xs ys : List Action) → p.core.stage ≡ mid → is_asking mid ≡ true
    → linked_by true xs ≡ true → Opens st true p xs → Opens mid true q ys → Opens st true q (xs ++ ys)
more_opens st mid p q xs ys m f l (inr (zs, address, leg, is, n, k, at)) h = absurd (joins_asks mid leg (sym m ∙ at) f)
more_opens st mid p q xs ys m f l (inl (n, k)) (inl (n', k')) =
    inl (none_on xs ys n n', λ leg e. absurd (joins_asks mid leg (k' leg e) f))
more_opens st mid p q xs ys m f l (inl (n, k)) (inr (zs, address, leg, is, n', j, at)) =
    inr (
      xs ++ zs,
      address,
      leg,
      ap (λ (x : List Action). xs ++ x) is ∙ sym (append_assoc xs zs (Connect address ∷ [])),
      none_on xs zs n n',
      linked_on true xs zs ∙ ap (λ (b : Bool). linked_by b zs) l ∙ j,
      at,
    )

module _ (config : SessionConfig) (job : Job) (now : ℕ) where
  abbrev Hears : Listening → List Item → Standing → Type 0
  Hears l items r = is_asking l.place.core.stage ≡ true → Opens l.place.core.stage true r.core.place r.written

  hears_on : (l : Listening) (asked : Asked) (item : Item) (items : List Item) (again : Bool)
      → let k = next config job now l asked item in let t = answered config job now l asked item in
      is_asking k.place.core.stage ≡ again → has_link k.place.core.stage ≡ linked_by true t.actions
      → OpensBy l.place.core.stage true t → Hears k items (hear config job now k items)
      → Opens l.place.core.stage true (hear config job now k items).core.place (t.actions ++ (hear config job now k items).written)
  hears_on l asked item items true e link h ih =
      let k = next config job now l asked item in
      let t = answered config job now l asked item in
      let r = hear config job now k items in
      more_opens l.place.core.stage k.place.core.stage k.place r.core.place t.actions r.written refl e
      (sym link ∙ asking_linked k.place.core.stage e) h (ih e)
  hears_on l asked item items false e link h ih =
      let k = next config job now l asked item in
      let t = answered config job now l asked item in
      subst (λ (r : Standing). Opens l.place.core.stage true r.core.place (t.actions ++ r.written))
      (sym (hear_not config job now k items e))
      (subst (λ (x : List Action). Opens l.place.core.stage true k.place x) (sym (append-nil t.actions)) h)

  heard : (l : Listening) (items : List Item) → Hears l items (hear config job now l items)
  heard = walk config job now Hears
      (λ l e. inl (refl, λ leg f. f))
      (λ l asked item items e ih g.
      let told = told_by asked now l.place.core.rows item in
      hears_on l asked item items (is_asking (next config job now l asked item).place.core.stage) refl
      (makes_answered config job now l.place asked _ told true (asking_linked l.place.core.stage g) refl g).link
      (answer_opens config job now l.place.core.stage l.place asked _ told refl) ih)
      (λ l item items f e. inl (refl, λ leg g. g))

  more_or : (st : Stage) (q : SessionState) (actions : List Action) → Opens st true q actions → Opens st true q (or_more actions)
  more_or st q [] (inl (n, k)) = inl (refl, k)
  more_or st q [] (inr (ys, address, leg, is, n, l, at)) = absurd (not_nothing ys (Connect address) [] (sym is))
  more_or st q (action ∷ actions) h = h

  hears_open : (s : State) (bytes : List ℕ) → is_asking s.place.core.stage ≡ true
      → Opens s.place.core.stage true (hears config job now s bytes).state.place (hears config job now s bytes).actions
  hears_open s bytes e =
      let items = drop s.taken (items_of (s.came ++ bytes)) in
      subst (λ (r : Standing). Opens s.place.core.stage true r.core.place (or_more r.written))
      (sym (going_is config job now (listening s) items))
      (let r = hear config job now (listening s) items in
      more_or s.place.core.stage r.core.place r.written (heard (listening s) items e))

  -- ---- inputs

  input_opens : (s : State) (st : Stage) (input : Input) → s.place.core.stage ≡ st
      → let r = on_input config job now s st input in
      Opens st (unless_lost input (is_awaited st i.Lost)) r.state.place r.actions
  input_opens s stage.Begun i.Start e = attempted config stage.Begun job.writes s.place now e
  input_opens s stage.Sleeps i.Woken e = attempted config stage.Sleeps job.writes s.place now e
  input_opens s (stage.Joins leg) i.Connected e = inl (refl, λ leg e. absurd (cc))
  input_opens s (stage.Joins leg) i.Lost e = retried (stage.Joins leg) false (drops_table s.place) now last.LinkLost
  input_opens s (stage.Awaits asked) (i.Bytes bytes) e =
      subst (λ (x : Stage). Opens x true (hears config job now s bytes).state.place (hears config job now s bytes).actions) e
      (hears_open s bytes (ap is_asking e))
  input_opens s (stage.Awaits asked) i.Lost e = retried (stage.Awaits asked) false (drops_table s.place) now last.LinkLost
  input_opens s _ input e = inl (refl, λ leg f. sym e ∙ f)

  opens : (s : State) (input : Input)
      → let r = on config job now s input in
      Opens s.place.core.stage (unless_lost input (is_awaited s.place.core.stage i.Lost)) r.state.place r.actions
  unfolding on
  opens s input = input_opens s s.place.core.stage input refl

abbrev IsLast : Bool → SessionState → List Action → Type 0
IsLast linked q xs =
    (front : List Action) (address : List ℕ) (back : List Action) → xs ≡ front ++ Connect address ∷ back
    → (back ≡ []) × ((leg : Leg) × (q.core.stage ≡ stage.Joins leg)) × (linked_by linked front ≡ false)

last_by : (st : Stage) (linked : Bool) (q : SessionState) (xs : List Action) → Opens st linked q xs → IsLast linked q xs
last_by st linked q xs (inl (n, k)) front address back e =
    absurd (has_one front address back (subst (λ (x : List Action). IsTrue (opens_none x)) e n))
last_by st linked q xs (inr (ys, to, leg, is, n, l, at)) front address back e =
    let one = one_place front ys address to back (sym e ∙ is) n in
    (one.1, (leg, at), ap (λ (x : List Action). linked_by linked x) one.0 ∙ l)

pub connects_last : ConnectsLast
connects_last config job now s input front address back e =
    let r = on config job now s input in
    last_by s.place.core.stage (unless_lost input (is_awaited s.place.core.stage i.Lost)) r.state.place r.actions
    (opens config job now s input) front address back e

waits_by : (st : Stage) (linked : Bool) (q : SessionState) (xs : List Action) (leg : Leg) → Opens st linked q xs
    → q.core.stage ≡ stage.Joins leg
    → ((front : List Action) × (address : List ℕ) × (xs ≡ front ++ Connect address ∷ [])) ⊎ (st ≡ stage.Joins leg)
waits_by st linked q xs leg (inl (n, k)) e = inr (k leg e)
waits_by st linked q xs leg (inr (ys, to, to_leg, is, n, l, at)) e = inl (ys, to, is)

pub joins_behind_connect : JoinsBehindConnect
joins_behind_connect config job now s input leg e =
    let r = on config job now s input in
    waits_by s.place.core.stage (unless_lost input (is_awaited s.place.core.stage i.Lost)) r.state.place r.actions leg
    (opens config job now s input) e

-- ---- success

abbrev no_success : List Action → Bool
no_success [] = true
no_success (Finish (Ok done) ∷ actions) = false
no_success (action ∷ actions) = no_success actions

has_success : (front : List Action) (done : WorkDone) (back : List Action) → no_success (front ++ Finish (Ok done) ∷ back) ≡ true → ⊥
has_success [] done back h = absurd (cc)
has_success (Connect address ∷ front) done back h = has_success front done back h
has_success (Send bytes ∷ front) done back h = has_success front done back h
has_success (Close ∷ front) done back h = has_success front done back h
has_success (Sleep until ∷ front) done back h = has_success front done back h
has_success (Receive ∷ front) done back h = has_success front done back h
has_success (Finish (Ok other) ∷ front) done back h = absurd (cc)
has_success (Finish (Err error) ∷ front) done back h = has_success front done back h

fails_retry : (p : SessionState) (now : ℕ) (reason : Last) (spent : Bool)
    → no_success (if spent then finishes p (Err (e.RetriesSpent p.core.attempts reason)) else sleeps p now).actions ≡ true
fails_retry p now reason true = refl
fails_retry p now reason false = refl

fails_joins : (p : SessionState) (now : ℕ) (role : Role) (core : Core) (found : Option Value)
    → no_success (joins p now role core found).actions ≡ true
fails_joins p now role core (Some (v.Text address)) = refl
fails_joins p now role core _ =
    let q = drops_table (at_core p core) in fails_retry q now (last.NoServer role) (is_spent now q.core.began)

fails_router : (p : SessionState) (core : Core) (found : Option Value) → no_success (joins_by p core found).actions ≡ true
fails_router p core (Some (v.Text address)) = refl
fails_router p core _ = refl

fails_attempt : (config : SessionConfig) (writes : Bool) (p : SessionState) (now : ℕ) (fresh : Bool)
    → no_success (if fresh then joins_server writes (opened p) now else joins_router config (opened p)).actions ≡ true
fails_attempt config writes p now true =
    let q = opened p in
    fails_joins q now (role_of writes) (drawn q.core) (picked (pcg32 q.core.words).0 (addresses_in (role_of writes) q.core.table))
fails_attempt config writes p now false =
    let q = opened p in fails_router q (record q.core { connects = one_more q.core.connects }) (router_of config q.core)

-- An answer was awaited and bytes came, or nothing succeeds.
abbrev Succeeds : Stage → Input → List Action → Type 0
Succeeds st input actions =
    (((asked : Asked) × (st ≡ stage.Awaits asked)) × ((bytes : List ℕ) × (input ≡ i.Bytes bytes))) ⊎ (no_success actions ≡ true)

input_succeeds : (config : SessionConfig) (job : Job) (now : ℕ) (s : State) (st : Stage) (input : Input)
    → Succeeds st input (on_input config job now s st input).actions
input_succeeds config job now s stage.Begun i.Start =
    inr (fails_attempt config job.writes s.place now (is_fresh now s.place.core.table))
input_succeeds config job now s stage.Sleeps i.Woken =
    inr (fails_attempt config job.writes s.place now (is_fresh now s.place.core.table))
input_succeeds config job now s (stage.Joins leg) i.Connected = inr refl
input_succeeds config job now s (stage.Joins leg) i.Lost =
    let q = drops_table s.place in inr (fails_retry q now last.LinkLost (is_spent now q.core.began))
input_succeeds config job now s (stage.Awaits asked) (i.Bytes bytes) = inl ((asked, refl), (bytes, refl))
input_succeeds config job now s (stage.Awaits asked) i.Lost =
    let q = drops_table s.place in inr (fails_retry q now last.LinkLost (is_spent now q.core.began))
input_succeeds config job now s _ input = inr refl

succeeds_by : (st : Stage) (input : Input) (actions front : List Action) (done : WorkDone) (back : List Action)
    → Succeeds st input actions → actions ≡ front ++ Finish (Ok done) ∷ back
    → ((asked : Asked) × (st ≡ stage.Awaits asked)) × ((bytes : List ℕ) × (input ≡ i.Bytes bytes))
succeeds_by st input actions front done back (inl h) e = h
succeeds_by st input actions front done back (inr h) e =
    absurd (has_success front done back (sym (ap no_success e) ∙ h))

pub succeeds_on_bytes : SucceedsOnBytes
unfolding on
succeeds_on_bytes config job now s input front done back e =
    succeeds_by s.place.core.stage input (on_input config job now s s.place.core.stage input).actions front done back
    (input_succeeds config job now s s.place.core.stage input) e
