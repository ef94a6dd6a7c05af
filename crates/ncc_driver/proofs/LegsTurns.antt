-- What each turn of a session sends.
use Rattle.std.proofs.Common.{◌≡◌, ℕ, Bool, true, false, List, [], ◌∷◌, ◌++◌, Option, Some, Ok, Err}
use Rattle.std.proofs.Common.{refl, sym, ap, ◌∙◌, subst, append_assoc}
use Rattle.std.specs.Prelude.{if◌then◌else◌, length}
use Rattle.std.specs.List.{list_all}
use Rattle.std.proofs.lemmas.Bool.{le-leb}
use Rattle.ncc_bolt.specs.Writing.{fits_request}
use Rattle.ncc_pack.specs.declared.value.Value.{Value}
use Rattle.ncc_pack.specs.declared.value.Value.TheVariants as v
use Rattle.ncc_bolt.specs.Fields.{Pairs}
use Rattle.ncc_bolt.specs.declared.message.Request.{Request}
use Rattle.ncc_bolt.specs.declared.message.Request.TheVariants as r
use Rattle.ncc_route.specs.declared.table.Role.{Role}
use Rattle.rand_pcg.specs.Pcg.{pcg32}
use Rattle.ncc_route.specs.Routing.{picked}
use Rattle.ncc_driver.specs.declared.config.SessionConfig.{SessionConfig}
use Rattle.ncc_driver.specs.declared.standing.Core.{Core}
use Rattle.ncc_driver.specs.declared.standing.Leg.{Leg}
use Rattle.ncc_driver.specs.declared.standing.Leg.TheVariants.{Routing, Working}
use Rattle.ncc_driver.specs.declared.standing.Asked.{Asked}
use Rattle.ncc_driver.specs.declared.standing.Asked.TheVariants as a
use Rattle.ncc_driver.specs.declared.standing.Stage.{Stage}
use Rattle.ncc_driver.specs.declared.standing.Stage.TheVariants as stage
use Rattle.ncc_driver.specs.declared.action.Action.{Action}
use Rattle.ncc_driver.specs.declared.action.Action.TheVariants.{Send, Receive, Finish}
use Rattle.ncc_driver.specs.declared.action.WorkDone.{WorkDone}
use Rattle.ncc_driver.specs.declared.action.WorkError.{WorkError}
use Rattle.ncc_driver.specs.declared.action.WorkError.TheVariants as e
use Rattle.ncc_driver.specs.declared.action.Last.{Last}
use Rattle.ncc_driver.specs.declared.action.Last.TheVariants as last
use Rattle.ncc_driver.specs.declared.answers.Told.{Told}
use Rattle.ncc_driver.specs.declared.answers.Told.TheVariants as says
use Rattle.ncc_driver.specs.declared.work.WorkStep.{WorkStep}
use Rattle.ncc_driver.specs.declared.work.WorkStep.TheVariants as w
use Rattle.ncc_driver.specs.Work.{Row, Job, rows_fit, step_fits}
use Rattle.ncc_driver.specs.Requests.{closes, asks, shakes, shake_bytes, hello, route, begin, run, pull, commit}
use Rattle.ncc_driver.specs.State.{SessionState, Turned}
use Rattle.ncc_driver.specs.Attempts.{goes, before, at_core, awaits, finishes, succeeds, refuses, refutes, retries, sleeps}
use Rattle.ncc_driver.specs.Attempts.{is_spent, done_of}
use Rattle.ncc_driver.specs.Attempts.{drops_table, loses, fails, fails_by, is_transient, is_no_leader, connects, joins, joins_server}
use Rattle.ncc_driver.specs.Attempts.{joins_by, joins_router, router_of, one_more as one_connect, role_of}
use Rattle.ncc_driver.specs.Attempts.{drawn, addresses_in, opened, attempts}
use Rattle.ncc_driver.specs.Attempts.{is_fresh, takes_step, steps_on, pulls, follows_hello}
use Rattle.ncc_driver.specs.Attempts.{follows, behind, so_far, keeps_table}
use Rattle.ncc_driver.specs.LawsLegs.{routing_leg, step_asked, wire, on_link}
use Rattle.ncc_driver.specs.LawsFits.{JobFits, HaveSpelling, AllFit}
use Rattle.ncc_driver.proofs.Kept.{no_rows, left as first, right as second}
use Rattle.ncc_driver.proofs.Sending.{hello_sent, route_sent, begin_sent, pull_sent, run_sent}
use Rattle.ncc_driver.proofs.LegsTold.{Own}
use Rattle.ncc_driver.proofs.LegsTraced.{Trace, traced, traced_all, sent_more, Closes, routes, works}
use Rattle.ncc_driver.proofs.LegsTraced.{Ran, ran_more, steps_part, Sound, silent, both_fit, one_more}

rows_more : (rows : List (List Row)) (last : List Row) → list_all rows_fit rows ≡ true → rows_fit last ≡ true
    → list_all rows_fit (rows ++ last ∷ []) ≡ true
rows_more [] last h f = rw f refl
rows_more (x ∷ rows) last h f =
    rw (first (rows_fit x) (list_all rows_fit rows) h, rows_more rows last (second (rows_fit x) (list_all rows_fit rows) h) f) refl

pub record Steps (config : SessionConfig) (given : List Value) (job : Job) (t : Trace) (told : Option (List (List Row)))
    (step : WorkStep) (last : List Request) : Type 0 where
  pub rows : List (List Row)
  pub told_is : told ≡ Some rows
  pub requests : List Request
  pub ran : Ran job [] rows requests
  pub step_is : job.steps rows ≡ step
  pub rows_are : list_all rows_fit rows ≡ true
  pub fit : JobFits job → HaveSpelling requests
  pub sent_is : t.sent ≡ on_link (hello config.auth t.address ∷ begin given job.writes ∷ requests ++ last)

-- behind a GOODBYE
abbrev pub left : Trace → Trace
left t = record { address = t.address; sent = t.sent ++ wire r.Goodbye ∷ []; joined = t.joined; over = t.over }

module _ (config : SessionConfig) (given : List Value) (job : Job) where
  -- ---- where a session stands on a link

  abbrev pub IsSent : Trace → Type 0
  IsSent t = Sound config.auth t.address given job t.sent

  abbrev pub greeted : List ℕ → List Request
  greeted address = hello config.auth address ∷ []

  abbrev pub in_steps : List ℕ → List Request → List Request → List Request
  in_steps address requests last = hello config.auth address ∷ begin given job.writes ∷ (requests ++ last)

  -- what was sent while the answer of this request is awaited
  abbrev pub SentAt : Trace → Option (List (List Row)) → Asked → Type 0
  SentAt t told (a.Shake leg) = t.sent ≡ on_link []
  SentAt t told (a.Hello leg) = t.sent ≡ on_link (greeted t.address)
  SentAt t told a.Route = t.sent ≡ on_link (routing_leg config.auth t.address)
  SentAt t told a.Begin = t.sent ≡ on_link (hello config.auth t.address ∷ begin given job.writes ∷ [])
  SentAt t told a.Run =
      (query : List ℕ) × (params : Pairs) × Steps config given job t told (w.Run query params) (run query params ∷ [])
  SentAt t told a.Pull =
      (query : List ℕ) × (params : Pairs) × Steps config given job t told (w.Run query params) (run query params ∷ pull ∷ [])
  SentAt t told a.Commit = Steps config given job t told w.Commit (commit ∷ [])

  pub record Open (t : Trace) (bookmarks : List Value) : Type 0 where
    pub leg : IsSent t
    pub over : t.over ≡ false
    pub given_is : bookmarks ≡ given

  pub record OnLink (t : Trace) (p : SessionState) : Type 0 where
    pub open_ : Open t p.core.bookmarks
    pub address_is : p.core.address ≡ t.address
    pub joined : t.joined ≡ true
    pub rows : rows_fit p.core.rows ≡ true

  abbrev pub AtStage : Trace → SessionState → Stage → Type 0
  AtStage t p stage.Rests = IsSent t
  AtStage t p stage.Begun = Open t p.core.bookmarks
  AtStage t p stage.Sleeps = Open t p.core.bookmarks
  AtStage t p (stage.Joins leg) = OnLink t p × (t.sent ≡ [])
  AtStage t p (stage.Awaits asked) = OnLink t p × SentAt t p.told asked

  abbrev pub At : Trace → SessionState → Type 0
  At t p = AtStage t p p.core.stage

  -- ---- what is done on the way

  module _ (C : Trace → WorkDone → Type 0) where
    abbrev pub Says : Trace → Action → Type 0
    Says t (Send bytes) = t.joined ≡ true
    Says t (Finish (Ok done)) = C t done
    Says t _ = Unit {0}

    -- Each front of these actions leaves a leg, nothing is done behind the end, and a success has its cause.
    abbrev pub Along : Trace → List Action → Type 0
    Along t [] = IsSent t
    Along t (action ∷ actions) = IsSent t × (t.over ≡ false) × Says t action × Along (traced t action) actions

    pub record Goes (t : Trace) (u : Turned) : Type 0 where
      pub along : Along t u.actions
      pub at : At (traced_all t u.actions) u.place

    pub along_on : (t : Trace) (xs ys : List Action) → Along t xs → Along (traced_all t xs) ys → Along t (xs ++ ys)
    along_on t [] ys h k = k
    along_on t (x ∷ xs) ys h k = (h.0, h.1, h.2, along_on (traced t x) xs ys h.3 k)

    -- ---- ends

    failed : (t : Trace) (p : SessionState) (error : WorkError) → Open t p.core.bookmarks → Goes t (finishes p (Err error))
    failed t p error o = record { along = (o.leg, o.over, tt, o.leg); at = o.leg }

    slept : (t : Trace) (p : SessionState) (now : ℕ) → Open t p.core.bookmarks → Goes t (sleeps p now)
    slept t p now o = record { along = (o.leg, o.over, tt, o.leg); at = record { leg = o.leg; over = o.over; given_is = o.given_is } }

    retried_by : (t : Trace) (p : SessionState) (now : ℕ) (reason : Last) (spent : Bool) → Open t p.core.bookmarks
        → Goes t (if spent then finishes p (Err (e.RetriesSpent p.core.attempts reason)) else sleeps p now)
    retried_by t p now reason true o = failed t p (e.RetriesSpent p.core.attempts reason) o
    retried_by t p now reason false o = slept t p now o

    retried : (t : Trace) (p : SessionState) (now : ℕ) (reason : Last) → Open t p.core.bookmarks → Goes t (retries p now reason)
    retried t p now reason o = retried_by t p now reason (is_spent now p.core.began) o

    pub lost : (t : Trace) (p : SessionState) (now : ℕ) → Open t p.core.bookmarks → Goes t (loses p now)
    lost t p now o = retried t (drops_table p) now last.LinkLost o

    fell_by : (t : Trace) (p : SessionState) (now : ℕ) (code : List ℕ) (again leaderless : Bool) → Open t p.core.bookmarks
        → Goes t (if again then retries p now (last.Code code) else if leaderless then retries (drops_table p) now (last.Code code)
        else refuses p code)
    fell_by t p now code true leaderless o = retried t p now (last.Code code) o
    fell_by t p now code false true o = retried t (drops_table p) now (last.Code code) o
    fell_by t p now code false false o = failed t p (e.Refused p.core.attempts code) o

    -- ---- a link is closed

    abbrev Ready : Trace → Type 0
    Ready t = AllFit config.auth t.address given job

    hello_fits : (t : Trace) → Ready t → fits_request (hello config.auth t.address) ≡ true
    hello_fits t all = hello_sent (hello config.auth t.address) config.auth t.address refl all.auth_is all.address_is

    route_fits : (t : Trace) → Ready t → fits_request (route t.address) ≡ true
    route_fits t all = route_sent (route t.address) t.address refl all.address_is

    begin_fits : (t : Trace) → Ready t → fits_request (begin given job.writes) ≡ true
    begin_fits t all =
        begin_sent (begin given job.writes) given job.writes refl all.bookmarks_are (le-leb (length given) 256 all.few)

    run_fits : (rows : List (List Row)) (query : List ℕ) (params : Pairs) → list_all rows_fit rows ≡ true
        → job.steps rows ≡ w.Run query params → JobFits job → fits_request (run query params) ≡ true
    run_fits rows query params r e fit =
        run_sent (run query params) query params refl (subst (λ (step : WorkStep). step_fits step ≡ true) e (fit rows r))

    ran_fits : (rows : List (List Row)) (requests : List Request) (query : List ℕ) (params : Pairs) → list_all rows_fit rows ≡ true
        → job.steps rows ≡ w.Run query params → (JobFits job → HaveSpelling requests) → JobFits job
        → HaveSpelling (requests ++ run query params ∷ pull ∷ [])
    ran_fits rows requests query params r e f fit =
        both_fit requests (run query params ∷ pull ∷ []) (f fit)
        (run_fits rows query params r e fit, (pull_sent pull refl, tt))

    closable : (t : Trace) (told : Option (List (List Row))) (asked : Asked) → SentAt t told asked
        → Closes config.auth t.address given job t.sent
    closable t told (a.Shake leg) s =
        routes config.auth t.address given job t.sent [] (routing_leg config.auth t.address) s refl (λ all. tt)
    closable t told (a.Hello leg) s =
        routes config.auth t.address given job t.sent (greeted t.address) (route t.address ∷ []) s refl (λ all. (hello_fits t all, tt))
    closable t told a.Route s =
        routes config.auth t.address given job t.sent (routing_leg config.auth t.address) [] s refl
        (λ all. (hello_fits t all, (route_fits t all, tt)))
    closable t told a.Begin s =
        works config.auth t.address given job t.sent (hello config.auth t.address ∷ begin given job.writes ∷ [])
        (step_asked (job.steps []) []) [] s refl (λ all. (hello_fits t all, (begin_fits t all, tt)))
    closable t told a.Run (query, params, s) =
        works config.auth t.address given job t.sent (in_steps t.address s.requests (run query params ∷ [])) (pull ∷ []) s.rows s.sent_is
        (steps_part job config.auth t.address given s.rows s.requests (w.Run query params) (run query params ∷ []) (pull ∷ []) s.ran
        s.step_is refl)
        (λ all. (
          hello_fits t all,
          (
            begin_fits t all,
            one_more s.requests (run query params) (s.fit all.steps_are) (run_fits s.rows query params s.rows_are s.step_is all.steps_are),
          ),
        ))
    closable t told a.Pull (query, params, s) =
        works config.auth t.address given job t.sent (in_steps t.address s.requests (run query params ∷ pull ∷ [])) [] s.rows s.sent_is
        (steps_part job config.auth t.address given s.rows s.requests (w.Run query params) (run query params ∷ pull ∷ []) [] s.ran
        s.step_is refl)
        (λ all. (
          hello_fits t all,
          (begin_fits t all, ran_fits s.rows s.requests query params s.rows_are s.step_is s.fit all.steps_are),
        ))
    closable t told a.Commit s =
        works config.auth t.address given job t.sent (in_steps t.address s.requests (commit ∷ [])) [] s.rows s.sent_is
        (steps_part job config.auth t.address given s.rows s.requests w.Commit (commit ∷ []) [] s.ran s.step_is refl)
        (λ all. (hello_fits t all, (begin_fits t all, one_more s.requests commit (s.fit all.steps_are) refl)))

    left_open : (t : Trace) (p : SessionState) (asked : Asked) → OnLink t p → SentAt t p.told asked → Open (left t) p.core.bookmarks
    left_open t p asked h s = record {
      leg = (closable t p.told asked s).closed;
      over = h.open_.over;
      given_is = h.open_.given_is;
    }

    closed : (t : Trace) (p : SessionState) (asked : Asked) (u : Turned) → OnLink t p → SentAt t p.told asked → Goes (left t) u
        → Goes t (before closes u)
    closed t p asked u h s g = record {
      along = (h.open_.leg, h.open_.over, h.joined, ((closable t p.told asked s).closed, h.open_.over, tt, g.along));
      at = g.at;
    }

    fell : (t : Trace) (p : SessionState) (asked : Asked) (now : ℕ) (code : List ℕ) → OnLink t p → SentAt t p.told asked
        → Goes t (fails p now code)
    fell t p asked now code h s =
        closed t p asked (fails_by p now code) h s
        (fell_by (left t) p now code (is_transient code) (is_no_leader code) (left_open t p asked h s))

    refuted : (t : Trace) (p : SessionState) (asked : Asked) (number : ℕ) → OnLink t p → SentAt t p.told asked → Goes t (refutes p number)
    refuted t p asked number h s =
        closed t p asked (finishes p (Err (e.BadReply number))) h s
        (failed (left t) p (e.BadReply number) (left_open t p asked h s))

    succeeded : (t : Trace) (p : SessionState) (asked : Asked) (bookmark : List ℕ) → OnLink t p → SentAt t p.told asked
        → C (left t) (done_of p.core bookmark) → Goes t (succeeds p bookmark)
    succeeded t p asked bookmark h s k =
        let o = left_open t p asked h s in
        closed t p asked (finishes (at_core p (record p.core { bookmarks = v.Text bookmark ∷ [] })) (Ok (done_of p.core bookmark))) h s
        (record { along = (o.leg, o.over, k, o.leg); at = o.leg })

    -- ---- who is connected to

    connected : (t : Trace) (p : SessionState) (core : Core) (leg : Leg) (address : List ℕ) → Open t core.bookmarks
        → rows_fit core.rows ≡ true → Goes t (connects p core leg address)
    connected t p core leg address o f =
        let none = silent config.auth address given job in
        record {
          along = (o.leg, o.over, tt, none);
          at = (
            record {
              open_ = record { leg = none; over = o.over; given_is = o.given_is };
              address_is = refl;
              joined = refl;
              rows = f;
            },
            refl,
          );
        }

    joined : (t : Trace) (p : SessionState) (now : ℕ) (role : Role) (core : Core) (found : Option Value) → Open t core.bookmarks
        → rows_fit core.rows ≡ true → Goes t (joins p now role core found)
    joined t p now role core (Some (v.Text address)) o f = connected t p core Working address o f
    joined t p now role core _ o f = retried t (drops_table (at_core p core)) now (last.NoServer role) o

    joined_server : (t : Trace) (writes : Bool) (p : SessionState) (now : ℕ) → Open t p.core.bookmarks → rows_fit p.core.rows ≡ true
        → Goes t (joins_server writes p now)
    joined_server t writes p now o f =
        joined t p now (role_of writes) (drawn p.core) (picked (pcg32 p.core.words).0 (addresses_in (role_of writes) p.core.table)) o f

    joined_by : (t : Trace) (p : SessionState) (core : Core) (found : Option Value) → Open t core.bookmarks → rows_fit core.rows ≡ true
        → AtStage t (at_core p core) core.stage → Goes t (joins_by p core found)
    joined_by t p core (Some (v.Text address)) o f h = connected t p core Routing address o f
    joined_by t p core _ o f h = record { along = o.leg; at = h }

    attempted_by : (t : Trace) (writes : Bool) (p : SessionState) (now : ℕ) (fresh : Bool) → Open t p.core.bookmarks
        → ((q : SessionState) → q.core.bookmarks ≡ p.core.bookmarks → q.core.stage ≡ p.core.stage → At t q)
        → Goes t (if fresh then joins_server writes (opened p) now else joins_router config (opened p))
    attempted_by t writes p now true o h = joined_server t writes (opened p) now o no_rows
    attempted_by t writes p now false o h =
        let q = opened p in
        let core = record q.core { connects = one_connect q.core.connects } in
        joined_by t q core (router_of config q.core) o no_rows (h (at_core q core) refl refl)

    -- Begun or asleep, an attempt begins.
    pub attempted : (t : Trace) (writes : Bool) (p : SessionState) (now : ℕ) → Open t p.core.bookmarks
        → ((q : SessionState) → q.core.bookmarks ≡ p.core.bookmarks → q.core.stage ≡ p.core.stage → At t q)
        → Goes t (attempts config writes p now)
    attempted t writes p now o h = attempted_by t writes p now (is_fresh now p.core.table) o h

    -- ---- what follows an answer

    asked_for : (t : Trace) (p q : SessionState) (asked : Asked) (bytes : List ℕ) → OnLink t p → q.core.bookmarks ≡ p.core.bookmarks
        → q.core.address ≡ p.core.address → rows_fit q.core.rows ≡ true → SentAt (traced t (Send bytes)) q.told asked
        → Goes t (awaits q asked (Send bytes ∷ Receive ∷ []))
    asked_for t p q asked bytes h b k f s =
        let leg = (closable (traced t (Send bytes)) q.told asked s).leg in
        record {
          along = (h.open_.leg, h.open_.over, h.joined, (leg, h.open_.over, tt, leg));
          at = (
            record {
              open_ = record { leg = leg; over = h.open_.over; given_is = b ∙ h.open_.given_is };
              address_is = k ∙ h.address_is;
              joined = h.joined;
              rows = f;
            },
            s,
          );
        }

    pub shaken : (t : Trace) (p : SessionState) (leg : Leg) → OnLink t p → t.sent ≡ [] → Goes t (awaits p (a.Shake leg) shakes)
    shaken t p leg h e =
        asked_for t p p (a.Shake leg) shake_bytes h refl refl h.rows (ap (λ (x : List (List ℕ)). x ++ shake_bytes ∷ []) e)

    said_hello : (t : Trace) (p : SessionState) (leg : Leg) → OnLink t p → t.sent ≡ on_link []
        → Goes t (awaits p (a.Hello leg) (asks (hello config.auth p.core.address)))
    said_hello t p leg h s =
        asked_for t p p (a.Hello leg) _ h refl refl h.rows
        (sent_more t.sent [] (hello config.auth p.core.address) s
        ∙ ap (λ (x : List ℕ). on_link (greeted x)) h.address_is)

    routed : (t : Trace) (p : SessionState) → OnLink t p → t.sent ≡ on_link (greeted t.address)
        → Goes t (awaits p a.Route (asks (route p.core.address)))
    routed t p h s =
        asked_for t p p a.Route _ h refl refl h.rows
        (sent_more t.sent (greeted t.address) (route p.core.address) s
        ∙ ap (λ (x : List ℕ). on_link (hello config.auth t.address ∷ route x ∷ [])) h.address_is)

    begun : (t : Trace) (p : SessionState) → OnLink t p → t.sent ≡ on_link (greeted t.address)
        → Goes t (awaits p a.Begin (asks (begin p.core.bookmarks job.writes)))
    begun t p h s =
        asked_for t p p a.Begin _ h refl refl h.rows
        (sent_more t.sent (greeted t.address) (begin p.core.bookmarks job.writes) s
        ∙ ap (λ (x : List Value). on_link (hello config.auth t.address ∷ begin x job.writes ∷ [])) h.open_.given_is)

    greets : (t : Trace) (p : SessionState) (leg : Leg) → OnLink t p → t.sent ≡ on_link (greeted t.address)
        → Goes t (follows_hello job.writes p leg)
    greets t p Routing h s = routed t p h s
    greets t p Working h s = begun t p h s

    more_sent : (t : Trace) (requests : List Request) (request : Request)
        → t.sent ≡ on_link (hello config.auth t.address ∷ begin given job.writes ∷ requests)
        → t.sent ++ wire request ∷ [] ≡ on_link (hello config.auth t.address ∷ begin given job.writes ∷ requests ++ request ∷ [])
    more_sent t requests request s = sent_more t.sent (hello config.auth t.address ∷ begin given job.writes ∷ requests) request s

    -- the steps so far: they ran, and all that they told and asked has a spelling
    pub record Far (rows : List (List Row)) (requests : List Request) : Type 0 where
      pub ran : Ran job [] rows requests
      pub rows_are : list_all rows_fit rows ≡ true
      pub fit : JobFits job → HaveSpelling requests

    asked_steps : (t : Trace) (rows : List (List Row)) (requests : List Request) (step : WorkStep) (last : Request)
        → Far rows requests → job.steps rows ≡ step
        → t.sent ≡ on_link (hello config.auth t.address ∷ begin given job.writes ∷ requests)
        → Steps config given job (traced t (Send (wire last))) (Some rows) step (last ∷ [])
    asked_steps t rows requests step last n e s = record {
      rows = rows;
      told_is = refl;
      requests = requests;
      ran = n.ran;
      step_is = e;
      rows_are = n.rows_are;
      fit = n.fit;
      sent_is = more_sent t requests last s;
    }

    stepped : (t : Trace) (p : SessionState) (rows : List (List Row)) (requests : List Request) (step : WorkStep) → OnLink t p
        → Far rows requests → job.steps rows ≡ step
        → t.sent ≡ on_link (hello config.auth t.address ∷ begin given job.writes ∷ requests)
        → Goes t (takes_step (record { core = p.core; told = Some rows }) step)
    stepped t p rows requests (w.Run query params) h n e s =
        asked_for t p (record { core = p.core; told = Some rows }) a.Run _ h refl refl h.rows
        (query, params, asked_steps t rows requests (w.Run query params) (run query params) n e s)
    stepped t p rows requests w.Commit h n e s =
        asked_for t p (record { core = p.core; told = Some rows }) a.Commit _ h refl refl h.rows
        (asked_steps t rows requests w.Commit commit n e s)

    steps_go : (t : Trace) (p : SessionState) (rows : List (List Row)) (requests : List Request) → OnLink t p → Far rows requests
        → t.sent ≡ on_link (hello config.auth t.address ∷ begin given job.writes ∷ requests) → Goes t (steps_on job p rows)
    steps_go t p rows requests h n s = stepped t p rows requests (job.steps rows) h n refl s

    pulled : (t : Trace) (p : SessionState) → OnLink t p → SentAt t p.told a.Run → Goes t (pulls p)
    pulled t p h (query, params, s) =
        asked_for t p (at_core p (record p.core { rows = [] })) a.Pull _ h refl refl no_rows (
          query,
          params,
          record {
            rows = s.rows;
            told_is = s.told_is;
            requests = s.requests;
            ran = s.ran;
            step_is = s.step_is;
            rows_are = s.rows_are;
            fit = s.fit;
            sent_is = more_sent t (s.requests ++ run query params ∷ []) pull s.sent_is
                ∙ ap (λ (x : List Request). on_link (hello config.auth t.address ∷ begin given job.writes ∷ x))
                (append_assoc s.requests (run query params ∷ []) (pull ∷ []));
          },
        )

    one_step_more : (t : Trace) (told : Option (List (List Row))) (rows : List Row) (query : List ℕ) (params : Pairs)
        → (s : Steps config given job t told (w.Run query params) (run query params ∷ pull ∷ [])) → rows_fit rows ≡ true
        → Far (s.rows ++ rows ∷ []) (s.requests ++ run query params ∷ pull ∷ [])
    one_step_more t told rows query params s f = record {
      ran = ran_more job [] s.rows s.requests rows query params s.ran s.step_is;
      rows_are = rows_more s.rows rows s.rows_are f;
      fit = ran_fits s.rows s.requests query params s.rows_are s.step_is s.fit;
    }

    went_on : (t : Trace) (p : SessionState) → OnLink t p → SentAt t p.told a.Pull
        → Goes t (steps_on job p (so_far p.told ++ p.core.rows ∷ []))
    went_on t p h (query, params, s) =
        let same : s.rows ≡ so_far p.told = sym (ap so_far s.told_is) in
        let requests = s.requests ++ run query params ∷ pull ∷ [] in
        steps_go t p (so_far p.told ++ p.core.rows ∷ []) requests h
        (subst (λ (x : List (List Row)). Far (x ++ p.core.rows ∷ []) requests) same
        (one_step_more t p.told p.core.rows query params s h.rows)) s.sent_is

    -- what is awaited stays so
    stays : (t : Trace) (p q : SessionState) (asked : Asked) → q.core.stage ≡ stage.Awaits asked → OnLink t p
        → q.core.bookmarks ≡ p.core.bookmarks → q.core.address ≡ p.core.address → rows_fit q.core.rows ≡ true
        → SentAt t q.told asked → Goes t (goes q [])
    stays t p q asked e h b k f s = record {
      along = h.open_.leg;
      at = subst (λ (x : Stage). AtStage t q x) (sym e) (
        record {
          open_ = record { leg = h.open_.leg; over = h.open_.over; given_is = b ∙ h.open_.given_is };
          address_is = k ∙ h.address_is;
          joined = h.joined;
          rows = f;
        },
        s,
      );
    }

    no_steps : Far [] []
    no_steps = record { ran = refl; rows_are = refl; fit = λ j. tt }

    followed : (t : Trace) (p : SessionState) (asked : Asked) → p.core.stage ≡ stage.Awaits asked → OnLink t p → SentAt t p.told asked
        → Goes t (follows config job p asked)
    followed t p (a.Shake leg) e h s = said_hello t p leg h s
    followed t p (a.Hello leg) e h s = greets t p leg h s
    followed t p a.Begin e h s = steps_go t p [] [] h no_steps s
    followed t p a.Run e h s = pulled t p h s
    followed t p a.Pull e h s = went_on t p h s
    followed t p a.Route e h s = stays t p p a.Route e h refl refl h.rows s
    followed t p a.Commit e h s = stays t p p a.Commit e h refl refl h.rows s

    -- The success of COMMIT has its cause.
    abbrev pub Causes : Trace → SessionState → Asked → Told → Type 0
    Causes t p asked told =
        (bookmark : List ℕ) → told ≡ says.Committed bookmark → SentAt t p.told asked → C (left t) (done_of p.core bookmark)

    pub answered : (now : ℕ) (t : Trace) (p : SessionState) (asked : Asked) (number : ℕ) (told : Told) → p.core.stage ≡ stage.Awaits asked
        → OnLink t p → SentAt t p.told asked → Own p.core.rows asked told → Causes t p asked told
        → Goes t (behind config job now p asked number told)
    answered now t p asked number says.Done e h s o c = followed t p asked e h s
    answered now t p asked number (says.Row fields) e h s o c =
        stays t p (at_core p (record p.core { rows = p.core.rows ++ fields ∷ [] })) asked e h refl refl o s
    answered now t p asked number (says.Routed table) e h s o c =
        closed t p asked (joins_server job.writes (keeps_table p table) now) h s
        (joined_server (left t) job.writes (keeps_table p table) now (left_open t p asked h s) h.rows)
    answered now t p asked number (says.Committed bookmark) e h s o c = succeeded t p asked bookmark h s (c bookmark refl s)
    answered now t p asked number (says.Failed code) e h s o c = fell t p asked now code h s
    answered now t p asked number says.Bad e h s o c = refuted t p asked number h s
