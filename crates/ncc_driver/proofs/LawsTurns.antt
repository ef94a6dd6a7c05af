-- What each turn of a session keeps: what is presented, the moment at which the work began, the table, and whether a link is there.
use Rattle.std.proofs.Common.{◌≡◌, ◌≢◌, ℕ, Bool, true, false, List, [], ◌∷◌, ◌++◌, Option, Some, refl, sym, ap, ◌∙◌, subst}
use Rattle.std.proofs.Common.{suc, length, take, drop, get_or}
use Rattle.std.specs.Prelude.{Err, if◌then◌else◌, nat_lt}
use Rattle.ncc_pack.specs.declared.value.Value.{Value}
use Rattle.ncc_pack.specs.declared.value.Value.TheVariants as v
use Rattle.ncc_bolt.specs.Fields.{Pairs}
use Rattle.ncc_bolt.specs.Writing.{short_request}
use Rattle.ncc_bolt.specs.declared.message.Request.{Request}
use Rattle.ncc_bolt.specs.declared.message.Request.TheVariants as r
use Rattle.ncc_chunk.specs.Chunked.{most, chunk_of, chunks_by, chunks_of, chunked}
use Rattle.ncc_route.specs.declared.table.Table.{Table}
use Rattle.ncc_route.specs.declared.auth.Auth.{Auth}
use Rattle.ncc_route.specs.declared.table.Role.{Role}
use Rattle.ncc_driver.specs.declared.config.SessionConfig.{SessionConfig}
use Rattle.ncc_driver.specs.declared.standing.Core.{Core}
use Rattle.ncc_driver.specs.declared.standing.Leg.{Leg}
use Rattle.ncc_driver.specs.declared.standing.Leg.TheVariants.{Routing, Working}
use Rattle.ncc_driver.specs.declared.standing.Asked.{Asked}
use Rattle.ncc_driver.specs.declared.standing.Asked.TheVariants as a
use Rattle.ncc_driver.specs.declared.standing.Stage.{Stage}
use Rattle.ncc_driver.specs.declared.standing.Stage.TheVariants as stage
use Rattle.ncc_driver.specs.declared.action.Action.{Action}
use Rattle.ncc_driver.specs.declared.action.Action.TheVariants.{Send, Close, Receive, Finish}
use Rattle.ncc_driver.specs.declared.action.Input.TheVariants as i
use Rattle.ncc_driver.specs.declared.action.WorkError.{WorkError}
use Rattle.ncc_driver.specs.declared.action.WorkError.TheVariants as e
use Rattle.ncc_driver.specs.declared.action.Last.{Last}
use Rattle.ncc_driver.specs.declared.action.Last.TheVariants as last
use Rattle.ncc_driver.specs.declared.answers.Told.{Told}
use Rattle.ncc_driver.specs.declared.answers.Told.TheVariants as says
use Rattle.ncc_driver.specs.declared.work.WorkStep.{WorkStep}
use Rattle.ncc_driver.specs.declared.work.WorkStep.TheVariants as w
use Rattle.ncc_driver.specs.Work.{Row, Job}
use Rattle.ncc_driver.specs.Requests.{sent, begin, closes, asks, shakes, hello, route, run, pull, commit}
use Rattle.ncc_driver.specs.State.{SessionState, Turned}
use Rattle.ncc_driver.specs.Attempts.{goes, before, at_core, awaits, finishes, succeeds, refuses, retries, sleeps, is_spent}
use Rattle.ncc_driver.specs.Attempts.{drops_table, loses}
use Rattle.ncc_driver.specs.Attempts.{fails, is_transient, is_no_leader, connects, joins, joins_server, joins_by, joins_router, opened}
use Rattle.ncc_driver.specs.Attempts.{attempts, is_fresh, takes_step, steps_on, pulls, follows_hello, follows, keeps_row}
use Rattle.ncc_driver.specs.Attempts.{keeps_and_joins, behind}
use Rattle.ncc_driver.specs.Attempts.{so_far, keeps_table}
use Rattle.ncc_driver.specs.Laws.{presented, is_awaited, linked_by}

-- ---- what a request is sent as begins with its marker and tag

tag_by : (n a b : ℕ) (rest : List ℕ) (long : Bool)
    → get_or ((if long then chunk_of (take most (a ∷ b ∷ rest)) ++ chunks_by n (drop most (a ∷ b ∷ rest)) else chunk_of (a ∷ b ∷ rest))
    ++ 0 ∷ 0 ∷ []) 3 0 ≡ b
tag_by n a b rest true = refl
tag_by n a b rest false = refl

tag_in : (a b : ℕ) (rest : List ℕ) → get_or (chunked (a ∷ b ∷ rest)) 3 0 ≡ b
unfolding chunks_of chunks_by
tag_in a b rest = tag_by (suc (length rest)) a b rest (nat_lt most (length (a ∷ b ∷ rest)))

abbrev tag_of : Action → ℕ
tag_of (Send bytes) = get_or bytes 3 0
tag_of _ = 0

abbrev request_tag : Request → ℕ
request_tag (r.Hello extra) = 1
request_tag r.Goodbye = 2
request_tag r.Reset = 15
request_tag (r.Run query params extra) = 16
request_tag (r.Begin extra) = 17
request_tag r.Commit = 18
request_tag r.Rollback = 19
request_tag (r.Discard extra) = 47
request_tag (r.Pull extra) = 63
request_tag (r.Route routing bookmarks extra) = 102

sent_tag : (request : Request) → tag_of (sent request) ≡ request_tag request
sent_tag (r.Hello extra) = tag_in _ _ _
sent_tag r.Goodbye = tag_in _ _ _
sent_tag r.Reset = tag_in _ _ _
sent_tag (r.Run query params extra) = tag_in _ _ _
sent_tag (r.Begin extra) = tag_in _ _ _
sent_tag r.Commit = tag_in _ _ _
sent_tag r.Rollback = tag_in _ _ _
sent_tag (r.Discard extra) = tag_in _ _ _
sent_tag (r.Pull extra) = tag_in _ _ _
sent_tag (r.Route routing bookmarks extra) = tag_in _ _ _

-- ---- what is presented

-- Where the action sends a BEGIN, it presents these.
abbrev pub IsPresented : List Value → Action → Type 0
IsPresented given action = (extra : Pairs) → action ≡ sent (r.Begin extra) → (writes : Bool) × (action ≡ sent (begin given writes))

abbrev pub Presents : List Value → List Action → Type 0
Presents given [] = Unit {0}
Presents given (action ∷ actions) = IsPresented given action × Presents (presented given (action ∷ [])) actions

no_begin : (given : List Value) (action : Action) (n : ℕ) → tag_of action ≡ n → n ≢ 17 → IsPresented given action
no_begin given action n e h extra is =
    absurd (h (sym e ∙ ap tag_of is ∙ sent_tag (r.Begin extra)))

other : (given : List Value) (request : Request) → request_tag request ≢ 17 → IsPresented given (sent request)
other given request h = no_begin given (sent request) (request_tag request) (sent_tag request) h

plain : (given : List Value) (action : Action) → tag_of action ≡ 0 → IsPresented given action
plain given action e = no_begin given action 0 e (λ h. absurd (cc))

begun : (given : List Value) (writes : Bool) → IsPresented given (sent (begin given writes))
begun given writes extra is = (writes, refl)

-- ---- what a turn makes

abbrev pub has_link : Stage → Bool
has_link stage = is_awaited stage i.Lost

abbrev pub is_asking : Stage → Bool
is_asking (stage.Awaits asked) = true
is_asking _ = false

pub record Makes (p : SessionState) (linked : Bool) (t : Turned) : Type 0 where
  pub bookmarks : t.place.core.bookmarks ≡ presented p.core.bookmarks t.actions
  pub presents : Presents p.core.bookmarks t.actions
  pub began : t.place.core.began ≡ p.core.began
  pub link : has_link t.place.core.stage ≡ linked_by linked t.actions
  pub asking : is_asking t.place.core.stage ≡ true → is_asking p.core.stage ≡ true

pub makes_closed : (p : SessionState) (linked : Bool) (t : Turned) → Makes p false t → Makes p linked (before closes t)
makes_closed p linked t h = record {
  bookmarks = h.bookmarks;
  presents = (other p.core.bookmarks r.Goodbye (λ e. absurd (cc)), (plain p.core.bookmarks Close refl, h.presents));
  began = h.began;
  link = h.link;
  asking = h.asking;
}

failed : (p : SessionState) (error : WorkError) → Makes p false (finishes p (Err error))
failed p error = record {
  bookmarks = refl;
  presents = (plain p.core.bookmarks (Finish (Err error)) refl, tt);
  began = refl;
  link = refl;
  asking = λ e. absurd (cc);
}

succeeded : (p : SessionState) (linked : Bool) (bookmark : List ℕ) → Makes p linked (succeeds p bookmark)
succeeded p linked bookmark = record {
  bookmarks = refl;
  presents = (
    other p.core.bookmarks r.Goodbye (λ e. absurd (cc)),
    (
      plain p.core.bookmarks Close
          refl,
      (plain p.core.bookmarks _ refl, tt),
    ),
  );
  began = refl;
  link = refl;
  asking = λ e. absurd (cc);
}

slept : (p : SessionState) (now : ℕ) → Makes p false (sleeps p now)
slept p now = record {
  bookmarks = refl;
  presents = (plain p.core.bookmarks _ refl, tt);
  began = refl;
  link = refl;
  asking = λ e. absurd (cc);
}

retried_by : (p : SessionState) (now : ℕ) (reason : Last) (spent : Bool)
    → Makes p false (if spent then finishes p (Err (e.RetriesSpent p.core.attempts reason)) else sleeps p now)
retried_by p now reason true = failed p (e.RetriesSpent p.core.attempts reason)
retried_by p now reason false = slept p now

retried : (p : SessionState) (now : ℕ) (reason : Last) → Makes p false (retries p now reason)
retried p now reason = retried_by p now reason (is_spent now p.core.began)

-- what a turn makes of a place, of which only what does not count was changed before
moved : (p q : SessionState) (linked : Bool) (t : Turned) → q.core.bookmarks ≡ p.core.bookmarks → q.core.began ≡ p.core.began
    → (is_asking q.core.stage ≡ true → is_asking p.core.stage ≡ true) → Makes q linked t → Makes p linked t
moved p q linked t b s k h = record {
  bookmarks = h.bookmarks ∙ ap (λ (x : List Value). presented x t.actions) b;
  presents = subst (λ (x : List Value). Presents x t.actions) b h.presents;
  began = h.began ∙ s;
  link = h.link;
  asking = λ e. k (h.asking e);
}

pub lost : (p : SessionState) (now : ℕ) → Makes p false (loses p now)
lost p now = moved p (drops_table p) false _ refl refl (λ e. e) (retried (drops_table p) now last.LinkLost)

fell_by : (p : SessionState) (now : ℕ) (code : List ℕ) (again leaderless : Bool)
    → Makes p false (if again then retries p now (last.Code code) else if leaderless then retries (drops_table p) now (last.Code code)
    else refuses p code)
fell_by p now code true leaderless = retried p now (last.Code code)
fell_by p now code false true = moved p (drops_table p) false _ refl refl (λ e. e) (retried (drops_table p) now (last.Code code))
fell_by p now code false false = failed p (e.Refused p.core.attempts code)

fell : (p : SessionState) (linked : Bool) (now : ℕ) (code : List ℕ) → Makes p linked (fails p now code)
fell p linked now code = makes_closed p linked _ (fell_by p now code (is_transient code) (is_no_leader code))

-- ---- who is connected to

connected : (p : SessionState) (core : Core) (linked : Bool) (leg : Leg) (address : List ℕ) → core.bookmarks ≡ p.core.bookmarks
    → core.began ≡ p.core.began → Makes p linked (connects p core leg address)
connected p core linked leg address b s = record {
  bookmarks = b;
  presents = (plain p.core.bookmarks _ refl, tt);
  began = s;
  link = refl;
  asking = λ e. absurd (cc);
}

joined : (p : SessionState) (now : ℕ) (role : Role) (core : Core) (found : Option Value) → core.bookmarks ≡ p.core.bookmarks
    → core.began ≡ p.core.began → (is_asking core.stage ≡ true → is_asking p.core.stage ≡ true)
    → Makes p false (joins p now role core found)
joined p now role core (Some (v.Text address)) b s k = connected p core false Working address b s
joined p now role core _ b s k =
    let q = drops_table (at_core p core) in moved p q false _ b s k (retried q now (last.NoServer role))

joined_server : (writes : Bool) (p : SessionState) (now : ℕ) → Makes p false (joins_server writes p now)
joined_server writes p now = joined p now _ _ _ refl refl (λ e. e)

joined_by : (p : SessionState) (core : Core) (found : Option Value) → core.bookmarks ≡ p.core.bookmarks → core.began ≡ p.core.began
    → has_link core.stage ≡ false → (is_asking core.stage ≡ true → is_asking p.core.stage ≡ true) → Makes p false (joins_by p core found)
joined_by p core (Some (v.Text address)) b s l k = connected p core false Routing address b s
joined_by p core _ b s l k = record { bookmarks = b; presents = tt; began = s; link = l; asking = k }

joined_router : (config : SessionConfig) (p : SessionState) → has_link p.core.stage ≡ false → Makes p false (joins_router config p)
joined_router config p l = joined_by p _ _ refl refl l (λ e. e)

attempted_by : (config : SessionConfig) (writes : Bool) (p : SessionState) (now : ℕ) (fresh : Bool) → has_link p.core.stage ≡ false
    → Makes p false (if fresh then joins_server writes (opened p) now else joins_router config (opened p))
attempted_by config writes p now true l = moved p (opened p) false _ refl refl (λ e. e) (joined_server writes (opened p) now)
attempted_by config writes p now false l = moved p (opened p) false _ refl refl (λ e. e) (joined_router config (opened p) l)

pub attempted : (config : SessionConfig) (writes : Bool) (p : SessionState) (now : ℕ) → has_link p.core.stage ≡ false
    → Makes p false (attempts config writes p now)
attempted config writes p now l = attempted_by config writes p now (is_fresh now p.core.table) l

-- ---- what follows an answer

asked_for : (p q : SessionState) (linked : Bool) (asked : Asked) (bytes : List ℕ) → q.core.bookmarks ≡ p.core.bookmarks
    → q.core.began ≡ p.core.began → IsPresented p.core.bookmarks (Send bytes) → linked ≡ true → is_asking p.core.stage ≡ true
    → Makes p linked (awaits q asked (Send bytes ∷ Receive ∷ []))
asked_for p q linked asked bytes b s h l g = record {
  bookmarks = b;
  presents = (h, (plain p.core.bookmarks Receive refl, tt));
  began = s;
  link = sym l;
  asking = λ e. g;
}

requested : (p q : SessionState) (linked : Bool) (asked : Asked) (request : Request) → q.core.bookmarks ≡ p.core.bookmarks
    → q.core.began ≡ p.core.began → request_tag request ≢ 17 → linked ≡ true → is_asking p.core.stage ≡ true
    → Makes p linked (awaits q asked (asks request))
requested p q linked asked request b s h l g =
    asked_for p q linked asked (chunked (short_request request)) b s (other p.core.bookmarks request h) l g

pub shaken : (p : SessionState) (linked : Bool) (leg : Leg) → linked ≡ true
    → let t = awaits p (a.Shake leg) shakes in
    (t.place.core.bookmarks ≡ presented p.core.bookmarks t.actions) × Presents p.core.bookmarks t.actions
    × (t.place.core.began ≡ p.core.began) × (has_link t.place.core.stage ≡ linked_by linked t.actions)
shaken p linked leg l =
    (refl, (no_begin p.core.bookmarks _ 23 refl (λ e. absurd (cc)), (plain p.core.bookmarks Receive refl, tt)), refl, sym l)

hello_tag : (auth : Auth) (address : List ℕ) → request_tag (hello auth address) ≢ 17
hello_tag auth address e = absurd (cc)

route_tag : (address : List ℕ) → request_tag (route address) ≢ 17
route_tag address e = absurd (cc)

run_tag : (query : List ℕ) (params : Pairs) → request_tag (run query params) ≢ 17
run_tag query params e = absurd (cc)

pull_tag : request_tag pull ≢ 17
pull_tag e = absurd (cc)

commit_tag : request_tag commit ≢ 17
commit_tag e = absurd (cc)

ran : (p q : SessionState) (linked : Bool) (query : List ℕ) (params : Pairs) → q.core.bookmarks ≡ p.core.bookmarks → q.core.began ≡ p.core.began
    → linked ≡ true → is_asking p.core.stage ≡ true → Makes p linked (awaits q a.Run (asks (run query params)))
ran p q linked query params b s l g = requested p q linked a.Run (run query params) b s (run_tag query params) l g

committed : (p q : SessionState) (linked : Bool) → q.core.bookmarks ≡ p.core.bookmarks → q.core.began ≡ p.core.began → linked ≡ true
    → is_asking p.core.stage ≡ true → Makes p linked (awaits q a.Commit (asks commit))
committed p q linked b s l g = requested p q linked a.Commit commit b s commit_tag l g

stepped : (p q : SessionState) (linked : Bool) (step : WorkStep) → q.core.bookmarks ≡ p.core.bookmarks → q.core.began ≡ p.core.began
    → linked ≡ true → is_asking p.core.stage ≡ true → Makes p linked (takes_step q step)
stepped p q linked (w.Run query params) b s l g = ran p q linked query params b s l g
stepped p q linked w.Commit b s l g = committed p q linked b s l g

routed : (p : SessionState) (linked : Bool) → linked ≡ true → is_asking p.core.stage ≡ true
    → Makes p linked (awaits p a.Route (asks (route p.core.address)))
routed p linked l g = requested p p linked a.Route (route p.core.address) refl refl (route_tag p.core.address) l g

opened_tx : (writes : Bool) (p : SessionState) (linked : Bool) → linked ≡ true → is_asking p.core.stage ≡ true
    → Makes p linked (awaits p a.Begin (asks (begin p.core.bookmarks writes)))
opened_tx writes p linked l g =
    asked_for p p linked a.Begin (chunked (short_request (begin p.core.bookmarks writes))) refl refl (begun p.core.bookmarks writes) l g

greeted : (writes : Bool) (p : SessionState) (linked : Bool) (leg : Leg) → linked ≡ true → is_asking p.core.stage ≡ true
    → Makes p linked (follows_hello writes p leg)
greeted writes p linked Routing l g = routed p linked l g
greeted writes p linked Working l g = opened_tx writes p linked l g

said_hello : (config : SessionConfig) (p : SessionState) (linked : Bool) (leg : Leg) → linked ≡ true → is_asking p.core.stage ≡ true
    → Makes p linked (awaits p (a.Hello leg) (asks (hello config.auth p.core.address)))
said_hello config p linked leg l g =
    requested p p linked (a.Hello leg) (hello config.auth p.core.address) refl refl (hello_tag config.auth p.core.address) l g

pulled : (p : SessionState) (linked : Bool) → linked ≡ true → is_asking p.core.stage ≡ true → Makes p linked (pulls p)
pulled p linked l g = requested p (at_core p (record p.core { rows = [] })) linked a.Pull pull refl refl pull_tag l g

pub stayed : (p q : SessionState) (linked : Bool) → q.core.bookmarks ≡ p.core.bookmarks → q.core.began ≡ p.core.began → q.core.stage ≡ p.core.stage
    → has_link p.core.stage ≡ linked → Makes p linked (goes q [])
stayed p q linked b s st l = record {
  bookmarks = b;
  presents = tt;
  began = s;
  link = ap (λ (x : Stage). has_link x) st ∙ l;
  asking = λ e. sym (ap (λ (x : Stage). is_asking x) st) ∙ e;
}

began_steps : (job : Job) (p : SessionState) (linked : Bool) (told : List (List Row)) → linked ≡ true → is_asking p.core.stage ≡ true
    → Makes p linked (steps_on job p told)
began_steps job p linked told l g = stepped p (record { core = p.core; told = Some told }) linked (job.steps told) refl refl l g

followed : (config : SessionConfig) (job : Job) (p : SessionState) (linked : Bool) (asked : Asked) → has_link p.core.stage ≡ linked
    → linked ≡ true → is_asking p.core.stage ≡ true → Makes p linked (follows config job p asked)
followed config job p linked (a.Shake leg) k l g = said_hello config p linked leg l g
followed config job p linked (a.Hello leg) k l g = greeted job.writes p linked leg l g
followed config job p linked a.Begin k l g = began_steps job p linked [] l g
followed config job p linked a.Run k l g = pulled p linked l g
followed config job p linked a.Pull k l g = began_steps job p linked (so_far p.told ++ p.core.rows ∷ []) l g
followed config job p linked _ k l g = stayed p p linked refl refl refl k

kept_row : (p : SessionState) (linked : Bool) (fields : Row) → has_link p.core.stage ≡ linked → Makes p linked (keeps_row p fields)
kept_row p linked fields k = stayed p (at_core p (record p.core { rows = p.core.rows ++ fields ∷ [] })) linked refl refl refl k

kept_table : (writes : Bool) (now : ℕ) (p : SessionState) (linked : Bool) (table : Table) → Makes p linked (keeps_and_joins writes now p table)
kept_table writes now p linked table =
    makes_closed p linked _ (moved p (keeps_table p table) false _ refl refl (λ e. e) (joined_server writes (keeps_table p table) now))

pub answered : (config : SessionConfig) (job : Job) (now : ℕ) (p : SessionState) (asked : Asked) (number : ℕ) (told : Told) (linked : Bool)
    → has_link p.core.stage ≡ linked → linked ≡ true → is_asking p.core.stage ≡ true
    → Makes p linked (behind config job now p asked number told)
answered config job now p asked number says.Done linked k l g = followed config job p linked asked k l g
answered config job now p asked number (says.Row fields) linked k l g = kept_row p linked fields k
answered config job now p asked number (says.Routed table) linked k l g = kept_table job.writes now p linked table
answered config job now p asked number (says.Committed bookmark) linked k l g = succeeded p linked bookmark
answered config job now p asked number (says.Failed code) linked k l g = fell p linked now code
answered config job now p asked number says.Bad linked k l g = makes_closed p linked _ (failed p (e.BadReply number))
