-- Attempts: whom a session connects to, what it does behind each answer, and what behind a failure.
use Rattle.std.specs.Prelude.{ℕ, ◌+◌, ◌-◌, ◌*◌, ◌/◌, ◌%◌, ◌^◌, min, Bool, false, nat_le, nat_lt, if◌then◌else◌, List, [], ◌∷◌, ◌++◌}
use Rattle.std.specs.Prelude.{length, take}
use Rattle.std.specs.Prelude.{Option, Some, None, Result, Ok, Err, codes, bytes_eq}
use Rattle.rand_pcg.specs.Pcg.{pcg32}
use Rattle.ncc_pack.specs.declared.value.Value.{Value}
use Rattle.ncc_pack.specs.declared.value.Value.TheVariants as v
use Rattle.ncc_bookmark.specs.Point.{Point}
use Rattle.ncc_bookmark.specs.Reading.{point_named}
use Rattle.ncc_route.specs.declared.table.Table.{Table}
use Rattle.ncc_route.specs.declared.table.Role.{Role}
use Rattle.ncc_route.specs.declared.table.Role.TheVariants.{Write, Read}
use Rattle.ncc_route.specs.Routing.{ends, addresses, picked}
use Rattle.ncc_driver.specs.declared.config.SessionConfig.{SessionConfig}
use Rattle.ncc_driver.specs.declared.standing.Core.{Core}
use Rattle.ncc_driver.specs.declared.standing.Leg.{Leg}
use Rattle.ncc_driver.specs.declared.standing.Leg.TheVariants.{Routing, Working}
use Rattle.ncc_driver.specs.declared.standing.Asked.{Asked}
use Rattle.ncc_driver.specs.declared.standing.Asked.TheVariants as a
use Rattle.ncc_driver.specs.declared.standing.Stage.{Stage}
use Rattle.ncc_driver.specs.declared.standing.Stage.TheVariants as stage
use Rattle.ncc_driver.specs.declared.action.Action.{Action}
use Rattle.ncc_driver.specs.declared.action.Action.TheVariants.{Connect, Sleep, Finish}
use Rattle.ncc_driver.specs.declared.action.WorkDone.{WorkDone}
use Rattle.ncc_driver.specs.declared.action.Last.{Last}
use Rattle.ncc_driver.specs.declared.action.Last.TheVariants as last
use Rattle.ncc_driver.specs.declared.action.WorkError.{WorkError}
use Rattle.ncc_driver.specs.declared.action.WorkError.TheVariants as e
use Rattle.ncc_driver.specs.declared.work.WorkStep.{WorkStep}
use Rattle.ncc_driver.specs.declared.work.WorkStep.TheVariants as w
use Rattle.ncc_driver.specs.Work.{Row, Job}
use Rattle.ncc_driver.specs.Requests.{asks, closes, hello, route, begin, run, pull, commit}
use Rattle.ncc_driver.specs.declared.answers.Told.{Told}
use Rattle.ncc_driver.specs.declared.answers.Told.TheVariants as m
use Rattle.ncc_driver.specs.State.{SessionState, Turned}

-- the session stands there and wants this done
abbrev pub goes : SessionState → List Action → Turned
goes place actions = record { place = place; actions = actions }

-- the same, with this done before
abbrev pub before : List Action → Turned → Turned
before actions t = record { place = t.place; actions = actions ++ t.actions }

abbrev pub at_core : SessionState → Core → SessionState
at_core place core = record { core = core; told = place.told }

abbrev pub waits : SessionState → Stage → SessionState
waits place stage = at_core place (record place.core { stage = stage })

-- a request is sent, and its answer awaited
abbrev pub awaits : SessionState → Asked → List Action → Turned
awaits place asked actions = goes (waits place (stage.Awaits asked)) actions

-- one more, which stays at the greatest number
abbrev pub one_more : ℕ → ℕ
one_more n = min (n + 1) (2 ^ 64 - 1)

-- ---- the ends of a work

abbrev pub finishes : SessionState → Result WorkDone WorkError → Turned
finishes place result = goes (waits place stage.Rests) (Finish result ∷ [])

-- the place of a bookmark of whatever cluster
abbrev pub place_in : Option Point → Option ℕ
place_in (Some point) = Some point.place
place_in None = None

abbrev pub place_of : List ℕ → Option ℕ
place_of bookmark = place_in (point_named bookmark)

abbrev pub done_of : Core → List ℕ → WorkDone
done_of core bookmark = record { attempts = core.attempts; place = place_of bookmark; bookmark = bookmark; rows = core.rows }

-- From now on the bookmark of this success is presented.
abbrev pub succeeds : SessionState → List ℕ → Turned
succeeds place bookmark =
    before closes (finishes (at_core place (record place.core { bookmarks = v.Text bookmark ∷ [] })) (Ok (done_of place.core bookmark)))

abbrev pub refuses : SessionState → List ℕ → Turned
refuses place code = finishes place (Err (e.Refused place.core.attempts code))

abbrev pub refutes : SessionState → ℕ → Turned
refutes place number = before closes (finishes place (Err (e.BadReply number)))

-- ---- a retry, and its delay

-- for how long a work is tried again, and the greatest delay, in milliseconds
abbrev pub longest : ℕ
longest = 30_000

-- the moment until which a delay lasts that a word varies by a fifth
abbrev pub until_of : ℕ → ℕ → ℕ → ℕ
until_of now delay word = min (now + delay * (800 + word % 401) / 1000) (2 ^ 64 - 1)

abbrev pub next_delay : ℕ → ℕ
next_delay delay = min (delay * 2) longest

abbrev pub slept : Core → Core
slept core = record core { stage = stage.Sleeps; words = (pcg32 core.words).1; delay = next_delay core.delay }

abbrev pub sleeps : SessionState → ℕ → Turned
sleeps place now = goes (at_core place (slept place.core)) (Sleep (until_of now place.core.delay (pcg32 place.core.words).0) ∷ [])

-- Too long has passed since the work began.
abbrev pub is_spent : ℕ → ℕ → Bool
is_spent now began = nat_le longest (now - began)

-- An attempt has failed that may be tried again.
abbrev pub retries : SessionState → ℕ → Last → Turned
retries place now last =
    if is_spent now place.core.began then finishes place (Err (e.RetriesSpent place.core.attempts last))
    else sleeps place now

abbrev pub drops_table : SessionState → SessionState
drops_table place = at_core place (record place.core { table = None })

abbrev pub loses : SessionState → ℕ → Turned
loses place now = retries (drops_table place) now last.LinkLost

-- ---- a code

abbrev pub not_a_leader : List ℕ
not_a_leader = codes "Neo.ClientError.Cluster.NotALeader"

-- a code with this front may be tried again
abbrev pub transient : List ℕ
transient = codes "Neo.TransientError."

abbrev pub is_transient : List ℕ → Bool
is_transient code = bytes_eq (take (length transient) code) transient

abbrev pub is_no_leader : List ℕ → Bool
is_no_leader code = bytes_eq code not_a_leader

abbrev pub fails_by : SessionState → ℕ → List ℕ → Turned
fails_by place now code =
    if is_transient code then retries place now (last.Code code)
    else if is_no_leader code then retries (drops_table place) now (last.Code code)
    else refuses place code

abbrev pub fails : SessionState → ℕ → List ℕ → Turned
fails place now code = before closes (fails_by place now code)

-- ---- who is connected to

abbrev pub connects : SessionState → Core → Leg → List ℕ → Turned
connects place core leg address =
    goes (at_core place (record core { stage = stage.Joins leg; address = address })) (Connect address ∷ [])

abbrev pub role_of : Bool → Role
role_of writes = if writes then Write else Read

abbrev pub addresses_in : Role → Option Table → List Value
addresses_in role (Some table) = addresses role table
addresses_in role None = []

-- A word was taken for the choice.
abbrev pub drawn : Core → Core
drawn core = record core { words = (pcg32 core.words).1 }

abbrev pub joins : SessionState → ℕ → Role → Core → Option Value → Turned
joins place now role core (Some (v.Text address)) = connects place core Working address
joins place now role core _ = retries (drops_table (at_core place core)) now (last.NoServer role)

-- the server of the transaction: the next word picks it among the table's of the role
abbrev pub joins_server : Bool → SessionState → ℕ → Turned
joins_server writes place now =
    let role = role_of writes in
    joins place now role (drawn place.core) (picked (pcg32 place.core.words).0 (addresses_in role place.core.table))

-- these, or those where there are none
abbrev pub or_else : List Value → List Value → List Value
or_else [] those = those
or_else (x ∷ xs) those = x ∷ xs

-- routers take turns, over all works of the session
abbrev pub router_of : SessionConfig → Core → Option Value
router_of config core = picked core.connects (or_else core.route config.routers)

abbrev pub joins_by : SessionState → Core → Option Value → Turned
joins_by place core (Some (v.Text address)) = connects place core Routing address
joins_by place core _ = goes (at_core place core) []

abbrev pub joins_router : SessionConfig → SessionState → Turned
joins_router config place =
    joins_by place (record place.core { connects = one_more place.core.connects }) (router_of config place.core)

abbrev pub is_fresh : ℕ → Option Table → Bool
is_fresh now (Some table) = nat_lt now (ends table)
is_fresh now None = false

-- one more attempt, which was told nothing
abbrev pub opened : SessionState → SessionState
opened place = record { core = record place.core { attempts = one_more place.core.attempts; rows = [] }; told = None }

-- An attempt begins: a table that is fresh at this moment serves it.
abbrev pub attempts : SessionConfig → Bool → SessionState → ℕ → Turned
attempts config writes place now =
    if is_fresh now place.core.table then joins_server writes (opened place) now else joins_router config (opened place)

-- ---- what follows an answer

-- the next step of the work, behind the rows so far
abbrev pub takes_step : SessionState → WorkStep → Turned
takes_step place (w.Run query params) = awaits place a.Run (asks (run query params))
takes_step place w.Commit = awaits place a.Commit (asks commit)

-- behind the rows of one more step
abbrev pub steps_on : Job → SessionState → List (List Row) → Turned
steps_on job place told = takes_step (record { core = place.core; told = Some told }) (job.steps told)

abbrev pub so_far : Option (List (List Row)) → List (List Row)
so_far (Some told) = told
so_far None = []

abbrev pub pulls : SessionState → Turned
pulls place = awaits (at_core place (record place.core { rows = [] })) a.Pull (asks pull)

abbrev pub follows_hello : Bool → SessionState → Leg → Turned
follows_hello writes place Routing = awaits place a.Route (asks (route place.core.address))
follows_hello writes place Working = awaits place a.Begin (asks (begin place.core.bookmarks writes))

-- behind an answer that says that all went well
abbrev pub follows : SessionConfig → Job → SessionState → Asked → Turned
follows config job place (a.Shake leg) = awaits place (a.Hello leg) (asks (hello config.auth place.core.address))
follows config job place (a.Hello leg) = follows_hello job.writes place leg
follows config job place a.Begin = steps_on job place []
follows config job place a.Run = pulls place
follows config job place a.Pull = steps_on job place (so_far place.told ++ place.core.rows ∷ [])
follows config job place _ = goes place []

abbrev pub keeps_row : SessionState → Row → Turned
keeps_row place fields = goes (at_core place (record place.core { rows = place.core.rows ++ fields ∷ [] })) []

abbrev pub keeps_table : SessionState → Table → SessionState
keeps_table place table = at_core place (record place.core { table = Some table; route = table.route })

abbrev pub keeps_and_joins : Bool → ℕ → SessionState → Table → Turned
keeps_and_joins writes now place table = before closes (joins_server writes (keeps_table place table) now)

-- behind each answer of the awaited request, at this moment; the number is that of its message on the link
abbrev pub behind : SessionConfig → Job → ℕ → SessionState → Asked → ℕ → Told → Turned
behind config job now place asked number m.Done = follows config job place asked
behind config job now place asked number (m.Row fields) = keeps_row place fields
behind config job now place asked number (m.Routed table) = keeps_and_joins job.writes now place table
behind config job now place asked number (m.Committed bookmark) = succeeds place bookmark
behind config job now place asked number (m.Failed code) = fails place now code
behind config job now place asked number m.Bad = refutes place number
