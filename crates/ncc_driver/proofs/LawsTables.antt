-- The addresses of a table are texts, as every answer tells them and every turn keeps them.
use Rattle.std.proofs.Common.{◌≡◌, ℕ, Bool, true, false, List, [], ◌∷◌, ◌++◌, Option, Some, None, refl, ap, ◌∙◌}
use Rattle.std.specs.Prelude.{Result, Ok, Err, if◌then◌else◌, ◌&&◌, codes, bytes_eq}
use Rattle.std.proofs.lemmas.List.Folds.{list_all-append}
use Rattle.ncc_pack.specs.declared.value.Value.{Value, out-Value}
use Rattle.ncc_pack.specs.declared.value.Value.TheVariants as v
use Rattle.ncc_pack.specs.Texts.{is_text, texts_alone}
use Rattle.ncc_bolt.specs.Fields.{Pairs}
use Rattle.ncc_bolt.specs.Reading.{response_at}
use Rattle.ncc_bolt.specs.declared.error.MessageError.{MessageError}
use Rattle.ncc_bolt.specs.declared.message.Response.{Response}
use Rattle.ncc_bolt.specs.declared.message.Response.TheVariants as s
use Rattle.ncc_route.specs.declared.table.Table.{Table}
use Rattle.ncc_route.specs.declared.table.Role.{Role}
use Rattle.ncc_route.specs.Routing.{picked}
use Rattle.rand_pcg.specs.Pcg.{pcg32}
use Rattle.ncc_driver.specs.declared.config.SessionConfig.{SessionConfig}
use Rattle.ncc_driver.specs.declared.standing.Core.{Core}
use Rattle.ncc_driver.specs.declared.standing.Leg.{Leg}
use Rattle.ncc_driver.specs.declared.standing.Leg.TheVariants.{Routing, Working}
use Rattle.ncc_driver.specs.declared.standing.Asked.{Asked}
use Rattle.ncc_driver.specs.declared.standing.Asked.TheVariants as a
use Rattle.ncc_driver.specs.declared.action.Last.{Last}
use Rattle.ncc_driver.specs.declared.action.Last.TheVariants as last
use Rattle.ncc_driver.specs.declared.action.WorkError.TheVariants as error
use Rattle.ncc_driver.specs.declared.answers.Told.{Told}
use Rattle.ncc_driver.specs.declared.answers.Told.TheVariants as says
use Rattle.ncc_driver.specs.declared.link.Item.{Item}
use Rattle.ncc_driver.specs.declared.link.Item.TheVariants.{Shaken, Message}
use Rattle.ncc_driver.specs.declared.work.WorkStep.{WorkStep}
use Rattle.ncc_driver.specs.declared.work.WorkStep.TheVariants as w
use Rattle.ncc_driver.specs.Work.{Row, Job, rows_fit}
use Rattle.ncc_driver.specs.Requests.{shake_answer}
use Rattle.ncc_driver.specs.State.{SessionState, Turned}
use Rattle.ncc_driver.specs.Answers.{value_at, text_in, list_in, if_texts, texts_in, pairs_in, pairs_by, Served, server_of}
use Rattle.ncc_driver.specs.Answers.{server_by, server_in, one_more}
use Rattle.ncc_driver.specs.Answers.{servers_in, addresses_of, table_of, seconds_in, servers_at, table_by_pairs, table_in, told_table}
use Rattle.ncc_driver.specs.Answers.{told_bookmark, told_code, is_true, success_of, record_of, response_of}
use Rattle.ncc_driver.specs.Attempts.{finishes, sleeps, is_spent, retries, drops_table, at_core, is_transient, is_no_leader, refuses}
use Rattle.ncc_driver.specs.Attempts.{joins, drawn, joins_server, joins_by, joins_router, router_of, opened, is_fresh, takes_step}
use Rattle.ncc_driver.specs.Attempts.{role_of, addresses_in, one_more as step_up, follows_hello, follows, so_far, behind, keeps_table}
use Rattle.ncc_driver.specs.Session.{told_by}
use Rattle.ncc_driver.specs.LawsEnds.{Met, starts, joins as joins_met, hears, breaks, turns_by}
use Rattle.ncc_driver.proofs.LawsCauses.{HasTexts, GoodTold}

-- ---- what an answer tells

both_texts : (xs ys : List Value) → texts_alone xs ≡ true → texts_alone ys ≡ true → texts_alone (xs ++ ys) ≡ true
both_texts xs ys e f = list_all-append is_text xs ys ∙ ap (λ (b : Bool). b && texts_alone ys) e ∙ f

abbrev AllServed : List Served → Type 0
AllServed [] = Unit {0}
AllServed (server ∷ servers) = (texts_alone server.1 ≡ true) × AllServed servers

abbrev GoodServer : Option Served → Type 0
GoodServer (Some server) = texts_alone server.1 ≡ true
GoodServer None = Unit {0}

abbrev GoodServers : Option (List Served) → Type 0
GoodServers (Some servers) = AllServed servers
GoodServers None = Unit {0}

abbrev GoodTexts : Option (List Value) → Type 0
GoodTexts (Some xs) = texts_alone xs ≡ true
GoodTexts None = Unit {0}

if_good : (xs : List Value) (texts : Bool) → texts_alone xs ≡ texts → GoodTexts (if texts then Some xs else None)
if_good xs true e = e
if_good xs false e = tt

texts_good : (x : Option (List Value)) → GoodTexts (if_texts x)
texts_good (Some xs) = if_good xs (texts_alone xs) refl
texts_good None = tt

server_good_of : (role : Option (List ℕ)) (xs : Option (List Value)) → GoodTexts xs → GoodServer (server_of role xs)
server_good_of (Some role) (Some xs) g = g
server_good_of _ _ g = tt

server_good : (pairs : Option Pairs) → GoodServer (server_by pairs)
server_good (Some pairs) =
    let found = value_at (codes "addresses") pairs in
    server_good_of (text_in (value_at (codes "role") pairs)) (texts_in found) (texts_good (list_in found))
server_good None = tt

more_good : (server : Option Served) (servers : Option (List Served)) → GoodServer server → GoodServers servers
    → GoodServers (one_more server servers)
more_good (Some server) (Some servers) g h = (g, h)
more_good _ _ g h = tt

servers_good : (xs : List Value) → GoodServers (servers_in xs)
unfolding servers_in
servers_good [] = tt
servers_good (x ∷ xs) = more_good (server_in x) (servers_in xs) (server_good (pairs_by (out-Value x))) (servers_good xs)

addresses_by : (server : Served) (rest : List Value) (mine : Bool) → texts_alone server.1 ≡ true → texts_alone rest ≡ true
    → texts_alone (if mine then server.1 ++ rest else rest) ≡ true
addresses_by server rest true e f = both_texts server.1 rest e f
addresses_by server rest false e f = f

addresses_good : (role : List ℕ) (servers : List Served) → AllServed servers → texts_alone (addresses_of role servers) ≡ true
unfolding addresses_of
addresses_good role [] g = refl
addresses_good role (server ∷ servers) g =
    addresses_by server (addresses_of role servers) (bytes_eq role server.0) g.0 (addresses_good role servers g.1)

table_good_of : (now : ℕ) (seconds : Option ℕ) (servers : Option (List Served)) → GoodServers servers
    → HasTexts (table_of now seconds servers)
table_good_of now (Some seconds) (Some servers) g = (
  addresses_good (codes "WRITE") servers g,
  addresses_good (codes "READ") servers g,
  addresses_good (codes "ROUTE") servers g,
)
table_good_of now _ _ g = tt

servers_good_at : (xs : Option (List Value)) → GoodServers (servers_at xs)
servers_good_at (Some xs) = servers_good xs
servers_good_at None = tt

table_good_by : (now : ℕ) (pairs : Option Pairs) → HasTexts (table_by_pairs now pairs)
table_good_by now (Some pairs) =
    let found = list_in (value_at (codes "servers") pairs) in
    table_good_of now (seconds_in (value_at (codes "ttl") pairs)) (servers_at found) (servers_good_at found)
table_good_by now None = tt

routed_good : (table : Option Table) → HasTexts table → GoodTold a.Route (told_table table)
routed_good (Some table) g = g
routed_good None g = tt

bookmark_good : (bookmark : Option (List ℕ)) → GoodTold a.Commit (told_bookmark bookmark)
bookmark_good (Some bookmark) = refl
bookmark_good None = tt

code_good : (asked : Asked) (code : Option (List ℕ)) → GoodTold asked (told_code code)
code_good asked (Some code) = tt
code_good asked None = tt

more_rows : (more : Bool) → GoodTold a.Pull (if more then says.Bad else says.Done)
more_rows true = tt
more_rows false = tt

success_good : (asked : Asked) (now : ℕ) (meta : Pairs) → GoodTold asked (success_of asked now meta)
success_good a.Route now meta =
    let found = value_at (codes "rt") meta in routed_good (table_in now found) (table_good_by now (pairs_in found))
success_good a.Pull now meta = more_rows (is_true (value_at (codes "has_more") meta))
success_good a.Commit now meta = bookmark_good (text_in (value_at (codes "bookmark") meta))
success_good _ now meta = tt

row_fits : (fields : Row) (fits : Bool) → GoodTold a.Pull (if fits then says.Row fields else says.Bad)
row_fits fields true = tt
row_fits fields false = tt

record_good : (asked : Asked) (rows : List Row) (fields : Row) → GoodTold asked (record_of asked rows fields)
record_good a.Pull rows fields = row_fits fields (rows_fit (rows ++ fields ∷ []))
record_good _ rows fields = tt

response_good : (asked : Asked) (now : ℕ) (rows : List Row) (response : Response) → GoodTold asked (response_of asked now rows response)
response_good asked now rows (s.Success meta) = success_good asked now meta
response_good asked now rows (s.Row fields) = record_good asked rows fields
response_good asked now rows s.Ignored = tt
response_good asked now rows (s.Failure meta) = code_good asked (text_in (value_at (codes "code") meta))

message_by : (asked : Asked) (now : ℕ) (rows : List Row) (read : Result Response MessageError)
    → GoodTold asked (elim read [ Ok response ↦ response_of asked now rows response | Err cause ↦ says.Bad ])
message_by asked now rows (Ok response) = response_good asked now rows response
message_by asked now rows (Err cause) = tt

shake_by : (leg : Leg) (same : Bool) → GoodTold (a.Shake leg) (if same then says.Done else says.Bad)
shake_by leg true = tt
shake_by leg false = tt

pub told_good : (asked : Asked) (now : ℕ) (rows : List Row) (item : Item) → GoodTold asked (told_by asked now rows item)
told_good (a.Shake leg) now rows (Shaken bytes) = shake_by leg (bytes_eq bytes shake_answer)
told_good asked now rows (Message bytes) = message_by asked now rows (response_at bytes)
told_good asked now rows _ = tt

-- ---- what a turn keeps

abbrev Keeps : SessionState → Turned → Type 0
Keeps p t = HasTexts p.core.table → HasTexts t.place.core.table

retry_keeps : (p : SessionState) (now : ℕ) (reason : Last) (spent : Bool)
    → Keeps p (if spent then finishes p (Err (error.RetriesSpent p.core.attempts reason)) else sleeps p now)
retry_keeps p now reason true h = h
retry_keeps p now reason false h = h

retries_keep : (p : SessionState) (now : ℕ) (reason : Last) → Keeps p (retries p now reason)
retries_keep p now reason h = retry_keeps p now reason (is_spent now p.core.began) h

joins_keep : (p : SessionState) (now : ℕ) (role : Role) (core : Core) (found : Option Value) → HasTexts core.table
    → HasTexts (joins p now role core found).place.core.table
joins_keep p now role core (Some (v.Text address)) h = h
joins_keep p now role core _ h = retries_keep (drops_table (at_core p core)) now (last.NoServer role) tt

server_keeps : (writes : Bool) (p : SessionState) (now : ℕ) → Keeps p (joins_server writes p now)
server_keeps writes p now h =
    let role = role_of writes in
    joins_keep p now role (drawn p.core) (picked (pcg32 p.core.words).0 (addresses_in role p.core.table)) h

joins_by_keeps : (p : SessionState) (core : Core) (found : Option Value) → HasTexts core.table → HasTexts (joins_by p core found).place.core.table
joins_by_keeps p core (Some (v.Text address)) h = h
joins_by_keeps p core _ h = h

attempt_keeps : (config : SessionConfig) (writes : Bool) (p : SessionState) (now : ℕ) (fresh : Bool)
    → Keeps p (if fresh then joins_server writes (opened p) now else joins_router config (opened p))
attempt_keeps config writes p now true h = server_keeps writes (opened p) now h
attempt_keeps config writes p now false h = joins_by_keeps (opened p)
    (record (opened p).core { connects = step_up (opened p).core.connects }) (router_of config (opened p).core) h

fell_keeps : (p : SessionState) (now : ℕ) (code : List ℕ) (again leaderless : Bool)
    → Keeps p (if again then retries p now (last.Code code) else if leaderless then retries (drops_table p) now (last.Code code)
    else refuses p code)
fell_keeps p now code true leaderless h = retries_keep p now (last.Code code) h
fell_keeps p now code false true h = retries_keep (drops_table p) now (last.Code code) tt
fell_keeps p now code false false h = h

step_keeps : (p : SessionState) (step : WorkStep) → Keeps p (takes_step p step)
step_keeps p (w.Run query params) h = h
step_keeps p w.Commit h = h

hello_keeps : (writes : Bool) (p : SessionState) (leg : Leg) → Keeps p (follows_hello writes p leg)
hello_keeps writes p Routing h = h
hello_keeps writes p Working h = h

follow_keeps : (config : SessionConfig) (job : Job) (p : SessionState) (asked : Asked) → Keeps p (follows config job p asked)
follow_keeps config job p (a.Shake leg) h = h
follow_keeps config job p (a.Hello leg) h = hello_keeps job.writes p leg h
follow_keeps config job p a.Begin h = step_keeps (record { core = p.core; told = Some [] }) (job.steps []) h
follow_keeps config job p a.Run h = h
follow_keeps config job p a.Pull h =
    let told = so_far p.told ++ p.core.rows ∷ [] in step_keeps (record { core = p.core; told = Some told }) (job.steps told) h
follow_keeps config job p _ h = h

answer_keeps : (config : SessionConfig) (job : Job) (now : ℕ) (p : SessionState) (asked : Asked) (number : ℕ) (told : Told) → GoodTold asked told
    → Keeps p (behind config job now p asked number told)
answer_keeps config job now p asked number says.Done g h = follow_keeps config job p asked h
answer_keeps config job now p asked number (says.Row fields) g h = h
answer_keeps config job now p asked number (says.Routed table) g h = server_keeps job.writes (keeps_table p table) now g
answer_keeps config job now p asked number (says.Committed bookmark) g h = h
answer_keeps config job now p asked number (says.Failed code) g h = fell_keeps p now code (is_transient code) (is_no_leader code) h
answer_keeps config job now p asked number says.Bad g h = h

pub turn_keeps : (config : SessionConfig) (job : Job) (now : ℕ) (p : SessionState) (met : Met) → Keeps p (turns_by config job now p met)
turn_keeps config job now p starts h = attempt_keeps config job.writes p now (is_fresh now p.core.table) h
turn_keeps config job now p (joins_met leg) h = h
turn_keeps config job now p (hears asked number item) h =
    answer_keeps config job now p asked number (told_by asked now p.core.rows item) (told_good asked now p.core.rows item) h
turn_keeps config job now p breaks h = retries_keep (drops_table p) now last.LinkLost tt
