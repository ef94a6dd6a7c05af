-- What each turn of a session says of the end of a work has a spelling.
use Rattle.std.proofs.Common.{◌≡◌, ℕ, Bool, true, false, List, [], ◌∷◌, ◌++◌, refl, sym, ap, subst, ◌∙◌}
use Rattle.std.specs.Prelude.{Option, Some, None, if◌then◌else◌}
use Rattle.std.proofs.lemmas.List.Folds.{list_all-append}
use Rattle.ncc_pack.specs.declared.value.Value.{Value}
use Rattle.ncc_pack.specs.declared.value.Value.TheVariants as v
use Rattle.ncc_pack.specs.Fits.{fits}
use Rattle.rand_pcg.specs.Pcg.{pcg32}
use Rattle.ncc_route.specs.Routing.{picked}
use Rattle.ncc_route.specs.declared.table.Role.{Role}
use Rattle.ncc_route.specs.declared.table.Table.{Table}
use Rattle.ncc_driver.specs.declared.config.SessionConfig.{SessionConfig}
use Rattle.ncc_driver.specs.declared.standing.Core.{Core}
use Rattle.ncc_driver.specs.declared.standing.Leg.{Leg}
use Rattle.ncc_driver.specs.declared.standing.Leg.TheVariants.{Routing, Working}
use Rattle.ncc_driver.specs.declared.standing.Asked.{Asked}
use Rattle.ncc_driver.specs.declared.standing.Asked.TheVariants as a
use Rattle.ncc_driver.specs.declared.standing.Stage.{Stage}
use Rattle.ncc_driver.specs.declared.standing.Stage.TheVariants as stage
use Rattle.ncc_driver.specs.declared.action.Action.{Action}
use Rattle.ncc_driver.specs.declared.action.Action.TheVariants.{Receive}
use Rattle.ncc_driver.specs.declared.action.Last.{Last}
use Rattle.ncc_driver.specs.declared.action.Last.TheVariants as last
use Rattle.ncc_driver.specs.declared.answers.Told.{Told}
use Rattle.ncc_driver.specs.declared.answers.Told.TheVariants as m
use Rattle.ncc_driver.specs.declared.work.WorkStep.{WorkStep}
use Rattle.ncc_driver.specs.declared.work.WorkStep.TheVariants as w
use Rattle.ncc_driver.specs.Work.{Row, Job, rows_fit}
use Rattle.ncc_driver.specs.Requests.{shakes}
use Rattle.ncc_driver.specs.Keeping.{core_keeps, told_fits}
use Rattle.ncc_driver.specs.Fitting.{reason_fits, action_fits, ends_fit}
use Rattle.ncc_driver.specs.State.{SessionState, Turned, Makes, MakesAnew, BehindAt, MakesWith}
use Rattle.ncc_driver.specs.Talk.{StandsAsked}
use Rattle.ncc_driver.specs.Attempts.{retries, loses, fails, succeeds, refutes, is_spent, is_transient, is_no_leader, drops_table}
use Rattle.ncc_driver.specs.Attempts.{at_core, joins, joins_server, joins_by, router_of, one_more, role_of, addresses_in, drawn, opened}
use Rattle.ncc_driver.specs.Attempts.{attempts, is_fresh, takes_step, follows_hello, follows, so_far, keeps_table, keeps_and_joins}
use Rattle.ncc_driver.proofs.Kept.{kept_of}
use Rattle.ncc_driver.proofs.Following.{Rows}
use Rattle.ncc_driver.proofs.Behind.{some_behind}

pub ends_on : (xs ys : List Action) → ends_fit xs ≡ true → ends_fit ys ≡ true → ends_fit (xs ++ ys) ≡ true
ends_on xs ys f g = list_all-append action_fits xs ys ∙ rw (f, g) refl

abbrev Fits : Turned → Type 0
Fits t = ends_fit t.actions ≡ true

if_fits : (b : Bool) (t u : Turned) → Fits t → Fits u → Fits (if b then t else u)
if_fits true t u f g = f
if_fits false t u f g = g

-- ---- turns

retries_fit : (p : SessionState) (now : ℕ) (reason : Last) → reason_fits reason ≡ true → Fits (retries p now reason)
retries_fit p now reason f = if_fits (is_spent now p.core.began) _ _ (rw f refl) refl

fails_fit : (p : SessionState) (now : ℕ) (code : List ℕ) → fits (v.Text code) ≡ true → Fits (fails p now code)
fails_fit p now code f =
    if_fits (is_transient code) _ _ (retries_fit p now (last.Code code) f)
    (if_fits (is_no_leader code) _ _ (retries_fit (drops_table p) now (last.Code code) f) (rw f refl))

joins_fit : (p : SessionState) (now : ℕ) (role : Role) (core : Core) (found : Option Value) → Fits (joins p now role core found)
joins_fit p now role core (Some (v.Text address)) = refl
joins_fit p now role core _ = retries_fit (drops_table (at_core p core)) now (last.NoServer role) refl

server_fits : (writes : Bool) (p : SessionState) (now : ℕ) → Fits (joins_server writes p now)
server_fits writes p now =
    let role = role_of writes in
    joins_fit p now role (drawn p.core) (picked (pcg32 p.core.words).0 (addresses_in role p.core.table))

joins_by_fit : (p : SessionState) (core : Core) (found : Option Value) → Fits (joins_by p core found)
joins_by_fit p core (Some (v.Text address)) = refl
joins_by_fit p core _ = refl

attempts_fit : (config : SessionConfig) (writes : Bool) (p : SessionState) (now : ℕ) → Fits (attempts config writes p now)
attempts_fit config writes p now =
    let q = opened p in
    if_fits (is_fresh now p.core.table) _ _ (server_fits writes q now)
    (joins_by_fit q (record q.core { connects = one_more q.core.connects }) (router_of config q.core))

step_fits : (p : SessionState) (step : WorkStep) → Fits (takes_step p step)
step_fits p (w.Run query params) = refl
step_fits p w.Commit = refl

hello_fits : (writes : Bool) (p : SessionState) (leg : Leg) → Fits (follows_hello writes p leg)
hello_fits writes p Routing = refl
hello_fits writes p Working = refl

follows_fit : (config : SessionConfig) (job : Job) (p : SessionState) (asked : Asked) → Fits (follows config job p asked)
follows_fit config job p (a.Shake leg) = refl
follows_fit config job p (a.Hello leg) = hello_fits job.writes p leg
follows_fit config job p a.Begin = step_fits (record { core = p.core; told = Some [] }) (job.steps [])
follows_fit config job p a.Run = refl
follows_fit config job p a.Pull =
    let told = so_far p.told ++ p.core.rows ∷ [] in step_fits (record { core = p.core; told = Some told }) (job.steps told)
follows_fit config job p a.Route = refl
follows_fit config job p a.Commit = refl

-- ---- what is wanted behind them, where what was wanted before fits

makes_fit : (turn : SessionState → Turned) (old new : Core) (before after : List Action) → Makes turn old new before after
    → ends_fit before ≡ true → Fits (turn (record { core = old; told = None })) → ends_fit after ≡ true
makes_fit turn old new before after h b f = ap ends_fit (h None).1 ∙ ends_on before _ b f

pub attempt_fits : (config : SessionConfig) (writes : Bool) (now : ℕ) (old new : Core) (before after : List Action) → ends_fit before ≡ true
    → MakesAnew (λ p. attempts config writes p now) old new before after → ends_fit after ≡ true
attempt_fits config writes now old new before after b h =
    ap ends_fit (h None).1 ∙ ends_on before _ b (attempts_fit config writes (record { core = old; told = None }) now)

pub lost_fits : (now : ℕ) (old new : Core) (before after : List Action) → ends_fit before ≡ true
    → Makes (λ p. loses p now) old new before after → ends_fit after ≡ true
lost_fits now old new before after b h =
    makes_fit (λ p. loses p now) old new before after h b
    (retries_fit (drops_table (record { core = old; told = None })) now last.LinkLost refl)

pub shaken_fits : (before after : List Action) → ends_fit before ≡ true → after ≡ before ++ shakes → ends_fit after ≡ true
shaken_fits before after b h = ap ends_fit h ∙ ends_on before shakes b refl

pub more_fits : (before after : List Action) → ends_fit before ≡ true → after ≡ before ++ Receive ∷ [] → ends_fit after ≡ true
more_fits before after b h = ap ends_fit h ∙ ends_on before (Receive ∷ []) b refl

-- ---- behind each answer

told_as : (rows : List Row) (told is : Told) → told ≡ is → told_fits rows told ≡ true → told_fits rows is ≡ true
told_as rows told is e f = subst (λ (t : Told). told_fits rows t ≡ true) e f

pub follow_fits : (config : SessionConfig) (job : Job) (asked : Asked) (old new : Core) (before after : List Action)
    (stood stands : Rows → Type 0) → old.stage ≡ stage.Awaits asked → StandsAsked asked stood → ends_fit before ≡ true
    → MakesWith stood stands (λ p. follows config job p asked) old new before after → ends_fit after ≡ true
follow_fits config job asked old new before after stood stands at s b h =
    let k = some_behind asked stood s in
    let r = h k.0 (subst (λ (x : Stage). BehindAt x stood k.0) (sym at) k.1) in
    ap ends_fit r.1 ∙ ends_on before _ b (follows_fit config job (record { core = old; told = k.0 }) asked)

pub routed_fits : (writes : Bool) (now : ℕ) (table : Table) (old new : Core) (before after : List Action) → ends_fit before ≡ true
    → Makes (λ p. keeps_and_joins writes now p table) old new before after → ends_fit after ≡ true
routed_fits writes now table old new before after b h =
    makes_fit (λ p. keeps_and_joins writes now p table) old new before after h b
    (server_fits writes (keeps_table (record { core = old; told = None }) table) now)

pub committed_fits : (old new : Core) (before after : List Action) (told : Told) (bookmark : List ℕ) → told ≡ m.Committed bookmark
    → told_fits old.rows told ≡ true → core_keeps old ≡ true → ends_fit before ≡ true
    → Makes (λ p. succeeds p bookmark) old new before after → ends_fit after ≡ true
committed_fits old new before after told bookmark i f k b h =
    let mark : fits (v.Text bookmark) ≡ true = told_as old.rows told (m.Committed bookmark) i f in
    let rows : rows_fit old.rows ≡ true = (kept_of old k).rows in
    makes_fit (λ p. succeeds p bookmark) old new before after h b (rw (rows, mark) refl)

pub failed_fits : (now : ℕ) (old new : Core) (before after : List Action) (told : Told) (code : List ℕ) → told ≡ m.Failed code
    → told_fits old.rows told ≡ true → ends_fit before ≡ true
    → Makes (λ p. fails p now code) old new before after → ends_fit after ≡ true
failed_fits now old new before after told code i f b h =
    makes_fit (λ p. fails p now code) old new before after h b
    (fails_fit (record { core = old; told = None }) now code (told_as old.rows told (m.Failed code) i f))

pub refuted_fits : (number : ℕ) (old new : Core) (before after : List Action) → ends_fit before ≡ true
    → Makes (λ p. refutes p number) old new before after → ends_fit after ≡ true
refuted_fits number old new before after b h = makes_fit (λ p. refutes p number) old new before after h b refl
