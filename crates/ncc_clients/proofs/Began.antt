-- When its last work began, by a session's core.
use Rattle.std.proofs.Common.{◌≡◌, ℕ, Bool, true, false, List, [], ◌∷◌, ◌++◌, drop, Option, Some, refl, sym, ap, ◌∙◌, subst}
use Rattle.std.specs.Prelude.{◌-◌, ◌^◌, min, if◌then◌else◌}
use Rattle.ncc_pack.specs.declared.value.Value.{Value}
use Rattle.ncc_pack.specs.declared.value.Value.TheVariants as v
use Rattle.rand_pcg.specs.Pcg.{pcg32}
use Rattle.ncc_route.specs.Routing.{picked}
use Rattle.ncc_route.specs.declared.table.Role.{Role}
use Rattle.ncc_driver.specs.declared.config.SessionConfig.{SessionConfig}
use Rattle.ncc_driver.specs.declared.standing.Core.{Core}
use Rattle.ncc_driver.specs.declared.standing.Leg.{Leg}
use Rattle.ncc_driver.specs.declared.standing.Leg.TheVariants.{Routing, Working}
use Rattle.ncc_driver.specs.declared.standing.Asked.{Asked}
use Rattle.ncc_driver.specs.declared.standing.Asked.TheVariants as a
use Rattle.ncc_driver.specs.declared.standing.Stage.{Stage}
use Rattle.ncc_driver.specs.declared.standing.Stage.TheVariants as stage
use Rattle.ncc_driver.specs.declared.link.Item.{Item}
use Rattle.ncc_driver.specs.declared.action.Action.{Action}
use Rattle.ncc_driver.specs.declared.action.Input.{Input}
use Rattle.ncc_driver.specs.declared.action.Input.TheVariants as i
use Rattle.ncc_driver.specs.declared.action.Last.{Last}
use Rattle.ncc_driver.specs.declared.answers.Told.{Told}
use Rattle.ncc_driver.specs.declared.answers.Told.TheVariants as says
use Rattle.ncc_driver.specs.declared.work.WorkStep.{WorkStep}
use Rattle.ncc_driver.specs.declared.work.WorkStep.TheVariants as w
use Rattle.ncc_driver.specs.Work.{Job}
use Rattle.ncc_driver.specs.State.{SessionState, Turned, new_core}
use Rattle.ncc_driver.specs.Attempts.{retries, is_spent, is_transient, is_no_leader, fails, drops_table, at_core, joins, joins_server}
use Rattle.ncc_driver.specs.Attempts.{joins_by, router_of, one_more, role_of, drawn, addresses_in, opened, is_fresh, attempts}
use Rattle.ncc_driver.specs.Attempts.{so_far, takes_step, follows_hello, follows, keeps_table, behind}
use Rattle.ncc_driver.specs.Session.{Listening, Standing, State, Moved, Begun, items_of, listening, hears, on_input, on, begins}
use Rattle.ncc_driver.specs.Session.{told_by, new_state, told_all, works_all, session}
use Rattle.ncc_driver.specs.Talk.{begun}
use Rattle.ncc_driver.proofs.LawsHearing.{hear, going_is, walk}
use Rattle.ncc_clients.specs.Links.{Driver}
use Rattle.ncc_clients.specs.Drives.{with_input}
use Rattle.ncc_clients.specs.Held.{Held, IsDriver, began_in}

-- ---- what a session is told leaves it

module _ (began : ℕ) where
  abbrev Keeps : Turned → Type 0
  Keeps t = t.place.core.began ≡ began

  if_keeps : (b : Bool) (t u : Turned) → Keeps t → Keeps u → Keeps (if b then t else u)
  if_keeps true t u h k = h
  if_keeps false t u h k = k

  retried : (p : SessionState) (now : ℕ) (reason : Last) → p.core.began ≡ began → Keeps (retries p now reason)
  retried p now reason h = if_keeps (is_spent now p.core.began) _ _ h h

  fell : (p : SessionState) (now : ℕ) (code : List ℕ) → p.core.began ≡ began → Keeps (fails p now code)
  fell p now code h =
      if_keeps (is_transient code) _ _ (retried p now _ h) (if_keeps (is_no_leader code) _ _ (retried (drops_table p) now _ h) h)

  joined : (p : SessionState) (now : ℕ) (role : Role) (core : Core) (found : Option Value) → core.began ≡ began
      → Keeps (joins p now role core found)
  joined p now role core (Some (v.Text address)) h = h
  joined p now role core _ h = retried (drops_table (at_core p core)) now _ h

  joined_server : (writes : Bool) (p : SessionState) (now : ℕ) → p.core.began ≡ began → Keeps (joins_server writes p now)
  joined_server writes p now h =
      joined p now (role_of writes) (drawn p.core) (picked (pcg32 p.core.words).0 (addresses_in (role_of writes) p.core.table)) h

  joined_by : (p : SessionState) (core : Core) (found : Option Value) → core.began ≡ began → Keeps (joins_by p core found)
  joined_by p core (Some (v.Text address)) h = h
  joined_by p core _ h = h

  attempted : (config : SessionConfig) (writes : Bool) (p : SessionState) (now : ℕ) → p.core.began ≡ began
      → Keeps (attempts config writes p now)
  attempted config writes p now h =
      let q = opened p in
      if_keeps (is_fresh now p.core.table) _ _ (joined_server writes q now h)
      (joined_by q (record q.core { connects = one_more q.core.connects }) (router_of config q.core) h)

  stepped : (p : SessionState) (step : WorkStep) → p.core.began ≡ began → Keeps (takes_step p step)
  stepped p (w.Run query params) h = h
  stepped p w.Commit h = h

  greeted : (writes : Bool) (p : SessionState) (leg : Leg) → p.core.began ≡ began → Keeps (follows_hello writes p leg)
  greeted writes p Routing h = h
  greeted writes p Working h = h

  followed : (config : SessionConfig) (job : Job) (p : SessionState) (asked : Asked) → p.core.began ≡ began → Keeps (follows config job p asked)
  followed config job p (a.Shake leg) h = h
  followed config job p (a.Hello leg) h = greeted job.writes p leg h
  followed config job p a.Begin h = stepped (record { core = p.core; told = Some [] }) (job.steps []) h
  followed config job p a.Run h = h
  followed config job p a.Pull h =
      let rows = so_far p.told ++ p.core.rows ∷ [] in stepped (record { core = p.core; told = Some rows }) (job.steps rows) h
  followed config job p a.Route h = h
  followed config job p a.Commit h = h

  answered : (config : SessionConfig) (job : Job) (now : ℕ) (p : SessionState) (asked : Asked) (number : ℕ) (told : Told) → p.core.began ≡ began
      → Keeps (behind config job now p asked number told)
  answered config job now p asked number says.Done h = followed config job p asked h
  answered config job now p asked number (says.Row fields) h = h
  answered config job now p asked number (says.Routed table) h = joined_server job.writes (keeps_table p table) now h
  answered config job now p asked number (says.Committed bookmark) h = h
  answered config job now p asked number (says.Failed code) h = fell p now code h
  answered config job now p asked number says.Bad h = h

  module _ (config : SessionConfig) (job : Job) (now : ℕ) where
    abbrev Heard : Listening → List Item → Standing → Type 0
    Heard l items r = l.place.core.began ≡ began → r.core.place.core.began ≡ began

    heard : (l : Listening) (items : List Item) → Heard l items (hear config job now l items)
    heard = walk config job now Heard
        (λ l h. h)
        (λ l asked item items e ih h.
        ih (answered config job now l.place asked (min l.taken (2 ^ 64 - 1) - 1) (told_by asked now l.place.core.rows item) h))
        (λ l item items f h. h)

    heard_all : (s : State) (bytes : List ℕ) → s.place.core.began ≡ began → (hears config job now s bytes).state.place.core.began ≡ began
    heard_all s bytes h =
        let items = drop s.taken (items_of (s.came ++ bytes)) in
        subst (λ (r : Standing). r.core.place.core.began ≡ began) (sym (going_is config job now (listening s) items))
        (heard (listening s) items h)

    input_keeps : (s : State) (st : Stage) (input : Input) → s.place.core.began ≡ began
        → (on_input config job now s st input).state.place.core.began ≡ began
    input_keeps s stage.Begun i.Start h = attempted config job.writes s.place now h
    input_keeps s stage.Sleeps i.Woken h = attempted config job.writes s.place now h
    input_keeps s (stage.Joins leg) i.Connected h = h
    input_keeps s (stage.Joins leg) i.Lost h = retried (drops_table s.place) now _ h
    input_keeps s (stage.Awaits asked) (i.Bytes bytes) h = heard_all s bytes h
    input_keeps s (stage.Awaits asked) i.Lost h = retried (drops_table s.place) now _ h
    input_keeps s _ input h = h

    on_keeps : (s : State) (input : Input) → s.place.core.began ≡ began → (on config job now s input).state.place.core.began ≡ began
    unfolding on
    on_keeps s input h = input_keeps s s.place.core.stage input h

  told_keeps : (config : SessionConfig) (job : Job) (s : State) (xs : List Moved) → s.place.core.began ≡ began
      → (told_all config job s xs).state.place.core.began ≡ began
  unfolding told_all
  told_keeps config job s [] h = h
  told_keeps config job s (x ∷ xs) h =
      told_keeps config job (on config job x.1 s x.0).state xs (on_keeps config job x.1 s x.0 h)

-- ---- works

works_began : (config : SessionConfig) (s : State) (work : Begun) (works : List Begun)
    → (works_all config s (work ∷ works)).state.place.core.began ≡ began_in (work ∷ works)
unfolding works_all begins began_in
works_began config s work [] = told_keeps work.began config work.job (begins work.began s) work.inputs refl
works_began config s work (next ∷ works) =
    works_began config (told_all config work.job (begins work.began s) work.inputs).state next works

session_began : (config : SessionConfig) (works : List Begun) → (session config works).state.place.core.began ≡ began_in works
unfolding session works_all new_core began_in
session_began config [] = refl
session_began config (work ∷ works) = works_began config (new_state config) work works

-- A session that stands for works began when the last of them did.
pub began_is : (held : Held) (d : Driver) (left : List Action) → IsDriver held d left → held.session.core.began ≡ began_in d.works
began_is held d left is = ap (λ (c : Core). c.began) (sym is.session_is.core_is) ∙ session_began d.config d.works

-- What it is told does not change that.
pub began_stays : (works : List Begun) (x : Moved) → began_in (with_input works x) ≡ began_in works
unfolding began_in with_input
began_stays [] x = refl
began_stays (work ∷ []) x = refl
began_stays (work ∷ next ∷ []) x = refl
began_stays (work ∷ next ∷ more ∷ works) x = began_stays (next ∷ more ∷ works) x

-- A work more began when it did.
pub began_more : (works : List Begun) (job : Job) (now : ℕ) → began_in (works ++ begun job now ∷ []) ≡ now
unfolding began_in
began_more [] job now = refl
began_more (work ∷ []) job now = refl
began_more (work ∷ next ∷ works) job now = began_more (next ∷ works) job now
