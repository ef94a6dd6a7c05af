-- What a session makes of each input.
use Rattle.std.proofs.Common.{◌≡◌, ◌≢◌, ℕ, Bool, true, false, List, [], ◌++◌, refl, sym, ap, subst, ◌∙◌, append-nil}
use Rattle.std.specs.Prelude.{None, Result, Ok, Err, OnOk}
use Rattle.ncc_driver.specs.declared.config.SessionConfig.{SessionConfig}
use Rattle.ncc_driver.specs.declared.standing.Core.{Core}
use Rattle.ncc_driver.specs.declared.standing.Leg.{Leg}
use Rattle.ncc_driver.specs.declared.standing.Asked.{Asked}
use Rattle.ncc_driver.specs.declared.standing.Asked.TheVariants as a
use Rattle.ncc_driver.specs.declared.standing.Stage.{Stage}
use Rattle.ncc_driver.specs.declared.standing.Stage.TheVariants as stage
use Rattle.ncc_driver.specs.declared.action.Action.{Action}
use Rattle.ncc_driver.specs.declared.action.Input.{Input}
use Rattle.ncc_driver.specs.declared.action.Input.TheVariants as i
use Rattle.ncc_driver.specs.declared.work.WorkStep.{WorkStep}
use Rattle.ncc_driver.specs.Config.{config_fits}
use Rattle.ncc_driver.specs.Keeping.{core_keeps}
use Rattle.ncc_driver.specs.Line.{Line}
use Rattle.ncc_driver.specs.Requests.{shakes}
use Rattle.ncc_driver.specs.Work.{Job, job_by}
use Rattle.ncc_driver.specs.State.{SessionState, Makes, MakesAnew, BehindAt}
use Rattle.ncc_driver.specs.Attempts.{attempts, loses, drops_table}
use Rattle.ncc_driver.specs.Session.{State, Ran, same, on_place, opens, on_input, on}
use Rattle.ncc_driver.specs.Talk.{Keeps, KeepsAt, StandsAt}
use Rattle.ncc_driver.specs.Hearing.{Moves, awaits_more, state_of}
use Rattle.ncc_driver.proofs.Kept.{Kept, kept_of, keeps_by, retries_quiet, attempts_quiet, loses_kept}
use Rattle.ncc_driver.proofs.Following.{Rows, quiet_behind, quiet_stands}
use Rattle.ncc_driver.proofs.Moving.{keeps_quiet}

-- ---- what is not waited for

abbrev pub Idle : Stage → Input → Type 0
Idle st input = (config : SessionConfig) (job : Job) (now : ℕ) (s : State) → on_input config job now s st input ≡ same s

pub rests_idle : (input : Input) → Idle stage.Rests input
rests_idle i.Start config job now s = refl
rests_idle i.Connected config job now s = refl
rests_idle (i.Bytes bytes) config job now s = refl
rests_idle i.Lost config job now s = refl
rests_idle i.Woken config job now s = refl

pub begun_idle : (input : Input) → input ≢ i.Start → Idle stage.Begun input
begun_idle i.Start n config job now s = absurd (n refl)
begun_idle i.Connected n config job now s = refl
begun_idle (i.Bytes bytes) n config job now s = refl
begun_idle i.Lost n config job now s = refl
begun_idle i.Woken n config job now s = refl

pub sleeps_idle : (input : Input) → input ≢ i.Woken → Idle stage.Sleeps input
sleeps_idle i.Woken n config job now s = absurd (n refl)
sleeps_idle i.Start n config job now s = refl
sleeps_idle i.Connected n config job now s = refl
sleeps_idle (i.Bytes bytes) n config job now s = refl
sleeps_idle i.Lost n config job now s = refl

pub joins_idle : (leg : Leg) (input : Input) → input ≢ i.Connected → input ≢ i.Lost → Idle (stage.Joins leg) input
joins_idle leg i.Connected n m config job now s = absurd (n refl)
joins_idle leg i.Lost n m config job now s = absurd (m refl)
joins_idle leg i.Start n m config job now s = refl
joins_idle leg (i.Bytes bytes) n m config job now s = refl
joins_idle leg i.Woken n m config job now s = refl

pub awaits_idle : (asked : Asked) (input : Input) → ((bytes : List ℕ) → input ≢ i.Bytes bytes) → input ≢ i.Lost
    → Idle (stage.Awaits asked) input
awaits_idle asked (i.Bytes bytes) n m config job now s = absurd (n bytes refl)
awaits_idle asked i.Lost n m config job now s = absurd (m refl)
awaits_idle asked i.Start n m config job now s = refl
awaits_idle asked i.Connected n m config job now s = refl
awaits_idle asked i.Woken n m config job now s = refl

-- what an input leads to, as a fact of a run
abbrev MovesTo : Ran → (Rows → Type 0) → List Action → Core → Line → List Action → Type 0
MovesTo r stands before new line after =
    (r.state.place.core ≡ new) × (after ≡ before ++ r.actions) × KeepsAt new.stage line r.state.came r.state.taken
    × BehindAt new.stage stands r.state.place.told

pub idle_moves : (config : SessionConfig) (job : Job) (now : ℕ) (input : Input) (stands : Rows → Type 0) (core : Core) (line : Line)
    (q : List Action) (st : Stage) → core.stage ≡ st → Idle st input → Moves config job now input stands stands core line q core line q
unfolding on
idle_moves config job now input stands core line q st e f told came taken b k =
    let s = state_of core told came taken in
    let is : on config job now s input ≡ same s = ap (λ (x : Stage). on_input config job now s x input) e ∙ f config job now s in
    subst (λ (r : Ran). MovesTo r stands q core line q) (sym is) (refl, sym (append-nil q), k, b)

-- ---- an attempt

anew_quiet : (config : SessionConfig) (writes : Bool) (now : ℕ) (core new : Core) (before after : List Action) → config_fits config ≡ true
    → core_keeps core ≡ true → awaits_more core.stage ≡ false → MakesAnew (λ p. attempts config writes p now) core new before after
    → awaits_more new.stage ≡ false
anew_quiet config writes now core new before after f k q m =
    let p : SessionState = record { core = core; told = None } in
    let e : (attempts config writes p now).place.core ≡ new = ap (λ (x : SessionState). x.core) (m None).0 in
    subst (λ (c : Core). awaits_more c.stage ≡ false) e (attempts_quiet config writes p now f (kept_of core k) q)

-- this input begins an attempt
abbrev Begins : Stage → Input → Type 0
Begins st input =
    (config : SessionConfig) (job : Job) (now : ℕ) (s : State)
    → on_input config job now s st input ≡ on_place s (attempts config job.writes s.place now)

attempt_moves : (config : SessionConfig) (writes was : Bool) (steps : Rows → WorkStep) (now : ℕ) (input : Input) (stands : Rows → Type 0)
    (core new : Core) (line : Line) (before after : List Action) (st : Stage) → core.stage ≡ st → awaits_more st ≡ false → Begins st input
    → writes ≡ was → config_fits config ≡ true → core_keeps core ≡ true
    → MakesAnew (λ p. attempts config writes p now) core new before after
    → Moves config (job_by was steps) now input stands stands core line before new line after
unfolding on
attempt_moves config writes was steps now input stands core new line before after st e quiet f w fit k m told came taken b kept =
    let s = state_of core told came taken in
    let job = job_by was steps in
    let m' = subst (λ (x : Bool). MakesAnew (λ p. attempts config x p now) core new before after) w m in
    let q = anew_quiet config was now core new before after fit k (subst (λ (x : Stage). awaits_more x ≡ false) (sym e) quiet) m' in
    let is : on config job now s input ≡ on_place s (attempts config was s.place now) =
    ap (λ (x : Stage). on_input config job now s x input) e ∙ f config job now s in
    subst (λ (r : Ran). MovesTo r stands before new line after) (sym is) (
      ap (λ (x : SessionState). x.core) (m' told).0,
      (m' told).1,
      keeps_quiet new.stage line came taken q,
      quiet_behind new.stage stands (attempts config was s.place now).place.told q,
    )

pub start_moves : (config : SessionConfig) (writes was : Bool) (steps : Rows → WorkStep) (now : ℕ) (input : Input) (stands : Rows → Type 0)
    (core new : Core) (line : Line) (before after : List Action) → core.stage ≡ stage.Begun → input ≡ i.Start
    → writes ≡ was → config_fits config ≡ true → core_keeps core ≡ true
    → MakesAnew (λ p. attempts config writes p now) core new before after
    → Moves config (job_by was steps) now input stands stands core line before new line after
start_moves config writes was steps now input stands core new line before after e is w fit k m =
    attempt_moves config writes was steps now input stands core new line before after stage.Begun e refl
    (subst (λ (x : Input). Begins stage.Begun x) (sym is) (λ o j n s. refl)) w fit k m

pub wake_moves : (config : SessionConfig) (writes was : Bool) (steps : Rows → WorkStep) (now : ℕ) (input : Input) (stands : Rows → Type 0)
    (core new : Core) (line : Line) (before after : List Action) → core.stage ≡ stage.Sleeps → input ≡ i.Woken
    → writes ≡ was → config_fits config ≡ true → core_keeps core ≡ true
    → MakesAnew (λ p. attempts config writes p now) core new before after
    → Moves config (job_by was steps) now input stands stands core line before new line after
wake_moves config writes was steps now input stands core new line before after e is w fit k m =
    attempt_moves config writes was steps now input stands core new line before after stage.Sleeps e refl
    (subst (λ (x : Input). Begins stage.Sleeps x) (sym is) (λ o j n s. refl)) w fit k m

-- behind an attempt no answer is awaited
pub anew_stands : (config : SessionConfig) (writes : Bool) (now : ℕ) (core new : Core) (before after : List Action) (stands : Rows → Type 0)
    (st : Stage) → core.stage ≡ st → awaits_more st ≡ false → config_fits config ≡ true → core_keeps core ≡ true
    → MakesAnew (λ p. attempts config writes p now) core new before after → StandsAt new.stage stands
anew_stands config writes now core new before after stands st e quiet f k m =
    quiet_stands new.stage stands
    (anew_quiet config writes now core new before after f k (subst (λ (x : Stage). awaits_more x ≡ false) (sym e) quiet) m)

-- ---- a link that is lost, or opened

lost_quiet : (now : ℕ) (core new : Core) (before after : List Action) → Makes (λ p. loses p now) core new before after
    → awaits_more new.stage ≡ false
lost_quiet now core new before after m =
    let p : SessionState = record { core = core; told = None } in
    let e : (loses p now).place.core ≡ new = ap (λ (x : SessionState). x.core) (m None).0 in
    subst (λ (c : Core). awaits_more c.stage ≡ false) e (retries_quiet (drops_table p) now _)

pub lost_keeps : (now : ℕ) (core new : Core) (before after : List Action) → core_keeps core ≡ true
    → Makes (λ p. loses p now) core new before after → core_keeps new ≡ true
lost_keeps now core new before after k m =
    let p : SessionState = record { core = core; told = None } in
    let e : (loses p now).place.core ≡ new = ap (λ (x : SessionState). x.core) (m None).0 in
    keeps_by new (subst (λ (c : Core). Kept c) e (loses_kept p now (kept_of core k)))

pub lost_stands : (now : ℕ) (core new : Core) (before after : List Action) (stands : Rows → Type 0)
    → Makes (λ p. loses p now) core new before after → StandsAt new.stage stands
lost_stands now core new before after stands m = quiet_stands new.stage stands (lost_quiet now core new before after m)

-- this input is the loss of a link
abbrev Loses : Stage → Input → Type 0
Loses st input =
    (config : SessionConfig) (job : Job) (now : ℕ) (s : State) → on_input config job now s st input ≡ on_place s (loses s.place now)

lost_moves : (config : SessionConfig) (job : Job) (now : ℕ) (input : Input) (stands : Rows → Type 0) (core new : Core) (line : Line)
    (before after : List Action) (st : Stage) → core.stage ≡ st → Loses st input → Makes (λ p. loses p now) core new before after
    → Moves config job now input stands stands core line before new line after
unfolding on
lost_moves config job now input stands core new line before after st e f m told came taken b kept =
    let s = state_of core told came taken in
    let q = lost_quiet now core new before after m in
    let is : on config job now s input ≡ on_place s (loses s.place now) =
    ap (λ (x : Stage). on_input config job now s x input) e ∙ f config job now s in
    subst (λ (r : Ran). MovesTo r stands before new line after) (sym is) (
      ap (λ (x : SessionState). x.core) (m told).0,
      (m told).1,
      keeps_quiet new.stage line came taken q,
      quiet_behind new.stage stands (loses s.place now).place.told q,
    )

pub unjoined_moves : (config : SessionConfig) (job : Job) (now : ℕ) (input : Input) (stands : Rows → Type 0) (core new : Core) (line : Line)
    (before after : List Action) (leg : Leg) → core.stage ≡ stage.Joins leg → input ≡ i.Lost
    → Makes (λ p. loses p now) core new before after
    → Moves config job now input stands stands core line before new line after
unjoined_moves config job now input stands core new line before after leg e is m =
    lost_moves config job now input stands core new line before after (stage.Joins leg) e
    (subst (λ (x : Input). Loses (stage.Joins leg) x) (sym is) (λ o j n s. refl)) m

pub broken_moves : (config : SessionConfig) (job : Job) (now : ℕ) (input : Input) (stands : Rows → Type 0) (core new : Core) (line : Line)
    (before after : List Action) (asked : Asked) → core.stage ≡ stage.Awaits asked → input ≡ i.Lost
    → Makes (λ p. loses p now) core new before after → Moves config job now input stands stands core line before new line after
broken_moves config job now input stands core new line before after asked e is m =
    lost_moves config job now input stands core new line before after (stage.Awaits asked) e
    (subst (λ (x : Input). Loses (stage.Awaits asked) x) (sym is) (λ o j n s. refl)) m

-- this input is the opening of a link
abbrev Opens : Leg → Input → Type 0
Opens leg input = (config : SessionConfig) (job : Job) (now : ℕ) (s : State)
    → on_input config job now s (stage.Joins leg) input ≡ opens s leg

pub open_moves : (config : SessionConfig) (job : Job) (now : ℕ) (input : Input) (stands : Rows → Type 0) (core new : Core) (line mid : Line)
    (before after : List Action) (leg : Leg) → core.stage ≡ stage.Joins leg → input ≡ i.Connected
    → new ≡ record core { stage = stage.Awaits (a.Shake leg) } → Keeps mid [] 0 → after ≡ before ++ shakes
    → Moves config job now input stands stands core line before new mid after
unfolding on
open_moves config job now input stands core new line mid before after leg e is n keeps q told came taken b kept =
    let s = state_of core told came taken in
    let f : Opens leg input = subst (λ (x : Input). Opens leg x) (sym is) (λ o j n s. refl) in
    let ran : on config job now s input ≡ opens s leg =
    ap (λ (x : Stage). on_input config job now s x input) e ∙ f config job now s in
    subst (λ (c : Core). MovesTo (on config job now s input) stands before c mid after) (sym n)
    (subst (λ (r : Ran). MovesTo r stands before (record core { stage = stage.Awaits (a.Shake leg) }) mid after) (sym ran)
    (refl, q, keeps, tt))

-- what follows where a call went well
pub on_all : {T E P Q R S : Type 0} (r : Result T E) → (P → Q → R → S) → OnOk r P → OnOk r Q → OnOk r R → OnOk r S
on_all (Ok x) f p q r = f p q r
on_all (Err e) f p q r = tt
