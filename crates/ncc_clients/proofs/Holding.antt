-- Which session of a run a driver stands for behind each call.
use Rattle.std.proofs.Common.{◌≡◌, ℕ, List, [], ◌∷◌, ◌++◌, length, drop, Option, Some, None, refl, sym, ap, subst, ◌∙◌}
use Rattle.std.proofs.Common.{append-nil, append_assoc}
use Rattle.std.proofs.lemmas.List.{append_cancel_left}
use Rattle.std.proofs.Math.Seq.{drop-append_seam}
use Rattle.ncc_driver.specs.declared.action.Action.{Action}
use Rattle.ncc_driver.specs.declared.action.Input.{Input}
use Rattle.ncc_driver.specs.declared.config.SessionConfig.{SessionConfig}
use Rattle.ncc_driver.specs.declared.standing.Stage.{Stage}
use Rattle.ncc_driver.specs.declared.standing.Stage.TheVariants as stage
use Rattle.ncc_driver.specs.declared.standing.Core.{Core}
use Rattle.ncc_driver.specs.State.{BehindAt}
use Rattle.ncc_driver.specs.Work.{Job}
use Rattle.ncc_driver.specs.Session.{State, Begun, Moved, session, works_all, told_all, begins, new_state, acts, told_in}
use Rattle.ncc_driver.specs.Talk.{Held as Session, Stands, StandsAt, Tells, StaysWith, HandsOut, AllOut, Begins, begun, grown}
use Rattle.ncc_clients.specs.Links.{Link, Driver}
use Rattle.ncc_clients.specs.Drives.{knows, more, new_driver, with_input}
use Rattle.ncc_clients.specs.declared.task.Task.{Task}
use Rattle.ncc_clients.specs.Task.{job_of, stands}
use Rattle.ncc_clients.specs.Held.{Held, HasTask, Hears, IsDriver, StandsStill}

no_acts : (config : SessionConfig) → acts config [] ≡ []
unfolding session works_all
no_acts config = refl

pub made : (session : Session) (config : SessionConfig) → Stands session config [] []
    → IsDriver (record { session = session; task = None; link = None; wakes = None }) (new_driver config) []
made session config s = record {
  out = [];
  session_is = s;
  left_is = sym s.out_is ∙ no_acts config;
  task_is = refl;
  still = tt;
  link_is = refl;
  wakes_is = refl;
}

-- ---- an input

with_last : (before : List Begun) (last : Begun) (input : Input) (now : ℕ)
    → with_input (before ++ last ∷ []) (input, now) ≡ before ++ grown last input now ∷ []
unfolding with_input
with_last [] last input now = refl
with_last (w ∷ []) last input now = refl
with_last (w ∷ u ∷ ws) last input now = ap (λ (x : List Begun). w ∷ x) (with_last (u ∷ ws) last input now)

-- What a session hands out behind all that it handed out is what it wants done beyond that.
beyond : (d : Driver) (works : List Begun) (out queue : List Action) → acts d.config d.works ≡ out → acts d.config works ≡ out ++ queue
    → queue ≡ more d works
beyond d works out queue before behind =
    sym (drop-append_seam out queue)
    ∙ ap (λ (x : List Action). drop (length x) (out ++ queue)) (sym before)
    ∙ ap (λ (x : List Action). drop (length (acts d.config d.works)) x) (sym behind)

all_out : (d : Driver) (out queue : List Action) → acts d.config d.works ≡ out ++ queue → queue ≡ [] → acts d.config d.works ≡ out
all_out d out queue e none = e ∙ ap (λ (x : List Action). out ++ x) none ∙ append-nil out

pub hears_some : (old new : Session) (task later : Task) (link : Option Link) (wakes : Option ℕ) (input : Input) (now : ℕ) (d : Driver)
    → Tells (stands task) old (job_of task) input now new
    → StaysWith (stands task) (stands later) old (job_of task) input now new
    → job_of later ≡ job_of task
    → StandsAt new.core.stage (stands later)
    → Hears (record { session = old; task = Some task; link = link; wakes = wakes })
    (record { session = new; task = Some later; link = link; wakes = wakes }) d (with_input d.works (input, now))
hears_some old new task later link wakes input now d tells stays same_job still i =
    let l = i.task_is in
    let st : Stands old d.config (l.before ++ l.last ∷ []) i.out =
    subst (λ (w : List Begun). Stands old d.config w i.out) l.works_are i.session_is in
    let told : Stands new d.config (l.before ++ grown l.last input now ∷ []) i.out =
    tells d.config l.before l.last i.out l.job_is st l.behind in
    let works_are : with_input d.works (input, now) ≡ l.before ++ grown l.last input now ∷ [] =
    ap (λ (w : List Begun). with_input w (input, now)) l.works_are ∙ with_last l.before l.last input now in
    let now_is : Stands new d.config (with_input d.works (input, now)) i.out =
    subst (λ (w : List Begun). Stands new d.config w i.out) (sym works_are) told in
    record {
      out = i.out;
      session_is = now_is;
      left_is = beyond d (with_input d.works (input, now)) i.out new.queue
          (all_out d i.out old.queue i.session_is.out_is i.left_is) now_is.out_is;
      task_is = record {
        before = l.before;
        last = grown l.last input now;
        works_are = works_are;
        job_is = l.job_is ∙ sym same_job;
        behind = stays d.config l.before l.last i.out l.job_is st l.behind;
      };
      still = still;
      link_is = i.link_is;
      wakes_is = i.wakes_is;
    }

no_input : (works : List Begun) (x : Moved) → works ≡ [] → with_input works x ≡ []
unfolding with_input
no_input works x e = ap (λ (w : List Begun). with_input w x) e

-- Where no work was begun, nothing comes of it.
pub hears_none : (held : Held) (input : Input) (now : ℕ) (d : Driver) → held.task ≡ None
    → Hears held held d (with_input d.works (input, now))
hears_none held input now d e i =
    let none : d.works ≡ [] = subst (λ (t : Option Task). HasTask held d t) e i.task_is in
    let same : d.works ≡ with_input d.works (input, now) = none ∙ sym (no_input d.works (input, now) none) in
    let st : Stands held.session d.config (with_input d.works (input, now)) i.out =
    subst (λ (w : List Begun). Stands held.session d.config w i.out) same i.session_is in
    record {
      out = i.out;
      session_is = st;
      left_is = beyond d (with_input d.works (input, now)) i.out held.session.queue
          (all_out d i.out held.session.queue i.session_is.out_is i.left_is) st.out_is;
      task_is = subst (λ (t : Option Task). HasTask held (knows d (with_input d.works (input, now))) t) (sym e)
          (no_input d.works (input, now) none);
      still = i.still;
      link_is = i.link_is;
      wakes_is = i.wakes_is;
    }

-- ---- an action

-- The queue was this action and what stands behind it.
queue_was : (old new : Session) (action : Action) (d : Driver) (out : List Action) → Stands old d.config d.works out
    → HandsOut old action new → old.queue ≡ action ∷ new.queue
queue_was old new action d out s hands =
    append_cancel_left out old.queue (action ∷ new.queue)
    (sym s.out_is ∙ (hands d.config d.works out s).out_is ∙ append_assoc out (action ∷ []) new.queue)

core_stays : (old new : Session) (action : Action) (d : Driver) (out : List Action) → Stands old d.config d.works out
    → HandsOut old action new → old.core ≡ new.core
core_stays old new action d out s hands = sym s.core_is ∙ (hands d.config d.works out s).core_is

task_stays : (old new : Session) (task : Option Task) (link : Option Link) (wakes : Option ℕ) (d : Driver) → old.core ≡ new.core
    → HasTask (record { session = old; task = task; link = link; wakes = wakes }) d task
    → HasTask (record { session = new; task = task; link = link; wakes = wakes }) d task
task_stays old new None link wakes d e h = h
task_stays old new (Some task) link wakes d e h = record {
  before = h.before;
  last = h.last;
  works_are = h.works_are;
  job_is = h.job_is;
  behind = subst (λ (c : Core). BehindAt c.stage (stands task) (told_in d.config (h.before ++ h.last ∷ []))) e h.behind;
}

-- Behind an action that was handed out, the others are left.
pub handed : (old new : Session) (task : Option Task) (link : Option Link) (wakes : Option ℕ) (action : Action) (d : Driver)
    (left : List Action) → HandsOut old action new → IsDriver (record { session = old; task = task; link = link; wakes = wakes }) d left
    → (left ≡ action ∷ new.queue) × IsDriver (record { session = new; task = task; link = link; wakes = wakes }) d new.queue
handed old new task link wakes action d left hands i =
    let e = core_stays old new action d i.out i.session_is hands in (
      sym i.left_is ∙ queue_was old new action d i.out i.session_is hands,
      record {
        out = i.out ++ action ∷ [];
        session_is = hands d.config d.works i.out i.session_is;
        left_is = refl;
        task_is = task_stays old new task link wakes d e i.task_is;
        still = subst (λ (c : Core). StandsStill c.stage task) e i.still;
        link_is = i.link_is;
        wakes_is = i.wakes_is;
      },
    )

-- Where none is handed out, none is left.
pub none_left : (held : Held) (d : Driver) (left : List Action) → AllOut held.session → IsDriver held d left → left ≡ []
none_left held d left all i =
    sym i.left_is
    ∙ append_cancel_left i.out held.session.queue []
    (sym i.session_is.out_is ∙ all d.config d.works i.out i.session_is ∙ sym (append-nil i.out))

-- ---- a work

-- Where a work was just begun, the session says so.
stage_begun : (config : SessionConfig) (s : State) (works : List Begun) (job : Job) (now : ℕ)
    → (works_all config s (works ++ begun job now ∷ [])).state.place.core.stage ≡ stage.Begun
unfolding works_all told_all begins
stage_begun config s [] job now = refl
stage_begun config s (w ∷ ws) job now = stage_begun config (told_all config w.job (begins w.began s) w.inputs).state ws job now

-- It wants nothing done yet.
acts_begun : (config : SessionConfig) (s : State) (works : List Begun) (job : Job) (now : ℕ)
    → (works_all config s (works ++ begun job now ∷ [])).actions ≡ (works_all config s works).actions
unfolding works_all told_all
acts_begun config s [] job now = refl
acts_begun config s (w ∷ ws) job now =
    let r = told_all config w.job (begins w.began s) w.inputs in
    ap (λ (x : List Action). r.actions ++ x) (acts_begun config r.state ws job now)

same_acts : (config : SessionConfig) (works : List Begun) (job : Job) (now : ℕ)
    → acts config (works ++ begun job now ∷ []) ≡ acts config works
unfolding session
same_acts config works job now = acts_begun config (new_state config) works job now

pub begins_work : (old new : Session) (before : Option Task) (given : Task) (link : Option Link) (wakes : Option ℕ) (job : Job) (now : ℕ)
    (d : Driver) → Begins old job now new → job ≡ job_of given
    → IsDriver (record { session = old; task = before; link = link; wakes = wakes }) d []
    → IsDriver (record { session = new; task = Some given; link = link; wakes = wakes }) (knows d (d.works ++ begun job now ∷ [])) []
unfolding session
begins_work old new before given link wakes job now d begins_it job_is i =
    let s = begins_it d.config d.works i.out i.session_is in
    let stage_is : new.core.stage ≡ stage.Begun =
    ap (λ (c : Core). c.stage) (sym s.core_is) ∙ stage_begun d.config (new_state d.config) d.works job now in
    record {
      out = i.out;
      session_is = s;
      left_is = append_cancel_left i.out new.queue [] (sym s.out_is ∙ same_acts d.config d.works job now ∙ i.session_is.out_is
          ∙ ap (λ (x : List Action). i.out ++ x) i.left_is);
      task_is = record {
        before = d.works;
        last = begun job now;
        works_are = refl;
        job_is = job_is;
        behind = subst (λ (x : Stage). BehindAt x (stands given) (told_in d.config (d.works ++ begun job now ∷ []))) (sym stage_is) tt;
      };
      still = subst (λ (x : Stage). StandsAt x (stands given)) (sym stage_is) tt;
      link_is = i.link_is;
      wakes_is = i.wakes_is;
    }
