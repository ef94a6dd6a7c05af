-- Which works a session stands for behind each call.
use Rattle.std.proofs.Common.{◌≡◌, ℕ, true, false, List, [], ◌∷◌, ◌++◌, refl, sym, ap, subst, ◌∙◌, append_assoc, append-nil}
use Rattle.ncc_driver.specs.declared.config.SessionConfig.{SessionConfig}
use Rattle.ncc_driver.specs.declared.standing.Core.{Core}
use Rattle.ncc_driver.specs.declared.standing.Stage.TheVariants as stage
use Rattle.ncc_driver.specs.declared.action.Action.{Action}
use Rattle.ncc_driver.specs.declared.action.Input.{Input}
use Rattle.ncc_driver.specs.Line.{Line}
use Rattle.ncc_driver.specs.Work.{Job}
use Rattle.ncc_driver.specs.State.{SessionState, BehindAt, new_core}
use Rattle.ncc_driver.specs.Session.{State, Ran, Moved, Begun, new_state, same, on, begins, ahead, told_all, works_all, session, told_in}
use Rattle.ncc_driver.specs.Talk.{Held, KeepsAt, Stands, begun, grown, Begins, Tells, TellBreaks, StaysWith}
use Rattle.ncc_driver.specs.Hearing.{Moves}
use Rattle.ncc_driver.specs.Config.{config_fits}
use Rattle.ncc_driver.specs.Keeping.{core_keeps}
use Rattle.ncc_driver.specs.Spelling.{literal_alone}
use Rattle.ncc_driver.proofs.Kept.{Kept, keeps_by, no_rows, left, right}
use Rattle.ncc_driver.proofs.Following.{Rows}

-- ---- runs that go on

ahead_twice : (a b : List Action) (r : Ran) → ahead a (ahead b r) ≡ ahead (a ++ b) r
ahead_twice a b r = ap (λ (x : List Action). record { state = r.state; actions = x }) (sym (append_assoc a b r.actions))

ahead_none : (a : List Action) (s : State) → ahead a (same s) ≡ record { state = s; actions = a }
ahead_none a s = ap (λ (x : List Action). record { state = s; actions = x }) (append-nil a)

told_on : (config : SessionConfig) (job : Job) (s : State) (xs ys : List Moved)
    → told_all config job s (xs ++ ys) ≡ (let r = told_all config job s xs in ahead r.actions (told_all config job r.state ys))
unfolding told_all
told_on config job s [] ys = refl
told_on config job s (x ∷ xs) ys =
    let r = on config job x.1 s x.0 in
    let q = told_all config job r.state xs in
    ap (λ (t : Ran). ahead r.actions t) (told_on config job r.state xs ys)
    ∙ ahead_twice r.actions q.actions (told_all config job q.state ys)

works_on : (config : SessionConfig) (s : State) (ws vs : List Begun)
    → works_all config s (ws ++ vs) ≡ (let r = works_all config s ws in ahead r.actions (works_all config r.state vs))
unfolding works_all
works_on config s [] vs = refl
works_on config s (w ∷ ws) vs =
    let r = told_all config w.job (begins w.began s) w.inputs in
    let q = works_all config r.state ws in
    ap (λ (t : Ran). ahead r.actions t) (works_on config r.state ws vs) ∙ ahead_twice r.actions q.actions (works_all config q.state vs)

one_work : (config : SessionConfig) (s : State) (w : Begun) → works_all config s (w ∷ []) ≡ told_all config w.job
    (begins w.began s) w.inputs
unfolding works_all
one_work config s w =
    let r = told_all config w.job (begins w.began s) w.inputs in ahead_none r.actions r.state

one_more : (config : SessionConfig) (job : Job) (s : State) (xs : List Moved) (input : Input) (now : ℕ)
    → told_all config job s (xs ++ (input, now) ∷ [])
    ≡ (let r = told_all config job s xs in ahead r.actions (on config job now r.state input))
unfolding told_all
one_more config job s xs input now =
    let r = told_all config job s xs in
    let o = on config job now r.state input in
    told_on config job s xs ((input, now) ∷ []) ∙ ap (λ (t : Ran). ahead r.actions t) (ahead_none o.actions o.state)

-- a session of one more work
pub session_last : (config : SessionConfig) (works : List Begun) (last : Begun)
    → session config (works ++ last ∷ [])
    ≡ (let r = session config works in ahead r.actions (told_all config last.job (begins last.began r.state) last.inputs))
unfolding session
session_last config works last =
    let s = works_all config (new_state config) works in
    works_on config (new_state config) works (last ∷ []) ∙ ap (λ (r : Ran). ahead s.actions r) (one_work config s.state last)

-- a session whose last work was told one thing more
pub session_told : (config : SessionConfig) (works : List Begun) (last : Begun) (input : Input) (now : ℕ)
    → session config (works ++ grown last input now ∷ [])
    ≡ (let r = session config (works ++ last ∷ []) in ahead r.actions (on config last.job now r.state input))
session_told config works last input now =
    let s = session config works in
    let from = begins last.began s.state in
    let t = told_all config last.job from last.inputs in
    let o = on config last.job now t.state input in
    session_last config works (grown last input now)
    ∙ ap (λ (r : Ran). ahead s.actions r) (one_more config last.job from last.inputs input now)
    ∙ ahead_twice s.actions t.actions o
    ∙ ap (λ (r : Ran). ahead r.actions (on config last.job now r.state input)) (sym (session_last config works last))

-- a session of which one more work was begun
session_begun : (config : SessionConfig) (works : List Begun) (job : Job) (now : ℕ)
    → session config (works ++ begun job now ∷ []) ≡ (let r = session config works in record
    { state = begins now r.state; actions = r.actions })
unfolding session told_all
session_begun config works job now =
    let s = works_all config (new_state config) works in
    works_on config (new_state config) works (begun job now ∷ [])
    ∙ ap (λ (r : Ran). ahead s.actions r) (one_work config s.state (begun job now)) ∙ ahead_none s.actions (begins now s.state)

-- ---- what the calls make of it

pub made_new : (config : SessionConfig) (core : Core) (line : Line) (queue : List Action) → core ≡ new_core config → queue ≡ []
    → Stands (record { spent = false; config = config; core = core; line = line; queue = queue }) config [] []
unfolding session works_all new_core
made_new config core line queue e q = record {
  fine = refl;
  same = refl;
  core_is = sym e;
  line_is = subst (λ (c : Core). KeepsAt c.stage line [] 0) (sym e) tt;
  out_is = sym q;
}

work_begins : (held : Held) (job : Job) (now : ℕ)
    → Begins held job now (record held { core = record held.core { stage = stage.Begun; began = now; attempts = 0; delay = 1000 } })
unfolding begins
work_begins held job now config works out k =
    let r = session config works in
    let e = session_begun config works job now in
    record {
      fine = k.fine;
      same = k.same;
      core_is = ap (λ (x : Ran). x.state.place.core) e
          ∙ ap (λ (c : Core). record c { stage = stage.Begun; began = now; attempts = 0; delay = 1000 }) k.core_is;
      line_is = tt;
      out_is = ap (λ (x : Ran). x.actions) e ∙ k.out_is;
    }

-- what a call finds
moved_by : (held : Held) (job : Job) (input : Input) (now : ℕ) (new : Core) (line : Line) (queue : List Action)
    (stood stands : Rows → Type 0)
    (config : SessionConfig) (works : List Begun) (last : Begun) (out : List Action)
    → Moves held.config job now input stood stands held.core held.line held.queue new line queue
    → last.job ≡ job → Stands held config (works ++ last ∷ []) out
    → BehindAt held.core.stage stood (told_in config (works ++ last ∷ []))
    → let s = (session config (works ++ last ∷ [])).state in let r = on config last.job now s input in
    (r.state.place.core ≡ new) × (queue ≡ held.queue ++ r.actions) × KeepsAt new.stage line r.state.came r.state.taken
    × BehindAt new.stage stands r.state.place.told
moved_by held job input now new line queue stood stands config works last out m j k b =
    let s = (session config (works ++ last ∷ [])).state in
    let m' = subst (λ (c : SessionConfig). Moves c job now input stood stands held.core held.line held.queue new line queue) k.same m in
    let m'' = subst (λ (x : Job). Moves config x now input stood stands held.core held.line held.queue new line queue) (sym j) m' in
    let at : record { core = held.core; told = s.place.told } ≡ s.place =
    ap (λ (c : Core). record { core = c; told = s.place.told }) (sym k.core_is) in
    subst (λ (p : SessionState). let r = on config last.job now (record { place = p; came = s.came; taken = s.taken }) input in
    (r.state.place.core ≡ new) × (queue ≡ held.queue ++ r.actions) × KeepsAt new.stage line r.state.came r.state.taken
    × BehindAt new.stage stands r.state.place.told) at (m'' s.place.told s.came s.taken b k.line_is)

tells : (held : Held) (job : Job) (input : Input) (now : ℕ) (new : Core) (line : Line) (queue : List Action)
    (stood stands : Rows → Type 0) → Moves held.config job now input stood stands held.core held.line held.queue new line queue
    → Tells stood held job input now
    (record { spent = false; config = held.config; core = new; line = line; queue = queue })
tells held job input now new line queue stood stands m config works last out j k b =
    let r = session config (works ++ last ∷ []) in
    let o = on config last.job now r.state input in
    let e = session_told config works last input now in
    let g = moved_by held job input now new line queue stood stands config works last out m j k b in
    record {
      fine = refl;
      same = k.same;
      core_is = ap (λ (x : Ran). x.state.place.core) e ∙ g.0;
      line_is = subst (λ (x : Ran). KeepsAt new.stage line x.state.came x.state.taken) (sym e) g.2;
      out_is = ap (λ (x : Ran). x.actions) e ∙ ap (λ (a : List Action). a ++ o.actions) k.out_is ∙ append_assoc out held.queue o.actions
          ∙ ap (λ (a : List Action). out ++ a) (sym g.1);
    }

stays_with : (held : Held) (job : Job) (input : Input) (now : ℕ) (new : Core) (line : Line) (queue : List Action)
    (stood stands : Rows → Type 0) → Moves held.config job now input stood stands held.core held.line held.queue new line queue
    → StaysWith stood stands held job input now
    (record { spent = false; config = held.config; core = new; line = line; queue = queue })
stays_with held job input now new line queue stood stands m config works last out j k b =
    let g = moved_by held job input now new line queue stood stands config works last out m j k b in
    subst (λ (x : Ran). BehindAt new.stage stands x.state.place.told) (sym (session_told config works last input now)) g.3

pub tell_breaks : (held : Held) (job : Job) (input : Input) (now : ℕ) (new : Held) → new.spent ≡ true → TellBreaks held job input now new
tell_breaks held job input now new s config works last out j k =
    let r = session config (works ++ last ∷ []) in
    let o = on config last.job now r.state input in
    record {
      spent = s;
      rest = held.queue ++ o.actions;
      begins = ap (λ (x : Ran). x.actions) (session_told config works last input now) ∙ ap (λ (a : List Action). a ++ o.actions) k.out_is
          ∙ append_assoc out held.queue o.actions;
    }

-- ---- the same by the view of a session

pub work_begins_as : (held was : Held) (job : Job) (now : ℕ) → held ≡ was
    → Begins was job now (record held { core = record held.core { stage = stage.Begun; began = now; attempts = 0; delay = 1000 } })
work_begins_as held was job now e =
    subst (λ (h : Held). Begins h job now
    (record held { core = record held.core { stage = stage.Begun; began = now; attempts = 0; delay = 1000 } })) e (work_begins held job now)

pub tells_as : (held was : Held) (job : Job) (input : Input) (now : ℕ) (new : Core) (line : Line) (queue : List Action)
    (stood stands : Rows → Type 0) → held ≡ was
    → Moves held.config job now input stood stands held.core held.line held.queue new line queue
    → Tells stood was job input now (record { spent = false; config = held.config; core = new; line = line; queue = queue })
tells_as held was job input now new line queue stood stands e m =
    subst (λ (h : Held). Tells stood h job input now (record {
      spent = false;
      config = held.config;
      core = new;
      line = line;
      queue = queue;
    })) e
    (tells held job input now new line queue stood stands m)

pub stays_as : (held was : Held) (job : Job) (input : Input) (now : ℕ) (new : Core) (line : Line) (queue : List Action)
    (stood stands : Rows → Type 0) → held ≡ was
    → Moves held.config job now input stood stands held.core held.line held.queue new line queue
    → StaysWith stood stands was job input now (record { spent = false; config = held.config; core = new; line = line; queue = queue })
stays_as held was job input now new line queue stood stands e m =
    subst (λ (h : Held). StaysWith stood stands h job input now
    (record { spent = false; config = held.config; core = new; line = line; queue = queue })) e
    (stays_with held job input now new line queue stood stands m)

-- ---- a new session keeps what it has to

pub new_keeps : (config : SessionConfig) (core : Core) → core ≡ new_core config → config_fits config ≡ true → core_keeps core ≡ true
unfolding new_core
new_keeps config core e f =
    let four = left _ _ f in
    let kept : Kept (new_core config) = record {
      bookmarks = right _ _ four;
      few = right _ _ (left _ _ (left _ _ four));
      route = refl;
      table = refl;
      address = literal_alone [] refl;
      rows = no_rows;
      delay = refl;
    } in
    ap (λ (c : Core). core_keeps c) e ∙ keeps_by (new_core config) kept
