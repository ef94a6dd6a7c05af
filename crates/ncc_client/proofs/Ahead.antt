-- A work that was told to start has something left to do until it ends.
use Rattle.std.proofs.Common.{◌≡◌, ◌≢◌, ℕ, true, false, List, [], ◌∷◌, ◌++◌, map, Some, None, Ok, refl, sym, ap, ◌∙◌, subst, append_assoc, append-nil}
use Rattle.std.specs.Prelude.{IsTrue}
use Rattle.std.proofs.lemmas.List.{append_cancel_left}
use Rattle.ncc_driver.specs.declared.config.SessionConfig.{SessionConfig}
use Rattle.ncc_driver.specs.declared.standing.Core.{Core}
use Rattle.ncc_driver.specs.declared.standing.Stage.{Stage}
use Rattle.ncc_driver.specs.declared.standing.Stage.TheVariants as stage
use Rattle.ncc_driver.specs.declared.action.Action.{Action}
use Rattle.ncc_driver.specs.declared.action.Action.TheVariants.{Finish}
use Rattle.ncc_driver.specs.declared.action.Input.{Input}
use Rattle.ncc_driver.specs.declared.action.Input.TheVariants as i
use Rattle.ncc_driver.specs.declared.action.WorkDone.{WorkDone}
use Rattle.ncc_driver.specs.Work.{Row, Job, rows_fit}
use Rattle.ncc_driver.specs.Config.{config_fits}
use Rattle.ncc_driver.specs.Fitting.{action_fits, end_fits}
use Rattle.ncc_driver.specs.State.{BehindAt}
use Rattle.ncc_driver.specs.Session.{Ran, on, session, acts, told_in}
use Rattle.ncc_driver.specs.Talk.{Held, HandsOut, AllOut, Tells, grown}
use Rattle.ncc_driver.specs.Laws.{is_awaited}
use Rattle.ncc_driver.specs.LawsLast.{WaitsBehind, EndsWaiting, stage_of}
use Rattle.ncc_driver.proofs.Kept.{left}
use Rattle.ncc_driver.proofs.Talking.{session_told}
use Rattle.ncc_driver.proofs.LawsLast.{waits_by_last, goes_on_behind_awaited}
use Rattle.ncc_client.specs.declared.working.Stop.{Stop}
use Rattle.ncc_client.specs.declared.working.Stop.TheVariants as stop
use Rattle.ncc_client.specs.Calls.{Call, connects, sends, receives, closes, pauses, action_of, given_by, given}
use Rattle.ncc_client.specs.Working.{End, timed, one_work}
use Rattle.ncc_client.specs.Turning.{At, IsAt, Calls, StopFits}
use Rattle.ncc_client.proofs.Going.{hand_core}

-- ---- lists that have a last

not_empty : (xs : List Action) (x : Action) → xs ++ x ∷ [] ≡ [] → ⊥
not_empty [] x e = absurd (cc)
not_empty (y ∷ xs) x e = absurd (cc)

same_last : (xs ys : List Action) (x y : Action) → xs ++ x ∷ [] ≡ ys ++ y ∷ [] → x ≡ y
same_last [] [] x y e = cc
same_last [] (z ∷ ys) x y e = let none : ys ++ y ∷ [] ≡ [] = cc in absurd (not_empty ys y none)
same_last (z ∷ xs) [] x y e = let none : xs ++ x ∷ [] ≡ [] = cc in absurd (not_empty xs x none)
same_last (w ∷ xs) (z ∷ ys) x y e = let tail : xs ++ x ∷ [] ≡ ys ++ y ∷ [] = cc in same_last xs ys x y tail

first_none : (xs ys : List Action) → xs ++ ys ≡ [] → xs ≡ []
first_none [] ys e = refl
first_none (x ∷ xs) ys e = absurd (cc)

-- ---- the last action

-- The last action of a work that was told to start tells what is waited for.
last_of : (config : SessionConfig) (job : Job) (began : ℕ) (calls : List Call) (later : List ℕ) → IsTrue (config_fits config)
    → let works = one_work job began calls later ∷ [] in EndsWaiting (acts config works) (stage_of config works)
last_of config job began calls later f =
    let w = waits_by_last config [] (one_work job began calls later) began (timed (given calls) later) f refl in
    let e = w.2 in (
      acts config [] ++ e.0,
      e.1,
      w.1 ∙ ap (λ (done : List Action). acts config [] ++ done) e.2 ∙ sym (append_assoc (acts config []) e.0 (e.1 ∷ [])),
      e.3,
    )

last_out : (st : Stage) (all out : List Action) (action : Action) → EndsWaiting all st → all ≡ out ++ action ∷ [] → WaitsBehind action st
last_out st all out action e is = subst (λ (x : Action). WaitsBehind x st) (same_last e.0 out e.1 action (sym e.2 ∙ is)) e.3

-- A call that gives nothing did not do the last.
silent : (call : Call) (st : Stage) → given_by call ≡ [] → WaitsBehind (action_of call) st → ⊥
silent (connects address true) st g h = absurd (cc)
silent (connects address false) st g h = absurd (cc)
silent (sends bytes true) st g h = h
silent (sends bytes false) st g h = absurd (cc)
silent (receives (Some (byte ∷ bytes))) st g h = absurd (cc)
silent (receives (Some [])) st g h = absurd (cc)
silent (receives None) st g h = absurd (cc)
silent closes st g h = h
silent (pauses until) st g h = absurd (cc)

gives_this : (st : Stage) (x input : Input) → x ∷ [] ≡ input ∷ [] → is_awaited st x ≡ true → is_awaited st input ≡ true
gives_this st x input g y = let same : x ≡ input = cc in subst (λ (z : Input). is_awaited st z ≡ true) same y

-- What a call gives that did the last is waited for.
awaited : (call : Call) (input : Input) (st : Stage) → given_by call ≡ input ∷ [] → WaitsBehind (action_of call) st
    → is_awaited st input ≡ true
awaited (connects address true) input (stage.Joins leg) g h = gives_this (stage.Joins leg) i.Connected input g refl
awaited (connects address false) input (stage.Joins leg) g h = gives_this (stage.Joins leg) i.Lost input g refl
awaited (receives (Some (byte ∷ bytes))) input (stage.Awaits asked) g h =
    gives_this (stage.Awaits asked) (i.Bytes (byte ∷ bytes)) input g refl
awaited (receives (Some [])) input (stage.Awaits asked) g h = gives_this (stage.Awaits asked) i.Lost input g refl
awaited (receives None) input (stage.Awaits asked) g h = gives_this (stage.Awaits asked) i.Lost input g refl
awaited (pauses until) input stage.Sleeps g h = gives_this stage.Sleeps i.Woken input g refl
awaited _ input _ g h = absurd h

-- ---- something is left

pub starts_ahead : (config : SessionConfig) (job : Job) (began : ℕ) (behind : List (List Row) → Type 0) (held : Held)
    → IsTrue (config_fits config) → At config job behind [] began [] held → held.queue ≢ []
starts_ahead config job began behind held f k none =
    let e = last_of config job began [] [] f in not_empty e.0 e.1 (sym e.2 ∙ k.stands.out_is ∙ none)

pub none_left : (job : Job) (behind : List (List Row) → Type 0) (last : ℕ) (held : Held) → IsAt job behind last held → AllOut held
    → held.queue ≡ []
none_left job behind last held k all =
    let out = map action_of k.calls in
    append_cancel_left out held.queue [] (sym k.at.stands.out_is ∙ all k.config _ _ k.at.stands ∙ sym (append-nil out))

-- behind an action that gives nothing
pub quiet_ahead : (job : Job) (behind : List (List Row) → Type 0) (last : ℕ) (made : List Call → Type 0) (rose : Type 0) (old new : Held)
    (action : Action) → IsAt job behind last old → HandsOut old action new → Calls made rose action [] → new.queue ≢ []
quiet_ahead job behind last made rose old new action k h c none =
    let works = one_work job k.began k.calls k.later ∷ [] in
    let out = map action_of k.calls in
    let base = out ++ action ∷ [] in
    let s = h k.config works out k.at.stands in
    let is : acts k.config works ≡ base = s.out_is ∙ ap (λ (xs : List Action). base ++ xs) none ∙ append-nil base in
    let st = stage_of k.config works in
    let w = last_out st (acts k.config works) out action (last_of k.config job k.began k.calls k.later k.fits) is in
    silent c.call st c.gives (subst (λ (x : Action). WaitsBehind x st) (sym c.does) w)

-- behind what was given
pub told_ahead : (job : Job) (before : List (List Row) → Type 0) (last : ℕ) (made : List Call → Type 0) (rose : Type 0)
    (old mid new : Held) (action : Action) (input : Input) (now : ℕ) → IsAt job before last old → HandsOut old action mid
    → Calls made rose action (input ∷ []) → Tells before mid job input now new → new.queue ≢ []
told_ahead job before last made rose old mid new action input now k h c t none =
    let work = one_work job k.began k.calls k.later in
    let out = map action_of k.calls in
    let base = out ++ action ∷ [] in
    let m = h k.config (work ∷ []) out k.at.stands in
    let core = hand_core job before last old mid action k h in
    let b = subst (λ (c : Core). BehindAt c.stage before (told_in k.config (work ∷ []))) (sym core) k.at.is_behind in
    let s = t k.config [] work base refl m b in
    let end : acts k.config (grown work input now ∷ []) ≡ base = s.out_is ∙ ap (λ (xs : List Action). base ++ xs) none ∙ append-nil base in
    let o = on k.config job now (session k.config (work ∷ [])).state input in
    let grows : acts k.config (grown work input now ∷ []) ≡ acts k.config (work ∷ []) ++ o.actions =
    ap (λ (r : Ran). r.actions) (session_told k.config [] work input now) in
    let rest : mid.queue ++ o.actions ≡ [] = append_cancel_left base (mid.queue ++ o.actions) []
    (sym (append_assoc base mid.queue o.actions) ∙ ap (λ (xs : List Action). xs ++ o.actions) (sym m.out_is) ∙ sym grows ∙ end
    ∙ sym (append-nil base)) in
    let is : acts k.config (work ∷ []) ≡ base =
    m.out_is ∙ ap (λ (xs : List Action). base ++ xs) (first_none mid.queue o.actions rest) ∙ append-nil base in
    let st = stage_of k.config (work ∷ []) in
    let w = last_out st (acts k.config (work ∷ [])) out action (last_of k.config job k.began k.calls k.later k.fits) is in
    let y = awaited c.call input st c.gives (subst (λ (x : Action). WaitsBehind x st) (sym c.does) w) in
    let g = goes_on_behind_awaited k.config [] work input now k.fits y in
    let more : g.0 ≡ [] = append_cancel_left base g.0 []
    (ap (λ (xs : List Action). xs ++ g.0) (sym is) ∙ sym g.1 ∙ end ∙ sym (append-nil base)) in
    let e = g.2 in
    not_empty e.0 e.1 (sym e.2 ∙ more)

-- ---- an end fits

pub end_fits_in : (action : Action) (end : End) → action ≡ Finish end → action_fits action ≡ true → end_fits end ≡ true
end_fits_in action end e f = subst (λ (x : Action). action_fits x ≡ true) e f

pub rows_in : (why : Stop) (done : WorkDone) → why ≡ stop.Ended (Ok done) → StopFits why → rows_fit done.rows ≡ true
rows_in why done e f = left _ _ (subst StopFits e f)
