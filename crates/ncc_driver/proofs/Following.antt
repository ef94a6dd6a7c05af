-- What follows an answer, for a work behind the rows of the running attempt.
use Rattle.std.proofs.Common.{◌≡◌, true, false, Bool, List, [], ◌∷◌, ◌++◌, refl, sym, ap, subst, ◌∙◌}
use Rattle.std.specs.Prelude.{Option, Some, None}
use Rattle.std.specs.List.{list_all}
use Rattle.std.proofs.lemmas.List.Folds.{list_all-append}
use Rattle.ncc_driver.specs.declared.config.SessionConfig.{SessionConfig}
use Rattle.ncc_driver.specs.declared.standing.Core.{Core}
use Rattle.ncc_driver.specs.declared.standing.Leg.{Leg}
use Rattle.ncc_driver.specs.declared.standing.Leg.TheVariants.{Routing, Working}
use Rattle.ncc_driver.specs.declared.standing.Asked.{Asked}
use Rattle.ncc_driver.specs.declared.standing.Asked.TheVariants as a
use Rattle.ncc_driver.specs.declared.standing.Stage.{Stage}
use Rattle.ncc_driver.specs.declared.standing.Stage.TheVariants as stage
use Rattle.ncc_driver.specs.declared.action.Action.{Action}
use Rattle.ncc_driver.specs.declared.work.WorkStep.{WorkStep}
use Rattle.ncc_driver.specs.Hearing.{awaits_more}
use Rattle.ncc_driver.specs.Work.{Row, job_by, rows_fit}
use Rattle.ncc_driver.specs.State.{SessionState, Makes, BehindAt, MakesWith}
use Rattle.ncc_driver.specs.Talk.{StandsSomewhere, StandsAsked, StandsAt}
use Rattle.ncc_driver.specs.Attempts.{follows, follows_hello, takes_step}

-- rows that a work stands behind
abbrev pub Rows : Type 0
Rows = List (List Row)

-- ---- stages

pub behind_some : (s : Stage) (stands : Rows → Type 0) (told : Rows) → stands told → BehindAt s stands (Some told)
behind_some stage.Rests stands told h = tt
behind_some stage.Begun stands told h = tt
behind_some (stage.Joins leg) stands told h = tt
behind_some (stage.Awaits (a.Shake leg)) stands told h = tt
behind_some (stage.Awaits (a.Hello leg)) stands told h = tt
behind_some (stage.Awaits a.Route) stands told h = tt
behind_some (stage.Awaits a.Begin) stands told h = tt
behind_some (stage.Awaits a.Run) stands told h = h
behind_some (stage.Awaits a.Pull) stands told h = h
behind_some (stage.Awaits a.Commit) stands told h = h
behind_some stage.Sleeps stands told h = tt

pub stands_some : (s : Stage) (stands : Rows → Type 0) → StandsSomewhere stands → StandsAt s stands
stands_some stage.Rests stands h = tt
stands_some stage.Begun stands h = tt
stands_some (stage.Joins leg) stands h = tt
stands_some (stage.Awaits (a.Shake leg)) stands h = tt
stands_some (stage.Awaits (a.Hello leg)) stands h = tt
stands_some (stage.Awaits a.Route) stands h = tt
stands_some (stage.Awaits a.Begin) stands h = tt
stands_some (stage.Awaits a.Run) stands h = h
stands_some (stage.Awaits a.Pull) stands h = h
stands_some (stage.Awaits a.Commit) stands h = h
stands_some stage.Sleeps stands h = tt

pub quiet_behind : (s : Stage) (stands : Rows → Type 0) (told : Option Rows) → awaits_more s ≡ false → BehindAt s stands told
quiet_behind stage.Rests stands told q = tt
quiet_behind stage.Begun stands told q = tt
quiet_behind (stage.Joins leg) stands told q = tt
quiet_behind (stage.Awaits asked) stands told q = let f : true ≡ false = q in absurd (cc)
quiet_behind stage.Sleeps stands told q = tt

pub quiet_stands : (s : Stage) (stands : Rows → Type 0) → awaits_more s ≡ false → StandsAt s stands
quiet_stands stage.Rests stands q = tt
quiet_stands stage.Begun stands q = tt
quiet_stands (stage.Joins leg) stands q = tt
quiet_stands (stage.Awaits asked) stands q = let f : true ≡ false = q in absurd (cc)
quiet_stands stage.Sleeps stands q = tt

-- ---- behind HELLO, and behind the rows of a step

hello_stands_by : (writes : Bool) (p : SessionState) (leg : Leg) (stands : Rows → Type 0)
    → StandsAt (follows_hello writes p leg).place.core.stage stands
hello_stands_by writes p Routing stands = tt
hello_stands_by writes p Working stands = tt

pub hello_stands : (writes : Bool) (leg : Leg) (old new : Core) (before after : List Action) (stands : Rows → Type 0)
    → Makes (λ p. follows_hello writes p leg) old new before after → StandsAt new.stage stands
hello_stands writes leg old new before after stands m =
    let p : SessionState = record { core = old; told = None } in
    subst (λ (c : Core). StandsAt c.stage stands) (ap (λ (x : SessionState). x.core) (m None).0) (hello_stands_by writes p leg stands)

-- the next step of a work that stands behind these rows
step_makes : (p : SessionState) (step : WorkStep) (new : Core) (before after : List Action) (stands : Rows → Type 0) (told : Rows)
    → ((takes_step (record { core = p.core; told = Some told }) step).place ≡ record { core = new; told = Some told })
    × (after ≡ before ++ (takes_step (record { core = p.core; told = Some told }) step).actions) → stands told
    → let t = takes_step (record { core = p.core; told = Some told }) step in
    (t.place.core ≡ new) × (after ≡ before ++ t.actions) × BehindAt new.stage stands t.place.told
step_makes p step new before after stands told m h =
    let t = takes_step (record { core = p.core; told = Some told }) step in
    let told_is : t.place.told ≡ Some told = ap (λ (x : SessionState). x.told) m.0 in (
      ap (λ (x : SessionState). x.core) m.0,
      m.1,
      subst (λ (o : Option Rows). BehindAt new.stage stands o) (sym told_is) (behind_some new.stage stands told h),
    )

pull_makes : (config : SessionConfig) (writes : Bool) (steps : Rows → WorkStep) (step : WorkStep) (old new : Core)
    (before after : List Action) (stood stands : Rows → Type 0) → old.stage ≡ stage.Awaits a.Pull
    → ((told : Rows) → stood told → step ≡ steps (told ++ old.rows ∷ [])) → ((told : Rows) → stood told → stands (told ++ old.rows ∷ []))
    → Makes (λ p. takes_step p step) old new before after
    → MakesWith stood stands (λ p. follows config (job_by writes steps) p a.Pull) old new before after
pull_makes config writes steps step old new before after stood stands at e s m None h =
    absurd (subst (λ (x : Stage). BehindAt x stood None) at h)
pull_makes config writes steps step old new before after stood stands at e s m (Some told) h =
    let h' : stood told = subst (λ (x : Stage). BehindAt x stood (Some told)) at h in
    let more = told ++ old.rows ∷ [] in
    let g = subst (λ (x : WorkStep). Makes (λ p. takes_step p x) old new before after) (e told h') m in
    step_makes (record { core = old; told = Some told }) (steps more) new before after stands more (g (Some more)) (s told h')

pub pull_follows : (config : SessionConfig) (writes : Bool) (steps : Rows → WorkStep) (step : WorkStep) (asked : Asked) (old new : Core)
    (before after : List Action) (stood stands : Rows → Type 0) → asked ≡ a.Pull → old.stage ≡ stage.Awaits asked
    → ((told : Rows) → stood told → step ≡ steps (told ++ old.rows ∷ [])) → ((told : Rows) → stood told → stands (told ++ old.rows ∷ []))
    → Makes (λ p. takes_step p step) old new before after
    → MakesWith stood stands (λ p. follows config (job_by writes steps) p asked) old new before after
pull_follows config writes steps step asked old new before after stood stands is at e s m =
    subst (λ (x : Asked). MakesWith stood stands (λ p. follows config (job_by writes steps) p x) old new before after) (sym is)
    (pull_makes config writes steps step old new before after stood stands (at ∙ ap (λ (x : Asked). stage.Awaits x) is) e s m)

pub pull_stands : (asked : Asked) (new : Core) (rows : List Row) (stood stands : Rows → Type 0) → asked ≡ a.Pull → StandsAsked asked stood
    → ((told : Rows) → stood told → stands (told ++ rows ∷ [])) → rows_fit rows ≡ true → StandsAt new.stage stands
pull_stands asked new rows stood stands is h s f =
    let k : StandsSomewhere stood = subst (λ (x : Asked). StandsAsked x stood) is h in
    let all : list_all rows_fit (k.0 ++ rows ∷ []) ≡ true = list_all-append rows_fit k.0 (rows ∷ []) ∙ rw (k.2, f) refl in
    stands_some new.stage stands (k.0 ++ rows ∷ [], s k.0 k.1, all)
