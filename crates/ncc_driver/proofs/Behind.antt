-- What is behind each answer, where the session then waits for none, and what it keeps.
use Rattle.std.proofs.Common.{◌≡◌, ℕ, Bool, true, false, List, [], ◌∷◌, ◌++◌, refl, sym, ap, subst, ◌∙◌}
use Rattle.std.specs.Prelude.{Option, Some, None}
use Rattle.ncc_route.specs.declared.table.Table.{Table}
use Rattle.ncc_driver.specs.declared.config.SessionConfig.{SessionConfig}
use Rattle.ncc_driver.specs.declared.standing.Core.{Core}
use Rattle.ncc_driver.specs.declared.standing.Asked.{Asked}
use Rattle.ncc_driver.specs.declared.standing.Asked.TheVariants as a
use Rattle.ncc_driver.specs.declared.standing.Stage.{Stage}
use Rattle.ncc_driver.specs.declared.standing.Stage.TheVariants as stage
use Rattle.ncc_driver.specs.declared.action.Action.{Action}
use Rattle.ncc_driver.specs.declared.answers.Told.{Told}
use Rattle.ncc_driver.specs.declared.answers.Told.TheVariants as m
use Rattle.ncc_driver.specs.Hearing.{awaits_more}
use Rattle.ncc_driver.specs.Keeping.{core_keeps, told_fits}
use Rattle.ncc_driver.specs.Work.{Row, Job, rows_fit}
use Rattle.ncc_driver.specs.State.{SessionState, Makes, BehindAt, MakesWith}
use Rattle.ncc_driver.specs.Talk.{StandsAsked, StandsAt}
use Rattle.ncc_driver.specs.Attempts.{behind, follows, fails, refutes, succeeds, keeps_and_joins}
use Rattle.ncc_driver.proofs.Kept.{Kept, kept_of, keeps_by, Quiet, behind_kept, follows_kept, fails_quiet, keeps_and_joins_quiet}
use Rattle.ncc_driver.proofs.Following.{Rows, quiet_behind, quiet_stands}

-- all that is owed behind an answer
pub record Behind (config : SessionConfig) (job : Job) (now : ℕ) (asked : Asked) (number : ℕ) (told : Told) (old new : Core)
    (before after : List Action) (stood stands : Rows → Type 0) : Type 0 where
  pub ok : MakesWith stood stands (λ p. behind config job now p asked number told) old new before after
  pub keeps : core_keeps new ≡ true
  pub still : StandsAt new.stage stands

-- an answer that ends the waiting
quiet_all : (config : SessionConfig) (job : Job) (now : ℕ) (asked : Asked) (number : ℕ) (told : Told) (old new : Core)
    (before after : List Action) (stood stands : Rows → Type 0) → told_fits old.rows told ≡ true → core_keeps old ≡ true
    → Quiet (behind config job now (record { core = old; told = None }) asked number told)
    → Makes (λ p. behind config job now p asked number told) old new before after
    → Behind config job now asked number told old new before after stood stands
quiet_all config job now asked number told old new before after stood stands f k q m =
    let p : SessionState = record { core = old; told = None } in
    let e : (behind config job now p asked number told).place.core ≡ new = ap (λ (x : SessionState). x.core) (m None).0 in
    let quiet : awaits_more new.stage ≡ false = subst (λ (c : Core). awaits_more c.stage ≡ false) e q in
    record {
      ok = λ o h. (
        ap (λ (x : SessionState). x.core) (m o).0,
        (m o).1,
        quiet_behind new.stage stands (behind config job now (record { core = old; told = o }) asked number told).place.told quiet,
      );
      keeps = keeps_by new (subst (λ (c : Core). Kept c) e (behind_kept config job now p asked number told f (kept_of old k)));
      still = quiet_stands new.stage stands quiet;
    }

-- the same of what the item told
as_told : (config : SessionConfig) (job : Job) (now : ℕ) (asked : Asked) (number : ℕ) (told exact is : Told) (old new : Core)
    (before after : List Action) (stood stands : Rows → Type 0) → told ≡ exact → told ≡ is
    → Behind config job now asked number is old new before after stood stands
    → Behind config job now asked number exact old new before after stood stands
as_told config job now asked number told exact is old new before after stood stands e i b =
    subst (λ (t : Told). Behind config job now asked number t old new before after stood stands) (sym i ∙ e) b

fits_as : (rows : List Row) (told is : Told) → told ≡ is → told_fits rows told ≡ true → told_fits rows is ≡ true
fits_as rows told is e f = subst (λ (t : Told). told_fits rows t ≡ true) e f

pub routed : (config : SessionConfig) (job : Job) (now : ℕ) (asked : Asked) (number : ℕ) (told exact : Told) (old new : Core)
    (before after : List Action) (stood stands : Rows → Type 0) (writes : Bool) (table : Table) → told ≡ exact → told ≡ m.Routed table
    → told_fits old.rows told ≡ true → core_keeps old ≡ true → writes ≡ job.writes
    → Makes (λ p. keeps_and_joins writes now p table) old new before after
    → Behind config job now asked number exact old new before after stood stands
routed config job now asked number told exact old new before after stood stands writes table e i f k w h =
    let f' = fits_as old.rows told (m.Routed table) i f in
    as_told config job now asked number told exact (m.Routed table) old new before after stood stands e i
    (quiet_all config job now asked number (m.Routed table) old new before after stood stands f' k
    (keeps_and_joins_quiet job.writes now (record { core = old; told = None }) table f' (kept_of old k))
    (subst (λ (b : Bool). Makes (λ p. keeps_and_joins b now p table) old new before after) w h))

pub committed : (config : SessionConfig) (job : Job) (now : ℕ) (asked : Asked) (number : ℕ) (told exact : Told) (old new : Core)
    (before after : List Action) (stood stands : Rows → Type 0) (bookmark : List ℕ) → told ≡ exact → told ≡ m.Committed bookmark
    → told_fits old.rows told ≡ true → core_keeps old ≡ true → Makes (λ p. succeeds p bookmark) old new before after
    → Behind config job now asked number exact old new before after stood stands
committed config job now asked number told exact old new before after stood stands bookmark e i f k h =
    as_told config job now asked number told exact (m.Committed bookmark) old new before after stood stands e i
    (quiet_all config job now asked number (m.Committed bookmark) old new before after stood stands
    (fits_as old.rows told (m.Committed bookmark) i f) k refl h)

pub failed : (config : SessionConfig) (job : Job) (now : ℕ) (asked : Asked) (number : ℕ) (told exact : Told) (old new : Core)
    (before after : List Action) (stood stands : Rows → Type 0) (code : List ℕ) → told ≡ exact → told ≡ m.Failed code
    → told_fits old.rows told ≡ true → core_keeps old ≡ true → Makes (λ p. fails p now code) old new before after
    → Behind config job now asked number exact old new before after stood stands
failed config job now asked number told exact old new before after stood stands code e i f k h =
    as_told config job now asked number told exact (m.Failed code) old new before after stood stands e i
    (quiet_all config job now asked number (m.Failed code) old new before after stood stands
    (fits_as old.rows told (m.Failed code) i f) k
    (fails_quiet (record { core = old; told = None }) now code) h)

pub refuted : (config : SessionConfig) (job : Job) (now : ℕ) (asked : Asked) (number : ℕ) (told exact : Told) (old new : Core)
    (before after : List Action) (stood stands : Rows → Type 0) → told ≡ exact → told ≡ m.Bad → core_keeps old ≡ true
    → Makes (λ p. refutes p number) old new before after → Behind config job now asked number exact old new before after stood stands
refuted config job now asked number told exact old new before after stood stands e i k h =
    as_told config job now asked number told exact m.Bad old new before after stood stands e i
    (quiet_all config job now asked number m.Bad old new before after stood stands refl k refl h)

-- ---- where an answer is awaited still

-- the work stands behind some rows, where it does at all
pub some_behind : (asked : Asked) (stood : Rows → Type 0) → StandsAsked asked stood
    → (told : Option Rows) × BehindAt (stage.Awaits asked) stood told
some_behind (a.Shake leg) stood h = (None, tt)
some_behind (a.Hello leg) stood h = (None, tt)
some_behind a.Route stood h = (None, tt)
some_behind a.Begin stood h = (None, tt)
some_behind a.Run stood h = (Some h.0, h.1)
some_behind a.Pull stood h = (Some h.0, h.1)
some_behind a.Commit stood h = (Some h.0, h.1)

pub follow_keeps : (config : SessionConfig) (job : Job) (asked : Asked) (old new : Core) (before after : List Action)
    (stood stands : Rows → Type 0) → old.stage ≡ stage.Awaits asked → StandsAsked asked stood → core_keeps old ≡ true
    → MakesWith stood stands (λ p. follows config job p asked) old new before after → core_keeps new ≡ true
follow_keeps config job asked old new before after stood stands at s k h =
    let b = some_behind asked stood s in
    let r = h b.0 (subst (λ (x : Stage). BehindAt x stood b.0) (sym at) b.1) in
    keeps_by new (subst (λ (c : Core). Kept c) r.0 (follows_kept config job (record { core = old; told = b.0 }) asked (kept_of old k)))

pub row_keeps : (old : Core) (rows : List Row) (fields : Row) (told : Told) → rows ≡ old.rows ++ fields ∷ [] → told ≡ m.Row fields
    → told_fits old.rows told ≡ true → core_keeps old ≡ true → core_keeps (record old { rows = rows }) ≡ true
row_keeps old rows fields told e i f k =
    let kept = kept_of old k in
    keeps_by (record old { rows = rows }) (record {
      bookmarks = kept.bookmarks;
      few = kept.few;
      route = kept.route;
      table = kept.table;
      address = kept.address;
      rows = ap rows_fit e ∙ fits_as old.rows told (m.Row fields) i f;
      delay = kept.delay;
    })
