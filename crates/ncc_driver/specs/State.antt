-- Where a session stands.
use Rattle.std.specs.Prelude.{◌≡◌, ℕ, List, [], ◌++◌, Option, Some, None}
use Rattle.rand_core.specs.Pcg32Seed.{pcg32_seed}
use Rattle.rand_pcg.specs.Lcg.{Lcg}
use Rattle.rand_pcg.specs.Pcg.{pcg32_of_seed}
use Rattle.ncc_driver.specs.declared.config.SessionConfig.{SessionConfig}
use Rattle.ncc_driver.specs.declared.standing.Core.{Core}
use Rattle.ncc_driver.specs.declared.standing.Asked.{Asked}
use Rattle.ncc_driver.specs.declared.standing.Asked.TheVariants as a
use Rattle.ncc_driver.specs.declared.standing.Stage.{Stage}
use Rattle.ncc_driver.specs.declared.standing.Stage.TheVariants as stage
use Rattle.ncc_driver.specs.declared.action.Action.{Action}
use Rattle.ncc_driver.specs.Work.{Row}

-- Where it stands, and the rows of each step of the attempt, from where its work was started.
pub record SessionState : Type 0 where
  pub core : Core
  pub told : Option (List (List Row))

-- what an input leads to: where the session stands then, and what it wants done
pub record Turned : Type 0 where
  pub place : SessionState
  pub actions : List Action

-- the words of a seed
unfoldable pub words_of : ℕ → Lcg
words_of seed = pcg32_of_seed (pcg32_seed 16 seed)

-- a session of which no work was begun
unfoldable pub new_core : SessionConfig → Core
new_core config = record {
  stage = stage.Rests;
  bookmarks = config.bookmarks;
  words = words_of config.seed;
  table = None;
  route = [];
  connects = 0;
  began = 0;
  attempts = 0;
  delay = 1000;
  address = [];
  rows = [];
}

abbrev pub new_place : SessionConfig → SessionState
new_place config = record { core = new_core config; told = None }

-- With any rows told so far: the core and the actions grew by this.
abbrev pub Makes : (SessionState → Turned) → Core → Core → List Action → List Action → Type 0
Makes turn old new before after =
    (told : Option (List (List Row))) → let t = turn (record { core = old; told = told }) in
    (t.place ≡ record { core = new; told = told }) × (after ≡ before ++ t.actions)

-- the same where the rows are forgotten
abbrev pub MakesAnew : (SessionState → Turned) → Core → Core → List Action → List Action → Type 0
MakesAnew turn old new before after =
    (told : Option (List (List Row))) → let t = turn (record { core = old; told = told }) in
    (t.place ≡ record { core = new; told = None }) × (after ≡ before ++ t.actions)

-- A work stands behind the rows of the running attempt, from where it was started.
abbrev pub StandsBehind : (List (List Row) → Type 0) → Option (List (List Row)) → Type 0
StandsBehind stands (Some told) = stands told
StandsBehind stands None = ⊥

-- the same while an answer of its transaction is awaited; before, nothing is said of the work
abbrev pub BehindAsked : Asked → (List (List Row) → Type 0) → Option (List (List Row)) → Type 0
BehindAsked a.Run stands told = StandsBehind stands told
BehindAsked a.Pull stands told = StandsBehind stands told
BehindAsked a.Commit stands told = StandsBehind stands told
BehindAsked _ stands told = Unit {0}

abbrev pub BehindAt : Stage → (List (List Row) → Type 0) → Option (List (List Row)) → Type 0
BehindAt (stage.Awaits asked) stands told = BehindAsked asked stands told
BehindAt _ stands told = Unit {0}

-- the same as `Makes` where the work goes on with it
abbrev pub MakesWith :
    (List (List Row) → Type 0) → (List (List Row) → Type 0) → (SessionState → Turned) → Core → Core → List Action → List Action → Type 0
MakesWith stood stands turn old new before after =
    (told : Option (List (List Row))) → BehindAt old.stage stood told → let t = turn (record { core = old; told = told }) in
    (t.place.core ≡ new) × (after ≡ before ++ t.actions) × BehindAt new.stage stands t.place.told
