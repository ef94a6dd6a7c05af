-- When a session connects, and when it succeeds.
use Rattle.std.specs.Prelude.{◌≡◌, ◌⊎◌, ℕ, false, List, [], ◌∷◌, ◌++◌, Ok}
use Rattle.ncc_driver.specs.declared.config.SessionConfig.{SessionConfig}
use Rattle.ncc_driver.specs.declared.standing.Leg.{Leg}
use Rattle.ncc_driver.specs.declared.standing.Asked.{Asked}
use Rattle.ncc_driver.specs.declared.standing.Stage.TheVariants as stage
use Rattle.ncc_driver.specs.declared.action.Action.{Action}
use Rattle.ncc_driver.specs.declared.action.Action.TheVariants.{Connect, Finish}
use Rattle.ncc_driver.specs.declared.action.Input.{Input}
use Rattle.ncc_driver.specs.declared.action.Input.TheVariants as i
use Rattle.ncc_driver.specs.declared.action.WorkDone.{WorkDone}
use Rattle.ncc_driver.specs.Work.{Job}
use Rattle.ncc_driver.specs.Session.{State, on}
use Rattle.ncc_driver.specs.Laws.{linked_by, unless_lost, is_awaited}

-- A Connect is the last thing that a session wants done behind an input, where no link is there any more; then it waits for that link.
abbrev pub ConnectsLast : Type 0
ConnectsLast =
    (config : SessionConfig) (job : Job) (now : ℕ) (s : State) (input : Input) (front : List Action) (address : List ℕ) (back : List Action)
    → let r = on config job now s input in r.actions ≡ front ++ Connect address ∷ back
    → (back ≡ []) × ((leg : Leg) × (r.state.place.core.stage ≡ stage.Joins leg))
    × (linked_by (unless_lost input (is_awaited s.place.core.stage i.Lost)) front ≡ false)

-- It waits for a link only behind a Connect, or where it did before.
abbrev pub JoinsBehindConnect : Type 0
JoinsBehindConnect =
    (config : SessionConfig) (job : Job) (now : ℕ) (s : State) (input : Input) (leg : Leg)
    → let r = on config job now s input in r.state.place.core.stage ≡ stage.Joins leg
    → ((front : List Action) × (address : List ℕ) × (r.actions ≡ front ++ Connect address ∷ [])) ⊎ (s.place.core.stage ≡ stage.Joins leg)

-- A work ends in success only where an answer was awaited and bytes came.
abbrev pub SucceedsOnBytes : Type 0
SucceedsOnBytes =
    (config : SessionConfig) (job : Job) (now : ℕ) (s : State) (input : Input) (front : List Action) (done : WorkDone) (back : List Action)
    → (on config job now s input).actions ≡ front ++ Finish (Ok done) ∷ back
    → ((asked : Asked) × (s.place.core.stage ≡ stage.Awaits asked)) × ((bytes : List ℕ) × (input ≡ i.Bytes bytes))
