-- What a session waits for is told by the last thing that it wants done.
use Rattle.std.specs.Prelude.{◌≡◌, ℕ, true, List, [], ◌∷◌, ◌++◌, IsTrue}
use Rattle.ncc_driver.specs.declared.config.SessionConfig.{SessionConfig}
use Rattle.ncc_driver.specs.declared.standing.Stage.{Stage}
use Rattle.ncc_driver.specs.declared.standing.Stage.TheVariants as stage
use Rattle.ncc_driver.specs.declared.action.Action.{Action}
use Rattle.ncc_driver.specs.declared.action.Action.TheVariants.{Connect, Sleep, Receive, Finish}
use Rattle.ncc_driver.specs.declared.action.Input.{Input}
use Rattle.ncc_driver.specs.declared.action.Input.TheVariants as i
use Rattle.ncc_driver.specs.Config.{config_fits}
use Rattle.ncc_driver.specs.Session.{Moved, Begun, session, acts}
use Rattle.ncc_driver.specs.Talk.{grown}
use Rattle.ncc_driver.specs.Laws.{is_awaited}
use Rattle.ncc_driver.specs.LawsLegs.{DoneIn}

-- Behind a Connect it waits for the link, behind a Receive for an answer, and behind a Sleep until it is woken; behind a Finish no work
-- runs. It waits behind nothing else: no Send and no Close is ever the last.
abbrev pub WaitsBehind : Action → Stage → Type 0
WaitsBehind (Connect address) (stage.Joins leg) = Unit {0}
WaitsBehind Receive (stage.Awaits asked) = Unit {0}
WaitsBehind (Sleep until) stage.Sleeps = Unit {0}
WaitsBehind (Finish end) stage.Rests = Unit {0}
WaitsBehind _ _ = ⊥

-- There is a last of these actions, and so it waits behind it.
abbrev pub EndsWaiting : List Action → Stage → Type 0
EndsWaiting actions st = (front : List Action) × (last : Action) × (actions ≡ front ++ last ∷ []) × WaitsBehind last st

abbrev pub stage_of : SessionConfig → List Begun → Stage
stage_of config works = (session config works).state.place.core.stage

-- In a work that was told to start something is wanted done, and the last of it tells what is waited for.
abbrev pub WaitsByLast : Type 0
WaitsByLast =
    (config : SessionConfig) (works : List Begun) (work : Begun) (now : ℕ) (inputs : List Moved) → IsTrue (config_fits config)
    → work.inputs ≡ (i.Start, now) ∷ inputs
    → (done : List Action) × DoneIn config works work done × EndsWaiting done (stage_of config (works ++ work ∷ []))

-- At each input that is waited for something more is wanted done, and the last of it tells what is waited for then.
abbrev pub GoesOnBehindAwaited : Type 0
GoesOnBehindAwaited =
    (config : SessionConfig) (works : List Begun) (work : Begun) (input : Input) (now : ℕ) → IsTrue (config_fits config)
    → is_awaited (stage_of config (works ++ work ∷ [])) input ≡ true
    → let told = works ++ grown work input now ∷ [] in
    (more : List Action) × (acts config told ≡ acts config (works ++ work ∷ []) ++ more) × EndsWaiting more (stage_of config told)
