-- Which inputs are waited for.
use Rattle.std.proofs.Common.{◌≡◌, ℕ, false, refl}
use Rattle.ncc_driver.specs.declared.config.SessionConfig.{SessionConfig}
use Rattle.ncc_driver.specs.declared.standing.Stage.{Stage}
use Rattle.ncc_driver.specs.declared.standing.Stage.TheVariants as stage
use Rattle.ncc_driver.specs.declared.action.Input.{Input}
use Rattle.ncc_driver.specs.declared.action.Input.TheVariants as i
use Rattle.ncc_driver.specs.Work.{Job}
use Rattle.ncc_driver.specs.Session.{State, same, on_input, on}
use Rattle.ncc_driver.specs.Laws.{is_awaited, OthersChangeNothing, LostWhileLinked}
use Rattle.ncc_driver.proofs.LawsMakes.{on_makes}

unawaited : (config : SessionConfig) (job : Job) (now : ℕ) (s : State) (st : Stage) (input : Input) → is_awaited st input ≡ false
    → on_input config job now s st input ≡ same s
unawaited config job now s stage.Begun i.Start e = absurd (cc)
unawaited config job now s stage.Sleeps i.Woken e = absurd (cc)
unawaited config job now s (stage.Joins leg) i.Connected e = absurd (cc)
unawaited config job now s (stage.Joins leg) i.Lost e = absurd (cc)
unawaited config job now s (stage.Awaits asked) (i.Bytes bytes) e = absurd (cc)
unawaited config job now s (stage.Awaits asked) i.Lost e = absurd (cc)
unawaited config job now s _ input e = refl

pub others_change_nothing : OthersChangeNothing
unfolding on
others_change_nothing config job now s input e = unawaited config job now s s.place.core.stage input e

pub lost_while_linked : LostWhileLinked
lost_while_linked config job now s input = (on_makes config job now s input).link
