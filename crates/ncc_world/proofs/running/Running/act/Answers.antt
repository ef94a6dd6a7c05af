use Rattle.std.proofs.Common.{◌≡◌, ◌∙◌, true, Some, sym, ap, subst}
use Rattle.ncc_driver.specs.declared.action.Action.{Action}
use Rattle.ncc_clients.specs.Drives.{does_by, joined}
use Rattle.ncc_clients.specs.Held.{effect_fits}
use Rattle.ncc_clients.specs.declared.driver.Effect.{Effect}
use Rattle.ncc_world.specs.Setting.{cluster_of}
use Rattle.ncc_world.specs.Happening.{WorldRun}
use Rattle.ncc_world.specs.Drivers.{ended_as, with_one}
use Rattle.ncc_world.specs.Parts.{RunsMid, with_own}
use Rattle.ncc_world.proofs.Doing.{ends_so, joins_so, mid_with, nothing_more, parts_so, sleeps_so}
use Rattle.ncc_world.proofs.running.Running.act.Goals as goal

pub returns-in-Nothing-clause-ok : goal.returns-in-Nothing-clause-ok
returns-in-Nothing-clause-ok c = λ r d action behind pending there h e.
    let s = c.args.setup.now in
    let x = nothing_more s c.args.line c.args.index r d action there (sym c.in-Nothing.is ∙ e) in
    (x.0, subst (λ (t : WorldRun). RunsMid s c.args.index behind pending c.args.self.now t) x.1 h)

pub returns-in_ok-told-in-Joins-clause-ok : goal.returns-in_ok-told-in-Joins-clause-ok
returns-in_ok-told-in-Joins-clause-ok c = λ r d action behind pending there h e.
    let s = c.args.setup.now in
    let at = c.args.index in
    let x = joins_so r at d action c.in-Joins.address there (sym c.in-Joins.is ∙ e) in
    let here : RunsMid s at behind pending c.args.self.now r =
    subst (λ (t : WorldRun). RunsMid s at behind pending c.args.self.now t) x.same h in
    let y = c.in_ok-told-in-Joins.ensures.ok r d behind pending there here in (
      y.0 ∙ ap (λ (a : Action). joined (cluster_of s) (Some a)) (sym x.is),
      subst (λ (a : Action). RunsMid s at behind pending c.join.new.self (does_by (cluster_of s) c.args.line at r d a)) (sym x.is) y.1,
    )

pub returns-in_ok-part-in-Parts-clause-ok : goal.returns-in_ok-part-in-Parts-clause-ok
returns-in_ok-part-in-Parts-clause-ok c = λ r d action behind pending there h e.
    let s = c.args.setup.now in
    let at = c.args.index in
    let x = parts_so s c.args.line at r d action c.in-Parts.conn c.in-Parts.bytes (sym c.in-Parts.is ∙ e) in (
      x.0,
      subst (λ (t : WorldRun). RunsMid s at behind pending c.part.new.self t) x.1
          (c.in_ok-part-in-Parts.ensures.ok at behind pending (with_own r at d action) h),
    )

pub returns-in_ok-sleep-in-Sleeps-clause-ok : goal.returns-in_ok-sleep-in-Sleeps-clause-ok
returns-in_ok-sleep-in-Sleeps-clause-ok c = λ r d action behind pending there h e.
    let s = c.args.setup.now in
    let at = c.args.index in
    let x = sleeps_so r at d action c.in-Sleeps.until there (sym c.in-Sleeps.is ∙ e) in
    let here : RunsMid s at behind pending c.args.self.now r =
    subst (λ (t : WorldRun). RunsMid s at behind pending c.args.self.now t) x.same h in
    let k = c.in_ok-sleep-in-Sleeps.ensures.ok s r.now r.driving d behind pending there here.awake here.drives in
    let after = mid_with s at behind behind pending c.args.self.now r c.sleep.new.self
    (with_one at (record d { wakes = Some c.in-Sleeps.until }) r.driving) here k in (
      ap (λ (a : Action). joined (cluster_of s) (Some a)) (sym x.is),
      subst (λ (a : Action). RunsMid s at behind pending (record c.args.self.now { drivers = c.sleep.new.self })
          (does_by (cluster_of s) c.args.line at r d a)) (sym x.is) after,
    )

pub end-requires-clause-fits : goal.end-requires-clause-fits
end-requires-clause-fits c = subst (λ (x : Effect). effect_fits x ≡ true) c.in-Ends.is c.requires.fits

pub returns-in_ok-end-in-Ends-clause-ok : goal.returns-in_ok-end-in-Ends-clause-ok
returns-in_ok-end-in-Ends-clause-ok c = λ r d action behind pending there h e.
    let s = c.args.setup.now in
    let at = c.args.index in
    let x = ends_so r at d action c.in-Ends.ended there (sym c.in-Ends.is ∙ e) in
    let here : RunsMid s at behind pending c.args.self.now r =
    subst (λ (t : WorldRun). RunsMid s at behind pending c.args.self.now t) x.same h in
    let k = c.in_ok-end-in-Ends.ensures.ok s r.now r.driving d behind pending here.drives in
    let after = mid_with s at behind behind pending c.args.self.now r c.end.new.self
    (ended_as c.args.line at d c.in-Ends.ended r.driving) here k in (
      ap (λ (a : Action). joined (cluster_of s) (Some a)) (sym x.is),
      subst (λ (a : Action). RunsMid s at behind pending (record c.args.self.now { drivers = c.end.new.self })
          (does_by (cluster_of s) c.args.line at r d a)) (sym x.is) after,
    )
