use Rattle.std.proofs.Common.{◌≡◌, ◌∙◌, ℕ, true, List, [], Option, Some, sym, subst}
use Rattle.std.specs.Prelude.{IfNone, IfSome}
use Rattle.ncc_driver.specs.declared.action.Action.{Action}
use Rattle.ncc_clients.specs.Links.{Driver, Driving}
use Rattle.ncc_clients.specs.Drives.{does_all}
use Rattle.ncc_clients.specs.Held.{effect_fits}
use Rattle.ncc_clients.specs.declared.driver.Effect.{Effect}
use Rattle.ncc_world.specs.declared.setup.Setup.{Setup}
use Rattle.ncc_world.specs.declared.drivers.Drivers.{Drivers}
use Rattle.ncc_world.specs.Setting.{cluster_of}
use Rattle.ncc_world.specs.Drivers.{AreAtWork, DoesFirst}
use Rattle.ncc_world.specs.Parts.{RunsMid, drivers_in}
use Rattle.ncc_world.proofs.Emptying.{does_end, does_first, does_step, has_begun}
use Rattle.ncc_world.proofs.running.Running.act_all.Goals as goal

-- what the sessions stand for where there was an action
abbrev Firsts : ℕ → Drivers → Drivers → Effect → Type 0
Firsts index old new effect =
    (s : Setup) (d : Driver) (left : List Action) → DoesFirst s index (drivers_in old) (drivers_in new) d left effect

first_some : (index : ℕ) (old new : Drivers) (o : Option Effect) (effect : Effect) → o ≡ Some effect → IfSome o (Firsts index old new)
    → Firsts index old new effect
first_some index old new o effect e h = subst (λ (x : Option Effect). IfSome x (Firsts index old new)) e h

abbrev Nothings : ℕ → Drivers → Type 0
Nothings index old =
    (s : Setup) (now : ℕ) (driving : Driving) (left : List Action) (pending : List ℕ)
    → AreAtWork s index left pending (drivers_in old) now driving → left ≡ []

pub act-requires-clause-live : goal.act-requires-clause-live
act-requires-clause-live c =
    let s = c.args.setup.now in
    let at = c.args.index in
    let h = c.requires.live in
    let x = c.loop-told.invariant.does h.run h.driver h.left h.pending h.there h.runs_mid in
    let f = first_some at c.loop-told.self.drivers c.next.new.self c.in_ok-effect.field-0 c.in-Some.effect c.in-Some.is c.in_ok-effect.ensures.some in
    has_begun s at x.left h.pending (record c.loop-told.self { drivers = c.next.new.self }) x.run x.driver c.in-Some.effect x.there
    (does_first s at x.left h.pending c.loop-told.self x.run x.driver c.next.new.self c.in-Some.effect x.there x.runs_mid (f s x.driver x.left))

pub act-requires-clause-fits : goal.act-requires-clause-fits
act-requires-clause-fits c =
    subst (λ (o : Option Effect). IfSome o (λ (x : Effect). effect_fits x ≡ true)) c.in-Some.is c.in_ok-effect.ensures.fits

pub loop-told-smaller : goal.loop-told-smaller
loop-told-smaller c =
    let s = c.args.setup.now in
    let at = c.args.index in
    let h = c.requires.live in
    let x = c.loop-told.invariant.does h.run h.driver h.left h.pending h.there h.runs_mid in
    let f = first_some at c.loop-told.self.drivers c.next.new.self c.in_ok-effect.field-0 c.in-Some.effect c.in-Some.is c.in_ok-effect.ensures.some in
    (does_step s c.args.line at h.left h.pending h.run c.loop-told.self c.act.new.self c.loop-told.told c.in_ok-told.told c.next.new.self
    c.in-Some.effect x (λ d left. f s d left) c.in_ok-told.ensures.ok (c.in_ok-told.ensures.count ∙ c.in_ok-effect.ensures.count)).less

pub loop-told-preserved : goal.loop-told-preserved
loop-told-preserved c = record {
  count = c.in_ok-told.ensures.count ∙ c.in_ok-effect.ensures.count ∙ c.loop-told.invariant.count;
  does = λ r d left pending there h.
      let s = c.args.setup.now in
      let at = c.args.index in
      let x = c.loop-told.invariant.does r d left pending there h in
      let f = first_some at c.loop-told.self.drivers c.next.new.self c.in_ok-effect.field-0 c.in-Some.effect c.in-Some.is c.in_ok-effect.ensures.some in
      (does_step s c.args.line at left pending r c.loop-told.self c.act.new.self c.loop-told.told c.in_ok-told.told c.next.new.self
      c.in-Some.effect x (λ e more. f s e more) c.in_ok-told.ensures.ok (c.in_ok-told.ensures.count ∙ c.in_ok-effect.ensures.count)).on;
}

pub returns-clause-ok : goal.returns-clause-ok
returns-clause-ok c = λ r d left pending there h.
    let s = c.args.setup.now in
    let at = c.args.index in
    let x = c.loop-told.invariant.does r d left pending there h in
    let same : c.next.new.self ≡ c.loop-told.self.drivers =
    subst (λ (o : Option Effect). IfNone o (c.next.new.self ≡ c.loop-told.self.drivers)) c.in_default.is c.in_ok-effect.ensures.same in
    let nothing : Nothings at c.loop-told.self.drivers =
    subst (λ (o : Option Effect). IfNone o (Nothings at c.loop-told.self.drivers)) c.in_default.is c.in_ok-effect.ensures.none in
    let e = does_end s c.args.line at left pending r c.loop-told.self c.loop-told.told x
    (nothing s x.run.now x.run.driving x.left pending x.runs_mid.drives) in (
      e.0,
      subst (λ (ds : Drivers). RunsMid s at [] pending (record c.loop-told.self { drivers = ds }) (does_all (cluster_of s) c.args.line at left r))
          (sym same) e.1,
    )
