use Rattle.std.proofs.Common.{◌∙◌, ◌-◌, Bool, cond, None, Some, ap, sym}
use Rattle.ncc_world.specs.declared.error.WorldError.TheVariants.{Busy}
use Rattle.ncc_world.specs.Parts.{drivers_in}
use Rattle.ncc_world.proofs.Refusing.{has_within, refuses_one}
use Rattle.ncc_world.proofs.Sessions.{was_at}
use Rattle.std.proofs.Common.{length}
use Rattle.ncc_world.proofs.drivers.Drivers.refuses_work.Goals as goal

pub returns-then-is_busy : goal.returns-then-is_busy
returns-then-is_busy c =
    let k = drivers_in c.args.self.now in
    let old = c.index.result.now in
    let has = sym c.has.ensures.exact ∙ c.if-not-has.false in
    let was = was_at k.list (c.args.session - 1) old (has_within (length k.list) c.args.session has) c.index.ensures in
    record {
      exact = λ s now driving w. ap (λ (b : Bool). cond b (Some Busy) None) (sym c.if-is_busy.true)
          ∙ refuses_one s k now driving c.args.session old c.is_busy.result has was c.is_busy.ensures.same w;
    }

pub returns : goal.returns
returns c =
    let k = drivers_in c.args.self.now in
    let old = c.index.result.now in
    let has = sym c.has.ensures.exact ∙ c.if-not-has.false in
    let was = was_at k.list (c.args.session - 1) old (has_within (length k.list) c.args.session has) c.index.ensures in
    record {
      exact = λ s now driving w. ap (λ (b : Bool). cond b (Some Busy) None) (sym c.if-is_busy.false)
          ∙ refuses_one s k now driving c.args.session old c.is_busy.result has was c.is_busy.ensures.same w;
    }
