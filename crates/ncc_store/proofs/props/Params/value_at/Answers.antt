use Rattle.std.proofs.Common.{ap, ◌∙◌}
use Rattle.ncc_store.proofs.Found.{now_of, shared-is}
use Rattle.ncc_store.proofs.props.Params.value_at.Goals as goal

pub returns-in-None : goal.returns-in-None
returns-in-None c = rw (← c.self.view_is) (ap now_of c.in-None.ensures.value ∙ shared-is c.args.name.now c.self.inside.places
    ∙ c.self.invariant c.args.name.now)

pub returns-in-Some : goal.returns-in-Some
returns-in-Some c = rw (← c.self.view_is) (ap now_of c.in-Some.ensures.value ∙ shared-is c.args.name.now c.self.inside.places
    ∙ c.self.invariant c.args.name.now)
