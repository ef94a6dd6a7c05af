use Rattle.std.proofs.Common.{rules, to_z-of_z, sym, ap, ◌∙◌}
use Rattle.std.proofs.lemmas.Fn.{always_returns_same}
use Rattle.ncc_store.specs.Graph.{find}
use Rattle.ncc_store.proofs.Searched.{hit, missed}
use Rattle.ncc_store.proofs.store.Store.node.Goals as goal

pub returns-in-Ok-clause-found : goal.returns-in-Ok-clause-found
returns-in-Ok-clause-found c =
    hit c.args.id _ c.self.inside.nodes.items c.deref.result.now c.in-Ok.place c.index.result.now (to_z-of_z c.ranges.id)
    c.deref.ensures.value c.self.invariant.placed.ascending c.in-Ok.ensures.bound
    (c.in-Ok.ensures.position (λ n. n.id) (always_returns_same _ _ _ (λ a r f k. search rules))) c.index.ensures
    ∙ ap (λ g. find c.args.id g.nodes) c.self.view_is

pub returns-in-Err-clause-found : goal.returns-in-Err-clause-found
returns-in-Err-clause-found c =
    sym (missed c.args.id _ c.self.inside.nodes.items c.deref.result.now c.in-Err.field-0 (to_z-of_z c.ranges.id) c.deref.ensures.value
    c.self.invariant.placed.ascending
    (c.in-Err.ensures.position (λ n. n.id) (always_returns_same _ _ _ (λ a r f k. search rules))))
    ∙ ap (λ g. find c.args.id g.nodes) c.self.view_is
