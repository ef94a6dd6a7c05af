use Rattle.std.proofs.Common.{rules}
use Rattle.std.proofs.lemmas.Fn.{always_returns_same}
use Rattle.ncc_store.specs.Props.{name_cmp}
use Rattle.ncc_store.proofs.Keys.{found, absent}
use Rattle.ncc_store.proofs.props.value_at.Goals as goal

pub returns-in-Ok : goal.returns-in-Ok
returns-in-Ok c =
    let by_key = c.in-Ok.ensures.position (λ p. name_cmp p.0 c.args.key.now) (always_returns_same _ _ _ (λ a r g called. search rules)) in
    found c.args.pairs.now c.requires c.args.key.now c.in-Ok.place c.index-pairs-place.result c.in-Ok.ensures.bound by_key

pub returns-in-Err : goal.returns-in-Err
returns-in-Err c =
    let by_key = c.in-Err.ensures.position (λ p. name_cmp p.0 c.args.key.now) (always_returns_same _ _ _ (λ a r g called. search rules)) in
    absent c.args.pairs.now c.requires c.args.key.now c.in-Err.field-0 by_key
