use Rattle.std.proofs.Common.{rules, refl}
use Rattle.std.proofs.lemmas.Fn.{always_returns_same}
use Rattle.ncc_store.proofs.Searched.{placed, not_placed}
use Rattle.ncc_store.proofs.store.renew_one.Goals as goal

pub returns-in-Ok : goal.returns-in-Ok
returns-in-Ok c = placed _ c.args.node c.args.nodes.now c.in-Ok.place refl c.requires c.in-Ok.ensures.bound (c.in-Ok.ensures.position
    (λ n. n.id) (always_returns_same _ _ _ (λ a r f k. search rules)))

pub returns-in_default : goal.returns-in_default
returns-in_default c = not_placed _ c.args.node c.args.nodes.now c.in_default.field-0 refl c.requires (c.in_default.ensures.position
    (λ n. n.id) (always_returns_same _ _ _ (λ a r f k. search rules)))
