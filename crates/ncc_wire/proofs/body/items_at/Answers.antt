use Rattle.std.proofs.Common.{◌+◌, ap, refl, ◌∙◌, arith}
use Rattle.std.specs.Prelude.{ℕ}
use Rattle.ncc_wire.specs.declared.error.FrameError.TheVariants.{BadField}
use Rattle.ncc_wire.proofs.Lists.{pending_breaks, pending_more, pending_none}
use Rattle.ncc_wire.proofs.body.items_at.Goals as goal

pub loop-init : goal.loop-init
loop-init c = pending_none c.args.listing c.args.frame.now c.args.at c.new-items.result c.new-items.ensures.empty c.requires

pub read_item-requires : goal.read_item-requires
read_item-requires c = record { place = c.loop.invariant.inside }

pub loop-preserved : goal.loop-preserved
loop-preserved c =
    pending_more c.args.listing c.args.frame.now c.args.at c.loop.counter c.loop.items c.push.new.self c.loop.place c.in-Ok.behind
    c.loop.least c.next_least-least.result c.in-Ok.item c.in-Ok.ensures.found c.in-Ok.ensures.behind c.in_ok-push-in-Ok.ensures.ok
    c.next_least-least.ensures c.loop.invariant

pub returns : goal.returns
returns c = (c.loop.invariant.stand, omega (arith, c.loop.invariant.number), c.loop.invariant.place_is)

pub returns-in-Err-Wrong : goal.returns-in-Err-Wrong
returns-in-Err-Wrong c =
    let field = c.in-Err-Wrong.field in
    let wrong = (rw c.in-Err-Wrong.field-0-is at c.in-Err-Wrong.ensures.refused) field refl in
    let b = pending_breaks c.args.listing c.args.frame.now c.args.at c.loop.counter c.loop.items c.loop.place c.loop.least field
    c.loop-test.true wrong c.loop.invariant in
    let stands = rw c.in-Err-Wrong.field-0-is at c.offset.ensures.place in
    (b.0, b.1, ap (λ (n : ℕ). BadField n) (ap (λ (n : ℕ). c.loop.place + n) stands ∙ b.2))
