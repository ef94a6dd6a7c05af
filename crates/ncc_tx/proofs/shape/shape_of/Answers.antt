use Rattle.std.proofs.Common.{sym, ◌∙◌}
use Rattle.ncc_tx.proofs.Shapes.{no_shape, differ}
use Rattle.ncc_tx.proofs.shape.shape_of.Goals as goal

pub returns-in_default-two_of : goal.returns-in_default-two_of
returns-in_default-two_of c = no_shape c.args.value c.in_default.not-Null c.in_default-two_of.ensures

pub returns-else-len : goal.returns-else-len
returns-else-len c =
    let calls = rw c.in-Some-2.is at c.in_ok-calls.ensures in
    let told = rw c.in-Some-3.is at c.in_ok-told.ensures in
    differ c.args.value c.in-Some.front c.in-Some.back c.in-Some-2.calls c.in-Some-3.told c.in-Some.ensures calls told
    (λ e. c.if-len.false (c.len.ensures.length ∙ e ∙ sym c.len-2.ensures.length))
