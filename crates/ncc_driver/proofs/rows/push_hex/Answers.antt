use Rattle.std.proofs.Common.{refl}
use Rattle.ncc_driver.proofs.RowTexts.{no_hex, pushed_hex}
use Rattle.ncc_driver.proofs.rows.push_hex.Goals as goal

pub loop-byte-init : goal.loop-byte-init
loop-byte-init c = no_hex _

pub loop-byte-preserved : goal.loop-byte-preserved
loop-byte-preserved c =
    pushed_hex _ _ _ _ _ _ _ _ _ c.loop-byte-test.true refl c.loop-byte.invariant c.digit.ensures c.digit-in-loop-byte.ensures
    c.in_ok-push_str.ensures.ok c.in_ok-push_str-2.ensures.ok
