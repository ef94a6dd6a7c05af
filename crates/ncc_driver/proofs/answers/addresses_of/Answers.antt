use Rattle.ncc_driver.proofs.TableParts.{addresses_more, addresses_all}
use Rattle.ncc_driver.proofs.answers.addresses_of.Goals as goal

pub loop-value-preserved : goal.loop-value-preserved
loop-value-preserved c =
    λ whole h. addresses_more _ _ _ _ whole _ _ c.loop-value-test.true c.value-item.is (c.loop-value.invariant whole h)
    c.in_ok-add_server.ensures

pub returns : goal.returns
returns c = λ whole h. addresses_all _ _ _ whole _ c.loop-value-test.false (c.loop-value.invariant whole h)
