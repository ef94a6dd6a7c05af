use Rattle.std.proofs.Common.{◌≡◌, rules, true, false}
use Rattle.ncc_store.specs.Props.{pair_fits}
use Rattle.ncc_store.proofs.Tests.{passes_on, stops_at, passes_all}
use Rattle.ncc_store.proofs.node.pairs_fit.Goals as goal

pub loop-pair-preserved : goal.loop-pair-preserved
loop-pair-preserved c =
    let e : pair_fits c.pair-item.result ≡ true = search rules in
    passes_on pair_fits c.args.pairs.now c.loop-pair.pair-index c.pair-item.result c.loop-pair-test.true c.pair-item.is
    c.loop-pair.invariant e

pub returns-then-not-fits : goal.returns-then-not-fits
returns-then-not-fits c =
    let e : pair_fits c.pair-item.result ≡ false = search rules in
    stops_at pair_fits c.args.pairs.now c.loop-pair.pair-index c.pair-item.result c.loop-pair-test.true c.pair-item.is
    c.loop-pair.invariant e

pub returns : goal.returns
returns c = passes_all pair_fits c.args.pairs.now c.loop-pair.pair-index c.loop-pair-test.false c.loop-pair.invariant
