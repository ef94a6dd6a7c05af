use Rattle.std.proofs.Common.{◌≡◌, true, sym, ◌∙◌}
use Rattle.std.specs.Str.{bytes_eq}
use Rattle.ncc_pack.proofs.Fitting.{key_found}
use Rattle.ncc_pack.proofs.fit.has_key.Goals as goal

pub returns-then-eq : goal.returns-then-eq
returns-then-eq c =
    let same : bytes_eq c.args.key.now c.pair-item.result.0 ≡ true = rw (← c.as_str.ensures.same) (sym c.eq.ensures ∙ c.if-eq.true) in
    sym (key_found c.args.key.now c.args.pairs.now c.loop-pair.pair-index c.pair-item.result c.loop-pair-test.true c.pair-item.is same)
