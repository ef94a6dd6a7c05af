use Rattle.std.proofs.Common.{[]}
use Rattle.std.proofs.lemmas.List.Elements.{All-nil}
use Rattle.std.proofs.lemmas.Result.{err_from_is_err_and}
use Rattle.ncc_store.proofs.Plain.{plain_pairs}
use Rattle.ncc_store.proofs.Running.{pairs_end, pairs_more, pairs_done}
use Rattle.ncc_store.proofs.run.pairs.Goals as goal

pub returns-in_err-value-clause-pairs : goal.returns-in_err-value-clause-pairs
returns-in_err-value-clause-pairs c =
    let p = err_from_is_err_and c.from_residual.result c.from_residual.ensures.1 in
    rw (p.1, p.2)
    (pairs_end c.args.params.now c.args.list.now c.loop-pair.pair-index c.pair-item.result c.loop-pair.draft _ c.loop-pair-test.true
    c.pair-item.is c.loop-pair.invariant c.in_err-value.field-0.0 c.in_err-value.ensures)

pub loop-pair-preserved : goal.loop-pair-preserved
loop-pair-preserved c =
    pairs_more c.args.params.now c.args.list.now c.loop-pair.pair-index c.pair-item.result c.loop-pair.draft _ c.loop-pair-test.true
    c.pair-item.is c.loop-pair.invariant
    c.in_ok-value.value c.as_str.result.now c.put.new.self c.in_ok-value.ensures c.as_str.ensures.same c.in_ok-put.ensures

pub returns-clause-pairs : goal.returns-clause-pairs
returns-clause-pairs c = pairs_done c.args.params.now c.args.list.now c.loop-pair.pair-index c.loop-pair.draft c.in_ok-into_dict.field-0
    _ c.loop-pair-test.false c.in_ok-into_dict.ensures.same c.loop-pair.invariant

pub returns-clause-plain : goal.returns-clause-plain
returns-clause-plain c =
    plain_pairs c.args.params.now [] c.in_ok-into_dict.field-0 c.args.list.now (All-nil _)
    (pairs_done c.args.params.now c.args.list.now c.loop-pair.pair-index c.loop-pair.draft c.in_ok-into_dict.field-0 _
    c.loop-pair-test.false c.in_ok-into_dict.ensures.same c.loop-pair.invariant)
