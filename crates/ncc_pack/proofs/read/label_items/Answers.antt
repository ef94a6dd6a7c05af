use Rattle.std.proofs.Common.{◌∙◌}
use Rattle.std.proofs.lemmas.Result.{err_from_is_err_and}
use Rattle.ncc_pack.specs.Reading.{label_at}
use Rattle.ncc_pack.proofs.Lists.{goes_on, ends, is_done}
use Rattle.ncc_pack.proofs.read.label_items.Goals as goal

pub returns-in_err-label-clause-read : goal.returns-in_err-label-clause-read
returns-in_err-label-clause-read c =
    let p = err_from_is_err_and c.from_residual-in_err-label.result c.from_residual-in_err-label.ensures.1 in
    let fails = rw c.loop.invariant.total at c.in_err-label.ensures.read in
    rw (p.1, p.2) (ends (label_at c.args.cursor.now.total) c.in_err-label.field-0.0 c.loop.labels.items c.args.count c.loop.counter
    c.loop.cursor.rest.now _ c.loop-test.true fails c.loop.invariant.read)

pub loop-preserved : goal.loop-preserved
loop-preserved c =
    let label = rw c.loop.invariant.total at c.in_ok-label.ensures.read in
    record {
      total = c.in_ok-label.ensures.total ∙ c.loop.invariant.total;
      read =
          rw c.in_ok-push.ensures.ok (goes_on (label_at c.args.cursor.now.total) c.loop.labels.items c.args.count c.loop.counter
          c.loop.cursor.rest.now _ _ _ c.loop-test.true label c.loop.invariant.read);
    }

pub returns-clause-read : goal.returns-clause-read
returns-clause-read c = rw c.into_sequence.ensures.same (is_done (label_at c.args.cursor.now.total) _ _ _ _ _ c.loop-test.false
    c.loop.invariant.read)
