use Rattle.std.proofs.Common.{◌≡◌, ◌<◌, true, false, refl, sym, ◌∙◌, arith}
use Rattle.std.specs.List.{list_any}
use Rattle.std.specs.Str.{bytes_eq}
use Rattle.std.proofs.lemmas.Result.{err_from_is_err_and}
use Rattle.ncc_pack.specs.Reading.{value_at, size_at}
use Rattle.ncc_pack.proofs.Lists.{goes_on, ends, is_done, fails_on, list_more, list_none, dict_more, dict_none, node_more, node_none}
use Rattle.ncc_pack.proofs.Keyed as keyed
use Rattle.ncc_pack.proofs.Keyed.{keys, has, in_set, not_in_set, one_more, key_fails, repeats, value_fails}
use Rattle.ncc_pack.proofs.read.+reading.Goals as goal

pub items_of-loop-preserved : goal.items_of-loop-preserved
items_of-loop-preserved t c =
    let item = rw c.loop.invariant.total at c.in_ok-item.ensures.read in
    record {
      total = c.in_ok-item.ensures.total ∙ c.loop.invariant.total;
      read =
          rw c.in_ok-push.ensures.ok (goes_on (value_at c.args.cursor.now.total c.args.levels) c.loop.items.items c.args.count
          c.loop.counter c.loop.cursor.rest.now _ _ _ c.loop-test.true item c.loop.invariant.read);
    }

pub items_of-returns-in_err-item-clause-read : goal.items_of-returns-in_err-item-clause-read
items_of-returns-in_err-item-clause-read t c =
    let p = err_from_is_err_and c.from_residual-in_err-item.result c.from_residual-in_err-item.ensures.1 in
    let fails = rw c.loop.invariant.total at c.in_err-item.ensures.read in
    rw (p.1, p.2) (ends (value_at c.args.cursor.now.total c.args.levels) c.in_err-item.field-0.0 c.loop.items.items c.args.count
    c.loop.counter c.loop.cursor.rest.now _ c.loop-test.true fails c.loop.invariant.read)

pub items_of-returns-clause-read : goal.items_of-returns-clause-read
items_of-returns-clause-read t c = rw c.into_sequence.ensures.same (is_done
    (value_at c.args.cursor.now.total c.args.levels) _ _ _ _ _ c.loop-test.false c.loop.invariant.read)

pub few_pairs_of-returns-in_err-key-clause-read : goal.few_pairs_of-returns-in_err-key-clause-read
few_pairs_of-returns-in_err-key-clause-read t c =
    let p = err_from_is_err_and c.from_residual-in_err-key.result c.from_residual-in_err-key.ensures.1 in
    let fails = rw c.loop.invariant.total at c.in_err-key.ensures.read in
    rw (p.1, p.2) (key_fails c.args.cursor.now.total (value_at c.args.cursor.now.total c.args.levels) c.loop.pairs.items
    c.args.count c.loop.counter c.loop.cursor.rest.now _ c.loop-test.true c.loop.invariant.read c.in_err-key.field-0.0 fails)

pub few_pairs_of-returns-then-has_key-clause-read : goal.few_pairs_of-returns-then-has_key-clause-read
few_pairs_of-returns-then-has_key-clause-read t c =
    let key = rw c.loop.invariant.total at c.in_ok-key.ensures.read in
    let place = rw c.loop.invariant.total at c.place-at.ensures.exact in
    let r : list_any (bytes_eq c.in_ok-key.key.now) (keys c.loop.pairs.items) ≡ true =
    rw (← c.as_slice.ensures.same) (sym c.has_key.ensures ∙ c.if-has_key.true) in
    rw place (repeats c.args.cursor.now.total (value_at c.args.cursor.now.total c.args.levels) c.loop.pairs.items c.args.count
    c.loop.counter c.loop.cursor.rest.now _ c.loop-test.true c.loop.invariant.read _ _ key r)

pub few_pairs_of-returns-in_err-value-clause-read : goal.few_pairs_of-returns-in_err-value-clause-read
few_pairs_of-returns-in_err-value-clause-read t c =
    let p = err_from_is_err_and c.from_residual-in_err-value.result c.from_residual-in_err-value.ensures.1 in
    let key = rw c.loop.invariant.total at c.in_ok-key.ensures.read in
    let total = c.in_ok-key.ensures.total ∙ c.loop.invariant.total in
    let fails = rw total at c.in_err-value.ensures.read in
    let r : list_any (bytes_eq c.in_ok-key.key.now) (keys c.loop.pairs.items) ≡ false =
    rw (← c.as_slice.ensures.same) (sym c.has_key.ensures ∙ c.if-has_key.false) in
    rw (p.1, p.2) (value_fails c.args.cursor.now.total (value_at c.args.cursor.now.total c.args.levels) c.loop.pairs.items
    c.args.count c.loop.counter c.loop.cursor.rest.now _ c.loop-test.true c.loop.invariant.read _ _ c.in_err-value.field-0.0 key r fails)

pub few_pairs_of-loop-preserved : goal.few_pairs_of-loop-preserved
few_pairs_of-loop-preserved t c =
    let key = rw c.loop.invariant.total at c.in_ok-key.ensures.read in
    let total = c.in_ok-key.ensures.total ∙ c.loop.invariant.total in
    let value = rw total at c.in_ok-value.ensures.read in
    let r : list_any (bytes_eq c.in_ok-key.key.now) (keys c.loop.pairs.items) ≡ false =
    rw (← c.as_slice.ensures.same) (sym c.has_key.ensures ∙ c.if-has_key.false) in
    record {
      total = c.in_ok-value.ensures.total ∙ total;
      read =
          rw (c.in_ok-push.ensures.ok, c.in_ok-from_str.ensures.same) (keyed.goes_on c.args.cursor.now.total
          (value_at c.args.cursor.now.total c.args.levels) c.loop.pairs.items c.args.count c.loop.counter
          c.loop.cursor.rest.now _ c.loop-test.true c.loop.invariant.read _ _ _ _ key r value);
    }

pub few_pairs_of-returns-clause-read : goal.few_pairs_of-returns-clause-read
few_pairs_of-returns-clause-read t c = rw c.into_sequence.ensures.same (keyed.is_done c.args.cursor.now.total
    (value_at c.args.cursor.now.total c.args.levels) _ _ _ _ _ c.loop-test.false c.loop.invariant.read)

pub many_pairs_of-returns-in_err-key-clause-read : goal.many_pairs_of-returns-in_err-key-clause-read
many_pairs_of-returns-in_err-key-clause-read t c =
    let p = err_from_is_err_and c.from_residual-in_err-key.result c.from_residual-in_err-key.ensures.1 in
    let fails = rw c.loop.invariant.total at c.in_err-key.ensures.read in
    rw (p.1, p.2) (key_fails c.args.cursor.now.total (value_at c.args.cursor.now.total c.args.levels) c.loop.pairs.items
    c.args.count c.loop.counter c.loop.cursor.rest.now _ c.loop-test.true c.loop.invariant.read c.in_err-key.field-0.0 fails)

pub many_pairs_of-returns-then-not-branch-clause-read : goal.many_pairs_of-returns-then-not-branch-clause-read
many_pairs_of-returns-then-not-branch-clause-read t c =
    let key = rw c.loop.invariant.total at c.in_ok-key.ensures.read in
    let place = rw c.loop.invariant.total at c.place-at.ensures.exact in
    let r : list_any (bytes_eq c.in_ok-key.key.now) (keys c.loop.pairs.items) ≡ true =
    sym (c.loop.invariant.seen c.in_ok-key.key.now)
    ∙ in_set c.in_ok-insert.field-0 (has c.loop.seen c.in_ok-key.key.now) c.if-not-branch.true c.in_ok-insert.ensures.added in
    rw place (repeats c.args.cursor.now.total (value_at c.args.cursor.now.total c.args.levels) c.loop.pairs.items c.args.count
    c.loop.counter c.loop.cursor.rest.now _ c.loop-test.true c.loop.invariant.read _ _ key r)

pub many_pairs_of-returns-in_err-value-clause-read : goal.many_pairs_of-returns-in_err-value-clause-read
many_pairs_of-returns-in_err-value-clause-read t c =
    let p = err_from_is_err_and c.from_residual-in_err-value.result c.from_residual-in_err-value.ensures.1 in
    let key = rw c.loop.invariant.total at c.in_ok-key.ensures.read in
    let total = c.in_ok-key.ensures.total ∙ c.loop.invariant.total in
    let fails = rw total at c.in_err-value.ensures.read in
    let r : list_any (bytes_eq c.in_ok-key.key.now) (keys c.loop.pairs.items) ≡ false =
    sym (c.loop.invariant.seen c.in_ok-key.key.now)
    ∙ not_in_set c.in_ok-insert.field-0 (has c.loop.seen c.in_ok-key.key.now) c.if-not-branch.false c.in_ok-insert.ensures.added in
    rw (p.1, p.2) (value_fails c.args.cursor.now.total (value_at c.args.cursor.now.total c.args.levels) c.loop.pairs.items
    c.args.count c.loop.counter c.loop.cursor.rest.now _ c.loop-test.true c.loop.invariant.read _ _ c.in_err-value.field-0.0 key r fails)

pub many_pairs_of-loop-preserved : goal.many_pairs_of-loop-preserved
many_pairs_of-loop-preserved t c =
    let key = rw c.loop.invariant.total at c.in_ok-key.ensures.read in
    let total = c.in_ok-key.ensures.total ∙ c.loop.invariant.total in
    let value = rw total at c.in_ok-value.ensures.read in
    let r : list_any (bytes_eq c.in_ok-key.key.now) (keys c.loop.pairs.items) ≡ false =
    sym (c.loop.invariant.seen c.in_ok-key.key.now)
    ∙ not_in_set c.in_ok-insert.field-0 (has c.loop.seen c.in_ok-key.key.now) c.if-not-branch.false c.in_ok-insert.ensures.added in
    record {
      total = c.in_ok-value.ensures.total ∙ total;
      read =
          rw (c.in_ok-push.ensures.ok, c.in_ok-from_str.ensures.same) (keyed.goes_on c.args.cursor.now.total
          (value_at c.args.cursor.now.total c.args.levels) c.loop.pairs.items c.args.count c.loop.counter
          c.loop.cursor.rest.now _ c.loop-test.true c.loop.invariant.read _ _ _ _ key r value);
      seen =
          rw (c.in_ok-push.ensures.ok, c.in_ok-from_str.ensures.same) (one_more c.loop.seen c.insert.new.self c.in_ok-key.key
          c.loop.pairs.items c.in_ok-value.value c.in_ok-insert.ensures.updates c.loop.invariant.seen);
    }

pub many_pairs_of-returns-clause-read : goal.many_pairs_of-returns-clause-read
many_pairs_of-returns-clause-read t c = rw c.into_sequence.ensures.same (keyed.is_done c.args.cursor.now.total
    (value_at c.args.cursor.now.total c.args.levels) _ _ _ _ _ c.loop-test.false c.loop.invariant.read)

pub list_of-returns-then-levels-eq0-clause-read : goal.list_of-returns-then-levels-eq0-clause-read
list_of-returns-then-levels-eq0-clause-read t c = rw c.if-levels-eq0.true (list_none _ _ _ _)

pub list_of-returns-in_err-count-clause-read : goal.list_of-returns-in_err-count-clause-read
list_of-returns-in_err-count-clause-read t c =
    let p = err_from_is_err_and c.from_residual.result c.from_residual.ensures.1 in
    let lt : 0 < c.args.levels = omega arith in
    rw (p.1, p.2, list_more c.args.cursor.now.total c.args.levels c.args.at c.args.size c.args.cursor.now.rest.now lt)
    (fails_on c.in_err-count.field-0.0 (size_at c.args.at c.args.size c.args.cursor.now.rest.now) _ (λ h. rw h refl)
    c.in_err-count.ensures.read)

pub list_of-returns-clause-read : goal.list_of-returns-clause-read
list_of-returns-clause-read t c =
    let lt : 0 < c.args.levels = omega arith in
    let inner = rw c.in_ok-count.ensures.total at c.items_of.ensures.read in
    rw (list_more c.args.cursor.now.total c.args.levels c.args.at c.args.size c.args.cursor.now.rest.now lt, c.in_ok-count.ensures.read)
    inner

pub dict_of-returns-then-levels-eq0-clause-read : goal.dict_of-returns-then-levels-eq0-clause-read
dict_of-returns-then-levels-eq0-clause-read t c = rw c.if-levels-eq0.true (dict_none _ _ _ _)

pub dict_of-returns-in_err-count-clause-read : goal.dict_of-returns-in_err-count-clause-read
dict_of-returns-in_err-count-clause-read t c =
    let p = err_from_is_err_and c.from_residual.result c.from_residual.ensures.1 in
    let lt : 0 < c.args.levels = omega arith in
    rw (p.1, p.2, dict_more c.args.cursor.now.total c.args.levels c.args.at c.args.size c.args.cursor.now.rest.now lt)
    (fails_on c.in_err-count.field-0.0 (size_at c.args.at c.args.size c.args.cursor.now.rest.now) _ (λ h. rw h refl)
    c.in_err-count.ensures.read)

pub dict_of-returns-clause-read : goal.dict_of-returns-clause-read
dict_of-returns-clause-read t c =
    let lt : 0 < c.args.levels = omega arith in
    let inner = rw c.in_ok-count.ensures.total at c.pairs_of.ensures.read in
    rw (dict_more c.args.cursor.now.total c.args.levels c.args.at c.args.size c.args.cursor.now.rest.now lt, c.in_ok-count.ensures.read)
    inner

pub node_of-returns-then-levels-lt2-clause-read : goal.node_of-returns-then-levels-lt2-clause-read
node_of-returns-then-levels-lt2-clause-read t c = node_none c.args.cursor.now.total c.args.levels c.args.at c.args.cursor.now.rest.now
    c.if-levels-lt2.true

pub node_of-returns-clause-read : goal.node_of-returns-clause-read
node_of-returns-clause-read t c =
    let lt : 1 < c.args.levels = omega arith in
    rw (node_more c.args.cursor.now.total c.args.levels c.args.at c.args.cursor.now.rest.now lt) c.fields_of.ensures.read
