use Rattle.std.proofs.Common.{◌≡◌, ◌-◌, ◌+◌, length, drop, refl, ap, ◌∙◌, arith}
use Rattle.std.proofs.lemmas.Result.{err_from_is_err_and}
use Rattle.ncc_pack.proofs.Fields.{IsBytes, IsBytes-drop}
use Rattle.ncc_pack.proofs.Laws.{used, found, only_ok, only_err, drop_more, drop_size}
use Rattle.ncc_pack.proofs.read.decode_at.Goals as goal

pub returns-in_err-value-clause-only : goal.returns-in_err-value-clause-only
returns-in_err-value-clause-only c = λ x b rest sp e.
    let p = err_from_is_err_and c.from_residual.result c.from_residual.ensures.1 in
    rw (p.1, p.2) (only_err (length c.args.bytes.now) 32 c.split_at.result.1.now c.in_err-value.field-0.0 c.in_err-value.ensures.read x
    b rest
    sp (c.split_at.ensures.back ∙ e))

pub returns-in_err-value-clause-exact : goal.returns-in_err-value-clause-exact
returns-in_err-value-clause-exact c =
    let p = err_from_is_err_and c.from_residual.result c.from_residual.ensures.1 in
    rw (p.1, p.2, ← c.split_at.ensures.back) c.in_err-value.ensures.read

pub overflow_sub-result : goal.overflow_sub-result
overflow_sub-result c =
    let fits : IsBytes c.split_at.result.1.now = rw c.split_at.ensures.back
    (IsBytes-drop c.args.at c.args.bytes.now (λ i. omega (arith, c.type_inv.bytes i))) in
    used (length c.args.bytes.now) 32 c.split_at.result.1.now _ c.value_of.new.cursor.rest.now fits c.in_ok-value.ensures.read

pub returns-clause-found : goal.returns-clause-found
returns-clause-found c =
    let fits : IsBytes c.split_at.result.1.now = rw c.split_at.ensures.back
    (IsBytes-drop c.args.at c.args.bytes.now (λ i. omega (arith, c.type_inv.bytes i))) in
    let f = found (length c.args.bytes.now) 32 c.split_at.result.1.now _ c.value_of.new.cursor.rest.now fits c.in_ok-value.ensures.read in
    let size = drop_size c.args.at c.args.bytes.now c.requires.inside in
    let len : length c.split_at.result.1.now ≡ length c.args.bytes.now - c.args.at = ap length c.split_at.ensures.back ∙ size in
    (omega (arith, len, c.requires.inside), rw (← c.split_at.ensures.back) f.0)

pub returns-clause-only : goal.returns-clause-only
returns-clause-only c = λ x b rest sp e.
    let o = only_ok (length c.args.bytes.now) 32 c.split_at.result.1.now c.in_ok-value.value c.value_of.new.cursor.rest.now
    c.in_ok-value.ensures.read
    x b rest sp (c.split_at.ensures.back ∙ e) in
    rw (o.0, o.1) refl

pub returns-clause-exact : goal.returns-clause-exact
returns-clause-exact c =
    let fits : IsBytes c.split_at.result.1.now = rw c.split_at.ensures.back
    (IsBytes-drop c.args.at c.args.bytes.now (λ i. omega (arith, c.type_inv.bytes i))) in
    let f = found (length c.args.bytes.now) 32 c.split_at.result.1.now _ c.value_of.new.cursor.rest.now fits c.in_ok-value.ensures.read in
    let rest_is : drop (c.args.at + (length c.split_at.result.1.now - length c.value_of.new.cursor.rest.now)) c.args.bytes.now
    ≡ c.value_of.new.cursor.rest.now = drop_more c.args.at _ c.args.bytes.now ∙ rw (← c.split_at.ensures.back) f.1 in
    rw (rest_is, ← c.split_at.ensures.back) c.in_ok-value.ensures.read
