use Rattle.std.proofs.Common.{length, refl, arith}
use Rattle.std.proofs.lemmas.Result.{err_from_is_err_and}
use Rattle.ncc_pack.proofs.Laws.{used, found, only_ok, only_err}
use Rattle.ncc_pack.proofs.Trip.{short_is}
use Rattle.ncc_pack.specs.Short.{short}
use Rattle.ncc_pack.proofs.read.decode.Goals as goal

pub returns-in_err-value-clause-only : goal.returns-in_err-value-clause-only
returns-in_err-value-clause-only c = λ x b rest sp e.
    let p = err_from_is_err_and c.from_residual.result c.from_residual.ensures.1 in
    rw (p.1, p.2) (only_err (length c.args.bytes.now) 32 c.args.bytes.now c.in_err-value.field-0.0 c.in_err-value.ensures.read x b rest
    sp e)

pub returns-in_err-value-clause-again : goal.returns-in_err-value-clause-again
returns-in_err-value-clause-again c = λ x rest f e.
    let p = err_from_is_err_and c.from_residual.result c.from_residual.ensures.1 in
    rw (p.1, p.2) (only_err (length c.args.bytes.now) 32 c.args.bytes.now c.in_err-value.field-0.0 c.in_err-value.ensures.read x
    (short x) rest
    (short_is 32 x f) e)

pub overflow_sub-result : goal.overflow_sub-result
overflow_sub-result c = used (length c.args.bytes.now) 32 c.args.bytes.now _ c.value_of.new.cursor.rest.now
    (λ i. omega (arith, c.type_inv.bytes i)) c.in_ok-value.ensures.read

pub returns-clause-found : goal.returns-clause-found
returns-clause-found c = (
  omega arith,
  (found (length c.args.bytes.now) 32 c.args.bytes.now _ c.value_of.new.cursor.rest.now
      (λ i. omega (arith, c.type_inv.bytes i)) c.in_ok-value.ensures.read).0,
)

pub returns-clause-only : goal.returns-clause-only
returns-clause-only c = λ x b rest sp e.
    let o = only_ok (length c.args.bytes.now) 32 c.args.bytes.now c.in_ok-value.value c.value_of.new.cursor.rest.now
    c.in_ok-value.ensures.read x b
    rest sp e in
    rw (o.0, o.1) refl

pub returns-clause-again : goal.returns-clause-again
returns-clause-again c = λ x rest f e.
    let o = only_ok (length c.args.bytes.now) 32 c.args.bytes.now c.in_ok-value.value c.value_of.new.cursor.rest.now
    c.in_ok-value.ensures.read x
    (short x) rest (short_is 32 x f) e in
    rw (o.1, o.0) refl

pub returns-clause-exact : goal.returns-clause-exact
returns-clause-exact c =
    let f = found (length c.args.bytes.now) 32 c.args.bytes.now _ c.value_of.new.cursor.rest.now
    (λ i. omega (arith, c.type_inv.bytes i)) c.in_ok-value.ensures.read in
    rw f.1 c.in_ok-value.ensures.read
