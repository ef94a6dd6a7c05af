use Rattle.std.proofs.Common.{◌≡◌, true, ap, Ok, rules}
use Rattle.std.proofs.lemmas.Result.{err_from_is_err_and}
use Rattle.ncc_pack.specs.declared.error.PackError.TheVariants as p
use Rattle.ncc_tx.proofs.Entries.{Unshaped, unread, pack_refused, none_spelled, bad_shape, more_follows, not_short, no_shape_is}
use Rattle.ncc_tx.proofs.Entries.{null_is, tx_is, is_of, params_fit, steps_refused, steps_answered}
use Rattle.ncc_tx.proofs.read.entry_of.Goals as goal
use Rattle.ncc_tx.proofs.read.entry_of.Goals.{Joined-value-2, In-None, then-used-bytes-via-then-used-bytes}
use Rattle.ncc_tx.proofs.read.entry_of.Goals.{then-used-bytes-via-else-used-bytes+in_ok-is_short+then-not-branch}

pub returns-in-Err : goal.returns-in-Err
returns-in-Err c =
    let other : c.in-Err.error ≡ p.Memory → ⊥ = search rules in
    record {
      found = tt;
      only = λ x f e. absurd (none_spelled c.args.bytes.now (unread c.args.bytes.now c.in-Err.error other c.in-Err.ensures.again) x f e);
      refused = λ x is. pack_refused c.args.bytes.now c.in-Err.error x other c.in-Err.ensures.exact is;
    }

-- more follows, or it is spelled in another way
other_spelling : (c : Joined-value-2) → Unshaped c.args.bytes.now
other_spelling c =
    elim c.then-used-bytes.branch [
      | then-used-bytes-via-then-used-bytes w ↦ more_follows c.args.bytes.now c.in-Ok.read.0 c.in-Ok.read.1 c.in-Ok.ensures.again
          w.if-used-bytes.true
      | then-used-bytes-via-else-used-bytes+in_ok-is_short+then-not-branch w ↦ not_short c.args.bytes.now c.in-Ok.read.0
          c.in-Ok.read.1 c.in-Ok.ensures.again (λ e. let h : w.in_ok-is_short.field-0 ≡ true = w.in_ok-is_short.ensures.1 e in let f =
          w.if-not-branch.true in cc)
    ]

pub returns-then-used-bytes-clause-only : goal.returns-then-used-bytes-clause-only
returns-then-used-bytes-clause-only c = λ x f e. absurd (none_spelled c.args.bytes.now (other_spelling c) x f e)

pub returns-then-used-bytes-clause-refused : goal.returns-then-used-bytes-clause-refused
returns-then-used-bytes-clause-refused c = bad_shape c.args.bytes.now c.in-Ok.read.0 c.in-Ok.read.1 c.in-Ok.ensures.exact (other_spelling c)

-- it is of no shape
other_value : (c : In-None) → Unshaped c.args.bytes.now
other_value c = no_shape_is c.args.bytes.now c.in-Ok.read.0 c.in-Ok.read.1 c.in-Ok.ensures.again
    (rw c.in-None.is at c.in_ok-shape_of.ensures)

pub returns-in-None-clause-only : goal.returns-in-None-clause-only
returns-in-None-clause-only c = λ x f e. absurd (none_spelled c.args.bytes.now (other_value c) x f e)

pub returns-in-None-clause-refused : goal.returns-in-None-clause-refused
returns-in-None-clause-refused c = bad_shape c.args.bytes.now c.in-Ok.read.0 c.in-Ok.read.1 c.in-Ok.ensures.exact (other_value c)

pub returns-in-Some-Noop-clause-only : goal.returns-in-Some-Noop-clause-only
returns-in-Some-Noop-clause-only c = λ x f e.
    let is = rw (c.in-Some-Noop.is, c.in-Some-Noop.field-0-is) at c.in_ok-shape_of.ensures in
    ap Ok (null_is c.args.bytes.now c.in-Ok.read.0 c.in-Ok.read.1 c.in-Ok.ensures.again is.1 x (is_of c.args.bytes.now x f e))

pub steps_of-requires : goal.steps_of-requires
steps_of-requires c =
    let is = rw (c.in-Some-Tx.is, c.in-Some-Tx.field-0-is) at c.in_ok-shape_of.ensures in
    let f = c.spelled_fits.ensures.fitting _ _ c.in-Ok.ensures.found.1 in
    params_fit c.fits_deeper.ensures.deeper c.in-Some-Tx.calls c.in-Some-Tx.told (rw is.1 at f)

pub returns-in_err-steps-in-Some-Tx-clause-only : goal.returns-in_err-steps-in-Some-Tx-clause-only
returns-in_err-steps-in-Some-Tx-clause-only c = λ x f e.
    let is = rw (c.in-Some-Tx.is, c.in-Some-Tx.field-0-is) at c.in_ok-shape_of.ensures in
    let tx = tx_is c.args.bytes.now c.in-Ok.read.0 c.in-Ok.read.1 c.in-Ok.ensures.again c.in-Some-Tx.calls c.in-Some-Tx.told is.1 x
    (is_of c.args.bytes.now x f e) in
    let p = err_from_is_err_and c.from_residual-in_err-steps-in-Some-Tx.result c.from_residual-in_err-steps-in-Some-Tx.ensures.1 in
    rw (p.1, p.2) (steps_refused c.in_err-steps-in-Some-Tx.field-0.0 tx.0 (c.in_err-steps-in-Some-Tx.ensures.only tx.0 tx.1) x)

pub returns-in_ok-steps-in-Some-Tx-clause-only : goal.returns-in_ok-steps-in-Some-Tx-clause-only
returns-in_ok-steps-in-Some-Tx-clause-only c = λ x f e.
    let is = rw (c.in-Some-Tx.is, c.in-Some-Tx.field-0-is) at c.in_ok-shape_of.ensures in
    let tx = tx_is c.args.bytes.now c.in-Ok.read.0 c.in-Ok.read.1 c.in-Ok.ensures.again c.in-Some-Tx.calls c.in-Some-Tx.told is.1 x
    (is_of c.args.bytes.now x f e) in
    steps_answered x c.in_ok-steps-in-Some-Tx.steps tx.0 c.in-Some-Tx.told (c.in_ok-steps-in-Some-Tx.ensures.only tx.0 tx.1) tx.2
