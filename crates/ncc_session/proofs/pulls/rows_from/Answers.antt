use Rattle.ncc_session.proofs.Shares.{rest_is, spent_is}
use Rattle.ncc_session.proofs.pulls.rows_from.Goals as goal

pub returns-then-next-rows-clause-rows : goal.returns-then-next-rows-clause-rows
returns-then-next-rows-clause-rows c =
    spent_is c.args.told.now c.args.number c.args.next c.index-told-number.result c.as_slice-rows.result.now c.if-number-told.false
    c.index-told-number.is c.as_slice-rows.ensures.same c.if-next-rows.true

pub returns-clause-rows : goal.returns-clause-rows
returns-clause-rows c =
    rest_is c.args.told.now c.args.number c.args.next c.index-told-number.result c.as_slice-rows.result.now c.if-number-told.false
    c.index-told-number.is c.as_slice-rows.ensures.same
