use Rattle.std.proofs.lemmas.Result.{on_err_weaker}
use Rattle.ncc_session.proofs.Feeding.{breaks_parts}
use Rattle.ncc_session.proofs.stream.take_piece.Goals as goal

pub returns-clause-err : goal.returns-clause-err
returns-clause-err c =
    on_err_weaker c.take_behind.result
    (λ s. breaks_parts _ _ _ c.in_ok-taken.taken c.args.piece.now _ c.split_at.ensures.back c.in_ok-taken.ensures.ok s)
    c.take_behind.ensures.err
