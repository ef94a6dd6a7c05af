use Rattle.ncc_session.proofs.Moves.{on_err}
use Rattle.ncc_session.proofs.Feeding.{shake_feeds, shake_breaks}
use Rattle.ncc_session.proofs.stream.take_handshake.Goals as goal

pub returns-in_err-take_shake-clause-err : goal.returns-in_err-take_shake-clause-err
returns-in_err-take_shake-clause-err c =
    on_err c.from_residual.result _ (shake_breaks _ _ _ _ _ _ _ _ _ _ c.requires c.in_err-take_shake.ensures.err)

pub returns-clause-ok : goal.returns-clause-ok
returns-clause-ok c =
    shake_feeds _ _ _ _ _ _ c.args.piece.now _ _ _ _ c.requires c.feed-taken.ensures.taken c.feed-taken.ensures.handshake
    c.feed-taken.ensures.answer c.in_ok-take_shake.ensures.ok
