use Rattle.std.proofs.KnownBytes.{Appends-nil}
use Rattle.ncc_server.proofs.Lists.{tells_none, clock_none, ok_on, err_on}
use Rattle.ncc_server.proofs.Alive.{is_live_fed}
use Rattle.ncc_server.proofs.Settles.{fed_settled, fed_unsettled, not_fed}
use Rattle.ncc_server.proofs.serving.take_piece.Goals as goal

pub settle-requires-clause-live : goal.settle-requires-clause-live
settle-requires-clause-live g c = is_live_fed _ _ c.args.piece.now c.in-Ok.ensures.ok c.requires.live

pub returns-in-Ok-clause-ok : goal.returns-in-Ok-clause-ok
returns-in-Ok-clause-ok g c =
    ok_on _ _ c.settle.result c.settle.ensures.ok
    (λ h. fed_settled _ _ _ _ _ _ c.args.piece.now c.args.conn.now _ _ c.in-Ok.ensures.ok c.requires.none h)

pub returns-in-Ok-clause-err : goal.returns-in-Ok-clause-err
returns-in-Ok-clause-err g c =
    err_on _ _ c.settle.result c.settle.ensures.err
    (λ b h. fed_unsettled _ _ _ _ _ _ c.args.piece.now c.args.conn.now _ b c.in-Ok.ensures.ok c.requires.none h)

pub returns-in-Err-clause-err : goal.returns-in-Err-clause-err
returns-in-Err-clause-err g c =
    not_fed _ _ _ _ _ _ c.args.piece.now c.args.conn.now _ c.in-Err.ensures.err c.requires.none (Appends-nil _) (tells_none _)
    (clock_none _)
