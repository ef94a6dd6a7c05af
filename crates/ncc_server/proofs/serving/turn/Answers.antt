use Rattle.std.proofs.Common.{◌≡◌, refl, arith}
use Rattle.std.proofs.KnownBytes.{Appends-nil}
use Rattle.ncc_server.proofs.Lists.{consumes_none, tells_none, clock_none, not_read, not_write, not_backend}
use Rattle.ncc_server.proofs.Turning.{ends_unread, ends_over, ends_given}
use Rattle.ncc_server.specs.declared.end.ConnEnd.TheVariants as end
use Rattle.ncc_server.proofs.serving.turn.Goals as goal

pub returns-in-Err-clause-err : goal.returns-in-Err-clause-err
returns-in-Err-clause-err g c =
    ends_unread _ _ _ _ _ _ _ _ c.args.conn.now (consumes_none _ _ c.in-Err.ensures.err) (Appends-nil _) (tells_none _) (clock_none _) refl

pub returns-then-count-eq0-clause-err : goal.returns-then-count-eq0-clause-err
returns-then-count-eq0-clause-err g c =
    ends_over _ _ _ _ _ _ _ _ c.args.conn.now c.over.result (rw c.if-count-eq0.true at c.in-Ok.ensures.ok) (Appends-nil _) (tells_none
    _) (clock_none _) refl
    (c.in-Ok.ensures.end c.if-count-eq0.true (let r = c.requires.room in let a = c.read.auto.into in omega arith)) c.over.ensures.so

pub returns-then-count-eq0-clause-read_failed : goal.returns-then-count-eq0-clause-read_failed
returns-then-count-eq0-clause-read_failed g c e =
    absurd (not_read c.over.result c.over.ensures.over (let i : c.over.result ≡ end.ReadFault = cc in i))

pub returns-then-count-eq0-clause-write_failed : goal.returns-then-count-eq0-clause-write_failed
returns-then-count-eq0-clause-write_failed g c e =
    absurd (not_write c.over.result c.over.ensures.over (let i : c.over.result ≡ end.WriteFault = cc in i))

pub returns-then-count-eq0-clause-answer_failed : goal.returns-then-count-eq0-clause-answer_failed
returns-then-count-eq0-clause-answer_failed g c e =
    absurd (not_backend c.over.result c.over.ensures.over (let i : c.over.result ≡ end.BackendFault = cc in i))

pub returns-in-Err-take_piece-clause-err : goal.returns-in-Err-take_piece-clause-err
returns-in-Err-take_piece-clause-err g c =
    ends_given _ _ _ _ _ _ _ _ c.args.conn.now c.end_by.result _ _ c.end_by.ensures c.in-Ok.ensures.ok c.in-Err-take_piece.ensures.err
