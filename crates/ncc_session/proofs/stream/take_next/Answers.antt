use Rattle.ncc_session.proofs.Nexts.{nexts_message, nexts_again, nexts_long}
use Rattle.ncc_session.proofs.stream.take_next.Goals as goal

pub returns-in_ok-take_message-in-Ok-clause-ok : goal.returns-in_ok-take_message-in-Ok-clause-ok
returns-in_ok-take_message-in-Ok-clause-ok c =
    nexts_message _ _ _ _ _ _ _ _ _ c.requires c.in-Ok.ensures.ok c.as_slice.ensures.same c.in_ok-take_message-in-Ok.ensures.ok

pub returns-in-Err-Again-clause-ok : goal.returns-in-Err-Again-clause-ok
returns-in-Err-Again-clause-ok c =
    nexts_again _ _ _ _ _ c.in-Err-Again.ensures.err
    (λ stream handed k. (c.in-Err-Again.ensures.again stream handed k).0 (let e = c.in-Err-Again.field-0-is in cc))

pub returns-in-Err-TooLong-clause-ok : goal.returns-in-Err-TooLong-clause-ok
returns-in-Err-TooLong-clause-ok c =
    nexts_long _ _ _ _ _ c.requires c.in-Err-TooLong.ensures.err
    (λ stream handed k. (c.in-Err-TooLong.ensures.too_long stream handed k).0 (let e = c.in-Err-TooLong.field-0-is in cc))
