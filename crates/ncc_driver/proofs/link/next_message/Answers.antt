use Rattle.ncc_driver.proofs.link.next_message.Goals as goal

pub returns-in-Err-Again : goal.returns-in-Err-Again
returns-in-Err-Again c = (
  c.in-Err-Again.ensures.err,
  λ stream handed k. (c.in-Err-Again.ensures.again stream handed k).0 (let e = c.in-Err-Again.field-0-is in cc),
)

pub returns-in-Err-TooLong : goal.returns-in-Err-TooLong
returns-in-Err-TooLong c =
    λ stream handed k. (c.in-Err-TooLong.ensures.too_long stream handed k).0 (let e = c.in-Err-TooLong.field-0-is in cc)
