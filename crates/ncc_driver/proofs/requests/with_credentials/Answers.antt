use Rattle.ncc_driver.proofs.Sending.{credentials_on}
use Rattle.ncc_driver.proofs.requests.with_credentials.Goals as goal

pub returns-in_ok-pairs-in-Basic-3 : goal.returns-in_ok-pairs-in-Basic-3
returns-in_ok-pairs-in-Basic-3 c =
    credentials_on _ _ _ _ _ _ _ _ _ c.in-Basic.is c.as_str.ensures.same c.as_str-in-Basic.ensures.same c.in_ok-pairs-in-Basic.ensures
    c.in_ok-pairs-in-Basic-2.ensures c.in_ok-pairs-in-Basic-3.ensures
