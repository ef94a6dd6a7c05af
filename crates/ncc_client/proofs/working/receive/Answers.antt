use Rattle.std.proofs.Common.{◌∙◌, arith}
use Rattle.ncc_client.proofs.Lists.{none_came, some_came_in, failed}
use Rattle.ncc_client.proofs.working.receive.Goals as goal

pub returns-in-Ok-eq0-clause-ok : goal.returns-in-Ok-eq0-clause-ok
returns-in-Ok-eq0-clause-ok g c =
    none_came _ _ c.in-Ok-eq0.field-0 c.receive.new.into c.in-Ok-eq0.field-0-test
    (let a = c.in_ok-piece.ensures.len in let b = c.as_mut_slice.ensures.len in let d = c.receive.auto.into in omega arith)
    c.in-Ok-eq0.ensures.ok c.in-Ok-eq0.ensures.end

pub returns-in-Ok-clause-ok : goal.returns-in-Ok-clause-ok
returns-in-Ok-clause-ok g c =
    some_came_in _ _ c.in-Ok.count _ c.receive.new.into _ _ c.in-Ok.count-test.1 c.in-Ok.ensures.count
    (let b = c.as_mut_slice.ensures.len in let d = c.receive.auto.into in omega arith) (c.from_vec.ensures.same ∙ c.truncate.ensures.items)
    c.in-Ok.ensures.ok

pub returns-in-Err-clause-ok : goal.returns-in-Err-clause-ok
returns-in-Err-clause-ok g c = failed _ _ c.in-Err.ensures.err c.in-Err.ensures.lost
