use Rattle.ncc_server.proofs.Lists.{took_all}
use Rattle.ncc_server.proofs.serving.put.Goals as goal

pub returns-in-Err-clause-err : goal.returns-in-Err-clause-err
returns-in-Err-clause-err g c = took_all _ _ _ c.args.bytes.now c.in-Ok.ensures.ok c.in-Err.ensures.same
