use Rattle.std.proofs.lemmas.Result.{IfOk-weaker}
use Rattle.ncc_session.proofs.Requested.{request_fits}
use Rattle.ncc_session.proofs.messages.read.Goals as goal

pub returns-clause-fits : goal.returns-clause-fits
returns-clause-fits c =
    IfOk-weaker c.read_request.result _ _ (λ m s. request_fits c.spelled_fits.ensures.fitting m _ s) c.read_request.ensures.found
