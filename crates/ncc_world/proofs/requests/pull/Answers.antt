use Rattle.ncc_world.proofs.Sending.{pull_fits}
use Rattle.ncc_world.proofs.requests.pull.Goals as goal

pub returns-clause-fits : goal.returns-clause-fits
returns-clause-fits c = rw (c.in_ok-push.ensures.ok, c.new-extra.ensures.empty, c.in_ok-from_str.ensures.same) pull_fits
